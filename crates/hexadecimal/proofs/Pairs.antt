-- A text, cut into pairs from the front.
use Rattle.std.proofs.Common.{◌≡◌, ℕ, zero, suc, ◌+◌, ◌-◌, ◌*◌, ◌/◌, ◌<◌, List, [], length, get_or, take, drop, ap, ◌∙◌, add-zero, refl, arith}
use Rattle.std.specs.Simd.{first_chunks}
use Rattle.std.proofs.lemmas.List.{drop-drop, get_or-take, get_or-drop}

nth_pair : (text : List ℕ) (n k : ℕ) → k < n → get_or (first_chunks 2 n text) k [] ≡ take 2 (drop (2 * k) text)
nth_pair text zero k lt = absurd (omega arith)
nth_pair text (suc n) zero lt = refl
nth_pair text (suc n) (suc k) lt =
    nth_pair (drop 2 text) n k (omega arith)
    ∙ ap (take 2) (drop-drop (2 * k) 2 text ∙ ap (λ i. drop i text) (let e : 2 + 2 * k ≡ 2 * suc k = omega arith in e))

-- the two characters of pair k
pub at_pair : (text bytes : List ℕ) (pairs : List (List ℕ)) (k : ℕ) → pairs ≡ first_chunks 2 (length bytes / 2) bytes → bytes ≡ text →
    k < length text / 2 →
    (get_or (get_or pairs k []) 0 0 ≡ get_or text (2 * k) 0) × (get_or (get_or pairs k []) 1 0 ≡ get_or text (2 * k + 1) 0)
at_pair text bytes pairs k cut same lt =
    let pair : get_or pairs k [] ≡ take 2 (drop (2 * k) text) =
    ap (λ ps. get_or ps k []) (cut ∙ ap (λ t. first_chunks 2 (length t / 2) t) same) ∙ nth_pair text (length text / 2) k lt in (
      ap (λ p. get_or p 0 0) pair ∙ get_or-take 2 (drop (2 * k) text) 0 0 (omega arith) ∙ get_or-drop (2 * k) text 0 0
          ∙ ap (λ i. get_or text i 0) (add-zero (2 * k)),
      ap (λ p. get_or p 1 0) pair ∙ get_or-take 2 (drop (2 * k) text) 1 0 (omega arith) ∙ get_or-drop (2 * k) text 1 0,
    )

-- the character that is left
pub at_rest : (text bytes rest : List ℕ) → rest ≡ drop (length bytes / 2 * 2) bytes → bytes ≡ text →
    length bytes / 2 * 2 ≡ length text - 1 →
    get_or rest 0 0 ≡ get_or text (length text - 1) 0
at_rest text bytes rest left same odd =
    ap (λ r. get_or r 0 0) (left ∙ ap (drop (length bytes / 2 * 2)) same) ∙ get_or-drop (length bytes / 2 * 2) text 0 0
    ∙ ap (λ i. get_or text i 0) (add-zero (length bytes / 2 * 2) ∙ odd)
