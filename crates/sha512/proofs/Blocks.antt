-- A list in blocks of n, and what follows them.
use Rattle.std.proofs.Common.{◌≡◌, ℕ, zero, suc, ◌+◌, ◌*◌, ◌/◌, List, ◌++◌, length, take, drop, sym, ap, ap₂, ◌∙◌, arith}
use Rattle.std.specs.List.{concat}
use Rattle.std.specs.Simd.{first_chunks}
use Rattle.std.proofs.lemmas.List.{take-append-drop, take-take, drop-take}

concat-first_chunks : (n k : ℕ) (xs : List ℕ) → concat (first_chunks n k xs) ≡ take (k * n) xs
concat-first_chunks n zero xs =
    let e : 0 ≡ 0 * n = omega arith in
    ap (λ m. take m xs) e
concat-first_chunks n (suc k) xs =
    let e : n + k * n ≡ suc k * n = grind arith in
    ap (λ z. take n xs ++ z) (concat-first_chunks n k (drop n xs))
    ∙ ap₂ ◌++◌ (sym (take-take n (n + k * n) xs (omega arith))) (sym (drop-take n (k * n) xs))
    ∙ take-append-drop n (take (n + k * n) xs) ∙ ap (λ m. take m xs) e

-- the first m, then whole blocks, then the rest
pub in_blocks : (bytes front rest back : List ℕ) (m n : ℕ) (blocks : List (List ℕ)) → front ≡ take m bytes → rest ≡ drop m bytes
    → blocks ≡ first_chunks n (length rest / n) rest → back ≡ drop (length rest / n * n) rest → front ++ (concat blocks ++ back) ≡ bytes
in_blocks bytes front rest back m n blocks first second cut last =
    ap₂ (λ x y. x ++ y) first
    (ap₂ (λ x y. concat x ++ y) cut last ∙ ap (λ z. z ++ drop (length rest / n * n) rest) (concat-first_chunks n (length rest / n) rest)
    ∙ take-append-drop (length rest / n * n) rest ∙ second)
    ∙ take-append-drop m bytes
