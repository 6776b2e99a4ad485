-- Rows of numbers as parts of a text.
use Rattle.std.proofs.Common.{◌≡◌, ℕ, zero, suc, ◌+◌, ◌*◌, ◌/◌, ◌%◌, ◌<◌, ◌≤◌, true, eqb, List, [], ◌∷◌, ◌++◌, map, length, get_or, take, is_ok, Result, sym, refl, ap, ◌∙◌, subst, inl, inr, add-one, arith, MatchResult}
use Rattle.std.specs.List.{range_with_len, flat_map}
use Rattle.std.proofs.lemmas.List.FromFn.{map-range_with_len_more}
use Rattle.std.proofs.lemmas.List.{flat_map_more, take_more, take_all, length-take-le, append_assoc}
use Rattle.std.proofs.lemmas.Bool.{cases_Bool, cond-true, cond-false}
use Rattle.protocol.specs.declared.fault.Fault.{Fault}
use Rattle.protocol.specs.Bytes.{word, le16}
use Rattle.protocol.specs.Scheme.{words}
use Rattle.protocol.specs.Sharing.{parts}
use Rattle.digest.specs.Feeding.{Ready}
use Rattle.digest.specs.Making.{Making, takes, Took}
use Rattle.digest.proofs.Taking.{took_ok, took_both}
use Rattle.shares.specs.Shown.{audited_share}

pub length-coded : (xs : List ℕ) → length (flat_map le16 xs) ≡ 2 * length xs
length-coded [] = refl
length-coded (x ∷ xs) = omega (arith, length-coded xs)

-- one number more
coded_more : (ws : List ℕ) (i : ℕ) (z : List ℕ) → i < length ws → z ≡ le16 (get_or ws i 0) → flat_map le16 (take i ws) ++ z ≡ flat_map le16 (take (i + 1) ws)
coded_more ws i z h is =
    ap (λ b. flat_map le16 (take i ws) ++ b) is ∙ flat_map_more le16 [] (take i ws) (get_or ws i 0) ∙ ap (flat_map le16) (sym (take_more ws i 0 h))

-- the take of the next number of a row is not refused
pub word_taken : (r : Result (Unit {0}) Fault) (m m' m'' : Making) (ws : List ℕ) (i : ℕ) (z : List ℕ) → i < length ws → z ≡ le16 (get_or ws i 0) → Ready (2 * length ws) m →
    Took (flat_map le16 (take i ws)) m m' → r ≡ takes m' (length z) → MatchResult r (λ _. Took z m' m'') (λ _. m'' ≡ m') →
    (is_ok r ≡ true) × Took (flat_map le16 (take (i + 1) ws)) m m''
word_taken r m m' m'' ws i z h is ready was a k =
    let long : length z ≡ 2 = ap length is in
    let fits : Ready (length z) m' = (was.drawn ∙ ready.0, omega (arith, was.taken, ready.1, length-coded (take i ws), length-take-le i ws (omega arith))) in
    let ok = took_ok r m' m'' z fits a k in
    (ok.0, subst (λ t. Took t m m'') (coded_more ws i z h is) (took_both was ok.1))

-- a row as the parts that its numbers are
pub coded_parts : (n : ℕ) (f : ℕ → ℕ) → flat_map le16 (map f (range_with_len 0 n)) ≡ parts n (λ i. le16 (f i))
coded_parts zero f = refl
coded_parts (suc n) f =
    ap (λ m. flat_map le16 (map f (range_with_len 0 m))) (sym (add-one n))
    ∙ ap (flat_map le16) (map-range_with_len_more f 0 n n (omega arith))
    ∙ sym (flat_map_more le16 [] (map f (range_with_len 0 n)) (f n))
    ∙ ap (λ t. t ++ le16 (f n)) (coded_parts n f)

-- the numbers of bytes, written again
pub coded_words : (bytes : List ℕ) (n : ℕ) → length bytes ≡ 2 * n → ((i : ℕ) → get_or bytes i 0 < 256) → flat_map le16 (words bytes n) ≡ bytes
coded_words bytes n long small =
    coded_parts n (λ k. word bytes (2 * k)) ∙ front n (omega arith) ∙ take_all (2 * n) bytes (omega arith)
  where
    low : (a b : ℕ) → a < 256 → (a + 256 * b) % 256 ≡ a
    low a b p = omega arith

    high : (a b : ℕ) → a < 256 → b < 256 → (a + 256 * b) / 256 % 256 ≡ b
    high a b p q = omega arith

    pair : (a b : ℕ) → a < 256 → b < 256 → le16 (a + 256 * b) ≡ a ∷ b ∷ []
    pair a b p q = λ i. low a b p i ∷ high a b p q i ∷ []

    front : (k : ℕ) → 2 * k ≤ length bytes → parts k (λ i. le16 (word bytes (2 * i))) ≡ take (2 * k) bytes
    front zero h = refl
    front (suc k) h =
        (λ i. front k (omega arith) i ++ pair (get_or bytes (2 * k) 0) (get_or bytes (2 * k + 1) 0) (small (2 * k)) (small (2 * k + 1)) i)
        ∙ sym (append_assoc (take (2 * k) bytes) (get_or bytes (2 * k) 0 ∷ []) (get_or bytes (2 * k + 1) 0 ∷ []))
        ∙ ap (λ t. t ++ (get_or bytes (2 * k + 1) 0 ∷ [])) (sym (take_more bytes (2 * k) 0 (omega arith)))
        ∙ sym (take_more bytes (2 * k + 1) 0 (omega arith))
        ∙ ap (λ n. take n bytes) (let e : 2 * k + 1 + 1 ≡ 2 * suc k = omega arith in e)

pub audited_short : (flags : List ℕ) (v : ℕ → ℕ) (k : ℕ) → length (audited_share flags v k) ≤ 2
audited_short flags v k =
    elim (cases_Bool (eqb (get_or flags k 0) 1)) [
      | inl t ↦ omega (arith, ap length (cond-true _ [] (le16 (v k)) t))
      | inr t ↦ omega (arith, ap length (cond-false _ [] (le16 (v k)) t))
    ]
