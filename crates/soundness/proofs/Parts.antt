-- The fields of equal texts are equal.
use Rattle.std.proofs.Common.{◌≡◌, ℕ, zero, suc, ◌+◌, ◌<◌, List, [], ◌∷◌, ◌++◌, length, take, drop, sym, refl, ap, ◌∙◌, inl, inr, arith}
use Rattle.std.specs.List.{flat_map, AllByRecursion}
use Rattle.std.proofs.lemmas.List.{take_at, drop_at, length-append}
use Rattle.std.proofs.lemmas.Bool.{cases_eq}
use Rattle.protocol.specs.Group.{Entries, Lawful}
use Rattle.protocol.specs.Sharing.{parts}

pub same_append : {X : Type 0} (a b c d : List X) → length a ≡ length c → a ++ b ≡ c ++ d → (a ≡ c) × (b ≡ d)
same_append a b c d n e = (
  sym (take_at a b (length c) n) ∙ ap (take (length c)) e ∙ take_at c d (length c) refl,
  sym (drop_at a b (length c) n) ∙ ap (drop (length c)) e ∙ drop_at c d (length c) refl,
)

pub same_cons : {X : Type 0} (a c : X) (b d : List X) → a ∷ b ≡ c ∷ d → (a ≡ c) × (b ≡ d)
same_cons a c b d e = (cc, cc)

pub length-parts : (n : ℕ) (f h : ℕ → List ℕ) → ((k : ℕ) → k < n → length (f k) ≡ length (h k)) → length (parts n f) ≡ length (parts n h)
length-parts zero f h e = refl
length-parts (suc n) f h e =
    length-append (parts n f) (f n)
    ∙ (λ i. length-parts n f h (λ k q. e k (omega arith)) i + e n (omega arith) i)
    ∙ sym (length-append (parts n h) (h n))

pub same_parts : (n : ℕ) (f h : ℕ → List ℕ) → ((k : ℕ) → k < n → length (f k) ≡ length (h k)) → parts n f ≡ parts n h →
    (k : ℕ) → k < n → f k ≡ h k
same_parts zero f h long e k q = absurd (omega arith)
same_parts (suc n) f h long e k q =
    let cut = same_append (parts n f) (f n) (parts n h) (h n) (length-parts n f h (λ j r. long j (omega arith))) e in
    elim (cases_eq k n) [
      | inl is ↦ ap f is ∙ cut.1 ∙ ap h (sym is)
      | inr not ↦ same_parts n f h (λ j r. long j (omega arith)) cut.0 k (omega arith)
    ]

pub parts_same : (n : ℕ) (f h : ℕ → List ℕ) → ((k : ℕ) → k < n → f k ≡ h k) → parts n f ≡ parts n h
parts_same zero f h e = refl
parts_same (suc n) f h e = λ i. parts_same n f h (λ k q. e k (omega arith)) i ++ e n (omega arith) i

module _ {G : Type 0} {g : Entries G} (l : Lawful g) where
  -- rows of entries in least form are told by their bytes
  pub same_coded : (xs ys : List G) → length xs ≡ length ys → AllByRecursion (λ x. g.norm x ≡ x) xs → AllByRecursion (λ y. g.norm y ≡ y) ys →
      flat_map g.code xs ≡ flat_map g.code ys → xs ≡ ys
  same_coded [] [] n p q e = refl
  same_coded [] (y ∷ ys) n p q e = absurd (omega arith)
  same_coded (x ∷ xs) [] n p q e = absurd (omega arith)
  same_coded (x ∷ xs) (y ∷ ys) n p q e =
      let cut = same_append (g.code x) (flat_map g.code xs) (g.code y) (flat_map g.code ys) (l.as_long x y) e in
      let one : x ≡ y = sym p.0 ∙ l.told x y (ap g.code p.0 ∙ cut.0 ∙ sym (ap g.code q.0)) ∙ q.0 in
      let m : length xs ≡ length ys = omega arith in
      λ i. one i ∷ same_coded xs ys m p.1 q.1 cut.1 i

  pub length-coded : (xs ys : List G) → length xs ≡ length ys → length (flat_map g.code xs) ≡ length (flat_map g.code ys)
  length-coded [] [] n = refl
  length-coded [] (y ∷ ys) n = absurd (omega arith)
  length-coded (x ∷ xs) [] n = absurd (omega arith)
  length-coded (x ∷ xs) (y ∷ ys) n =
      let m : length xs ≡ length ys = omega arith in
      length-append (g.code x) (flat_map g.code xs)
      ∙ (λ i. l.as_long x y i + length-coded xs ys m i)
      ∙ sym (length-append (g.code y) (flat_map g.code ys))
