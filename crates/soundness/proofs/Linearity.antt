-- The image of a sum of many is the sum of the images.
use Rattle.std.proofs.Common.{◌≡◌, ℕ, zero, suc, eqb, List, sym, ap, ◌∙◌, inl, inr}
use Rattle.std.proofs.lemmas.Bool.{cases_Bool, cond-true, cond-false}
use Rattle.soundness.proofs.Sums.{cancel}
use Rattle.protocol.specs.Group.{total, others}
use Rattle.protocol.specs.Rule.{Rule, LawfulRule}

module _ {G : Type 0} {k : Rule G} (l : LawfulRule k) where
  image_none : (a : List ℕ) (i : ℕ) → k.image a (λ m. k.entries.none) i ≡ k.entries.none
  image_none a i =
      let z : G = k.image a (λ m. k.entries.none) i in
      let twice : z ≡ k.entries.add z z =
      ap (λ v. k.image a (λ m. v) i) (sym (l.entries.start k.entries.none ∙ l.entries.least_none)) ∙ l.sums a (λ m. k.entries.none) (λ m. k.entries.none) i in
      let once : k.entries.add k.entries.none z ≡ z = l.entries.start z ∙ l.least a (λ m. k.entries.none) i in
      sym (l.least a (λ m. k.entries.none) i) ∙ cancel l.entries z k.entries.none z (sym twice ∙ sym once) ∙ l.entries.least_none

  pub image_total : (a : List ℕ) (n : ℕ) (f : ℕ → ℕ → G) (i : ℕ) →
      k.image a (λ m. total k.entries n (λ j. f j m)) i ≡ total k.entries n (λ j. k.image a (f j) i)
  image_total a zero f i = image_none a i
  image_total a (suc n) f i =
      l.sums a (λ m. total k.entries n (λ j. f j m)) (f n) i ∙ ap (λ z. k.entries.add z (k.image a (f n) i)) (image_total a n f i)

  -- the same without party p: one image serves for all the others
  pub image_others : (a : List ℕ) (n p : ℕ) (f : ℕ → ℕ → G) (i : ℕ) →
      k.image a (λ m. others k.entries n p (λ j. f j m)) i ≡ others k.entries n p (λ j. k.image a (f j) i)
  image_others a zero p f i = image_none a i
  image_others a (suc n) p f i =
      elim (cases_Bool (eqb n p)) [
        | inl t ↦
            (λ d. k.image a (λ m. cond-true (eqb n p) (others k.entries n p (λ j. f j m)) (k.entries.add (others k.entries n p (λ j. f j m)) (f n m)) t d) i)
            ∙ image_others a n p f i ∙ sym (cond-true _ _ _ t)
        | inr t ↦
            (λ d. k.image a (λ m. cond-false (eqb n p) (others k.entries n p (λ j. f j m)) (k.entries.add (others k.entries n p (λ j. f j m)) (f n m)) t d) i)
            ∙ l.sums a (λ m. others k.entries n p (λ j. f j m)) (f n) i
            ∙ ap (λ z. k.entries.add z (k.image a (f n) i)) (image_others a n p f i) ∙ sym (cond-false _ _ _ t)
      ]
