-- An offset is added to party 0's share alone.
use Rattle.std.proofs.Common.{◌≡◌, ℕ, zero, suc, ◌<◌, cond, eqb, sym, ap, ◌∙◌, inl, inr, arith}
use Rattle.std.proofs.lemmas.Bool.{cases_eq, cond-true, cond-false, eq-eqb, ne_eqb}
use Rattle.protocol.specs.Group.{Entries, Lawful, others}
use Rattle.soundness.proofs.Sums.{others_same}

module _ {G : Type 0} {g : Entries G} (l : Lawful g) (w : ℕ → G) (o : G) where
  abbrev row : ℕ → G
  row j = cond (eqb j 0) (g.add (w j) o) (w j)

  row_later : (j : ℕ) → (j ≡ 0 → ⊥) → row j ≡ w j
  row_later j not = cond-false (eqb j 0) (g.add (w j) o) (w j) (ne_eqb j 0 not)

  -- so the sum of all others has it, unless party 0 is the one left out
  pub others_with : (n p : ℕ) → 0 < n → (p ≡ 0 → ⊥) → others g n p row ≡ g.add (others g n p w) o
  others_with zero p some not = absurd (omega arith)
  others_with (suc zero) p some not =
      cond-false (eqb 0 p) _ _ (ne_eqb 0 p (λ e. not (sym e)))
      ∙ sym (l.assoc g.none (w 0) o)
      ∙ ap (λ z. g.add z o) (sym (cond-false (eqb 0 p) g.none (g.add g.none (w 0)) (ne_eqb 0 p (λ e. not (sym e)))))
  others_with (suc (suc n)) p some not =
      elim (cases_eq (suc n) p) [
        | inl is ↦
            cond-true (eqb (suc n) p) _ _ (eq-eqb (suc n) p is)
            ∙ others_with (suc n) p (omega arith) not
            ∙ ap (λ z. g.add z o) (sym (cond-true (eqb (suc n) p) _ _ (eq-eqb (suc n) p is)))
        | inr off ↦
            cond-false (eqb (suc n) p) _ _ (ne_eqb (suc n) p off)
            ∙ (λ i. g.add (others_with (suc n) p (omega arith) not i) (row_later (suc n) (λ e. omega arith) i))
            ∙ l.assoc (others g (suc n) p w) o (w (suc n))
            ∙ ap (g.add (others g (suc n) p w)) (l.comm o (w (suc n)))
            ∙ sym (l.assoc (others g (suc n) p w) (w (suc n)) o)
            ∙ ap (λ z. g.add z o) (sym (cond-false (eqb (suc n) p) _ _ (ne_eqb (suc n) p off)))
      ]

  pub others_without : (n p : ℕ) → p ≡ 0 → others g n p row ≡ others g n p w
  others_without n p is = others_same l n p row w (λ j q off. row_later j (λ e. off (e ∙ sym is)))
