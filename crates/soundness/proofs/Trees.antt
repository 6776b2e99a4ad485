-- The siblings of a path give every leaf but its own.
use Rattle.std.proofs.Common.{◌≡◌, ℕ, zero, suc, ◌+◌, ◌-◌, ◌/◌, ◌%◌, ◌^◌, ◌<◌, ◌≤◌, List, [], sym, ap, ◌∙◌, subst, inl, inr, div-one, add-one, arith}
use Rattle.std.proofs.lemmas.Nat.{shr-shr, shr_below}
use Rattle.std.proofs.lemmas.List.FromFn.{get_or-map-range_with_len}
use Rattle.std.proofs.lemmas.Bool.{eq-eqb, ne_eqb, cond-true, cond-false, cases_eq}
use Rattle.protocol.specs.Tree.{seed_at, above, beside, siblings, regrown, Regrows}

pub above_half : (h p t : ℕ) → t < h → above h p (suc t) / 2 ≡ above h p t
above_half h p t q = shr-shr p (h - suc t) 1 ∙ ap (λ n. p / 2 ^ n) (let e : h - suc t + 1 ≡ h - t = omega arith in e)

other_half : (a i : ℕ) → i / 2 ≡ a / 2 → (i ≡ a → ⊥) → beside a ≡ i
other_half a i e not =
    elim (cases_eq (a % 2) 0) [
      | inl z ↦ cond-true _ _ _ (eq-eqb (a % 2) 0 z) ∙ (let k : a + 1 ≡ i = omega arith in k)
      | inr o ↦ cond-false _ _ _ (ne_eqb (a % 2) 0 o) ∙ (let k : a - 1 ≡ i = omega arith in k)
    ]

module _ (child : ℕ → ℕ → List ℕ → List ℕ) (root : List ℕ) (h p : ℕ) (small : p < 2 ^ h) where
  regrown_at : (t i : ℕ) → t ≤ h → i < 2 ^ t → (i ≡ above h p t → ⊥) → regrown child h p (siblings child root h p) t i ≡ seed_at child root t i
  regrown_at zero i q r not =
      let a : p / 2 ^ (h - 0) < 1 = subst (λ n. p / 2 ^ n < 1) (let e : h ≡ h - 0 = omega arith in e) (shr_below p 0 h (subst (λ n. p < 2 ^ n) (let e : h ≡ 0 + h = omega arith in e) small)) in
      absurd (not (omega arith))
  regrown_at (suc t) i q r not =
      elim (cases_eq (i / 2) (above h p t)) [
        | inl is ↦
            cond-true _ _ _ (eq-eqb (i / 2) (above h p t) is)
            ∙ get_or-map-range_with_len _ 0 h t t [] (omega arith) (omega arith)
            ∙ ap (λ n. seed_at child root n (beside (above h p n))) (add-one t)
            ∙ ap (seed_at child root (suc t)) (other_half (above h p (suc t)) i (is ∙ sym (above_half h p t q)) not)
        | inr off ↦
            cond-false _ _ _ (ne_eqb (i / 2) (above h p t) off)
            ∙ ap (child (2 ^ t + i / 2) (i % 2)) (regrown_at t (i / 2) (omega arith) (omega arith) off)
      ]

pub regrows : Regrows
regrows child root h p small j r not = regrown_at child root h p small h j (omega arith) r (λ e. not (e ∙ ap (λ n. p / 2 ^ n) (let z : h - h ≡ 0 = omega arith in z) ∙ div-one p))
