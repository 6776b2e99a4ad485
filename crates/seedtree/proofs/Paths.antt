-- The path to a leaf, and the places beside it.
use Rattle.std.proofs.Common.{◌≡◌, ℕ, suc, ◌+◌, ◌-◌, ◌*◌, ◌/◌, ◌%◌, ◌^◌, ◌<◌, ◌≤◌, sym, ap, ◌∙◌, subst, inl, inr, div-one, add-one, arith, pow_mono}
use Rattle.std.proofs.lemmas.Nat.{shr_below, one_shl}
use Rattle.std.proofs.lemmas.Bool.{eq-eqb, ne_eqb, cond-true, cond-false, cases_eq}
use Rattle.protocol.specs.Tree.{above, beside}
use Rattle.soundness.proofs.Trees.{above_half}

pub above_small : (h p t : ℕ) → t ≤ h → p < 2 ^ h → above h p t < 2 ^ t
above_small h p t le small = shr_below p t (h - t) (subst (λ n. p < 2 ^ n) (let e : h ≡ t + (h - t) = omega arith in e) small)

pub above_leaf : (h p : ℕ) → above h p h ≡ p
above_leaf h p = ap (λ n. p / 2 ^ n) (let e : h - h ≡ 0 = omega arith in e) ∙ div-one p

-- of two children of a node, one is beside the other
pub other_half : (a i : ℕ) → i / 2 ≡ a / 2 → (i ≡ a → ⊥) → beside a ≡ i
other_half a i e not =
    elim (cases_eq (a % 2) 0) [
      | inl z ↦ cond-true _ _ _ (eq-eqb (a % 2) 0 z) ∙ (let k : a + 1 ≡ i = omega arith in k)
      | inr o ↦ cond-false _ _ _ (ne_eqb (a % 2) 0 o) ∙ (let k : a - 1 ≡ i = omega arith in k)
    ]

beside_half : (a : ℕ) → beside a / 2 ≡ a / 2
beside_half a =
    elim (cases_eq (a % 2) 0) [
      | inl z ↦ ap (λ n. n / 2) (cond-true _ (a + 1) (a - 1) (eq-eqb (a % 2) 0 z)) ∙ (let k : (a + 1) / 2 ≡ a / 2 = omega arith in k)
      | inr o ↦ ap (λ n. n / 2) (cond-false _ (a + 1) (a - 1) (ne_eqb (a % 2) 0 o)) ∙ (let k : (a - 1) / 2 ≡ a / 2 = omega arith in k)
    ]

-- a place beside the path is a child of the path
pub beside_above : (h p t : ℕ) → t < h → beside (above h p (suc t)) / 2 ≡ above h p t
beside_above h p t less = beside_half (above h p (suc t)) ∙ above_half h p t less

-- and stands in its level
pub beside_small : (h p t : ℕ) → t < h → p < 2 ^ h → beside (above h p (t + 1)) < 2 ^ (t + 1)
beside_small h p t less small =
    let half = beside_above h p t less in
    let low = above_small h p t (omega arith) small in
    let q : beside (above h p (suc t)) < 2 ^ suc t = omega arith in
    subst (λ n. beside (above h p n) < 2 ^ n) (sym (add-one t)) q

-- a level that is not the last, the path's place in it, and the place beside the path in the next
pub level_fits : {h p t width : ℕ} → t < h → h ≤ 8 → p < 2 ^ h → width ≡ 2 ^ t → (2 * width ≤ 2 ^ h) × (2 ^ h ≤ 256) × (above h p t < width)
level_fits {h} {p} {t} {width} less few small wide =
    let next : 2 ^ suc t ≤ 2 ^ h = pow_mono {i = suc t} {j = h} less in
    let most : 2 ^ h ≤ 2 ^ 8 = pow_mono {i = h} {j = 8} few in
    let low = above_small h p t (omega arith) small in
    (omega arith, most, omega arith)

pub beside_fits : {h p t width place : ℕ} → t < h → p < 2 ^ h → width ≡ 2 ^ t → place ≡ beside (above h p (t + 1)) → place < 2 * width
beside_fits {h} {p} {t} {width} {place} less small wide is =
    let low : beside (above h p (t + 1)) < 2 ^ suc t = subst (λ n. beside (above h p (t + 1)) < 2 ^ n) (add-one t) (beside_small h p t less small) in
    omega arith

-- the width of a level, as a shift makes it
pub level_wide : {h : ℕ} (t : ℕ) → t < h → h ≤ 8 → 1 * 2 ^ t % 2 ^ 64 ≡ 2 ^ t
level_wide t less few = one_shl t 64 (omega arith)

pub next_wide : (t width : ℕ) → width ≡ 2 ^ t → 2 * width ≡ 2 ^ (t + 1)
next_wide t width wide = (let e : 2 * width ≡ 2 ^ suc t = omega arith in e) ∙ ap (λ n. 2 ^ n) (sym (add-one t))
