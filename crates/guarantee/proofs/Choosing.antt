-- The selection keeps σ values, and flags are read back from their bits.
use Rattle.std.proofs.Common.{◌≡◌, ℕ, zero, suc, ◌+◌, ◌-◌, ◌*◌, ◌/◌, ◌%◌, ◌^◌, ◌<◌, ◌≤◌, false, eqb, List, [], ◌∷◌, length, get_or, set, replicate, sym, refl, ap, ◌∙◌, subst, inl, inr, one-add, arith}
use Rattle.std.proofs.lemmas.List.{length-set, length-replicate, get_or-set_same, get_or-set_other}
use Rattle.std.proofs.lemmas.Nat.{shr-shr, mod_below}
use Rattle.std.proofs.lemmas.List.FromFn.{get_or-map-range_with_len, length-map-range_with_len, fill_by_all}
use Rattle.std.proofs.lemmas.Bool.{cond-true, cond-false, cases_eq, cases_Bool}
use Rattle.protocol.specs.Flags.{ones, bits, packed, unpacked}
use Rattle.protocol.specs.Selection.{little, keep, picks, selected, hidden_parties}

get_or-zeros : (m k : ℕ) → ◌≡◌ {A = ℕ} (get_or (replicate m 0) k 0) 0
get_or-zeros zero k = refl
get_or-zeros (suc m) zero = refl
get_or-zeros (suc m) (suc k) = get_or-zeros m k

ones_zeros : (m : ℕ) → ones (replicate m 0) ≡ 0
ones_zeros zero = refl
ones_zeros (suc m) = ones_zeros m

ones_set : (f : List ℕ) (p : ℕ) → p < length f → eqb (get_or f p 0) 1 ≡ false → ones (set f p 1) ≡ suc (ones f)
ones_set [] p h e = absurd (omega arith)
ones_set (b ∷ f) zero h e = ap suc (sym (cond-false _ _ _ e))
ones_set (b ∷ f) (suc p) h e =
    let r : ones (set f p 1) ≡ suc (ones f) = ones_set f p (omega arith) e in
    elim (cases_Bool (eqb b 1)) [
      | inl y ↦ cond-true _ _ _ y ∙ ap suc r ∙ ap suc (sym (cond-true _ _ _ y))
      | inr y ↦ cond-false _ _ _ y ∙ r ∙ ap suc (sym (cond-false _ _ _ y))
    ]

pub record Picked (f : List ℕ) (m sigma i : ℕ) : Type 0 where
  pub long : length f ≡ m
  pub free : (k : ℕ) → m - sigma + i ≤ k → get_or f k 0 ≡ 0
  pub flag : (k : ℕ) → get_or f k 0 < 2
  pub many : ones f ≡ i

-- one more at a kept_index that is not kept yet
set_picked : (f : List ℕ) (m sigma i p : ℕ) → Picked f m sigma i → p < m → p ≤ m - sigma + i → eqb (get_or f p 0) 1 ≡ false → Picked (set f p 1) m sigma (suc i)
set_picked f m sigma i p k q r e = record {
  long = length-set f p 1 ∙ k.long;
  free = λ j h. get_or-set_other f p j 1 0 (λ z. omega arith) ∙ k.free j (omega arith);
  flag = λ j. elim (cases_eq j p) [
    | inl is ↦ let z : get_or (set f p 1) j 0 ≡ 1 = ap (λ n. get_or (set f p 1) n 0) is ∙ get_or-set_same f p 1 0 (let n = k.long in omega arith) in omega arith
    | inr not ↦ subst (λ n. n < 2) (sym (get_or-set_other f p j 1 0 not)) (k.flag j)
  ];
  many = ones_set f p (let n = k.long in omega arith) e ∙ ap suc k.many;
}

keep_picked : (f : List ℕ) (m sigma i t : ℕ) → Picked f m sigma i → m - sigma + i < m → t ≤ m - sigma + i → Picked (keep f (m - sigma + i) t) m sigma (suc i)
keep_picked f m sigma i t k h le =
    elim (cases_Bool (eqb (get_or f t 0) 1)) [
      | inl y ↦ subst (λ p. Picked (set f p 1) m sigma (suc i)) (sym (cond-true (eqb (get_or f t 0) 1) (m - sigma + i) t y))
          (set_picked f m sigma i (m - sigma + i) k h (omega arith) (ap (λ n. eqb n 1) (k.free (m - sigma + i) (omega arith))))
      | inr y ↦ subst (λ p. Picked (set f p 1) m sigma (suc i)) (sym (cond-false (eqb (get_or f t 0) 1) (m - sigma + i) t y))
          (set_picked f m sigma i t k (omega arith) le y)
    ]

pub picked : (draw : ℕ → ℕ) (m sigma i : ℕ) → sigma ≤ m → i ≤ sigma → Picked (picks draw m sigma i) m sigma i
picked draw m sigma zero h q = record {
  long = length-replicate m 0;
  free = λ k r. get_or-zeros m k;
  flag = λ k. let z : get_or (replicate m 0) k 0 ≡ 0 = get_or-zeros m k in omega arith;
  many = ones_zeros m;
}
picked draw m sigma (suc i) h q =
    let j = m - sigma + i in
    let t : draw i % (j + 1) < j + 1 = mod_below (draw i) (j + 1) (omega arith) in
    keep_picked (picks draw m sigma i) m sigma i (draw i % (j + 1)) (picked draw m sigma i h (omega arith)) (omega arith) (omega arith)

pub selected_picked : (s : ℕ → ℕ) (m sigma : ℕ) → sigma ≤ m → Picked (selected s m sigma) m sigma sigma
unfolding selected
selected_picked s m sigma h = picked (λ i. little s (8 * i) 8) m sigma sigma h (omega arith)

pub length-hidden : (s : ℕ → ℕ) (n tau : ℕ) → length (hidden_parties s n tau) ≡ tau
unfolding hidden_parties
length-hidden s n tau = length-map-range_with_len (λ e. s e % n) 0 tau

pub hidden_below : (s : ℕ → ℕ) (n tau e : ℕ) → 0 < n → e < tau → get_or (hidden_parties s n tau) e 0 < n
unfolding hidden_parties
hidden_below s n tau e some q =
    subst (λ z. z < n) (sym (get_or-map-range_with_len (λ e. s e % n) 0 tau e e 0 q (omega arith))) (mod_below (s e) n some)

bits_at : (f : List ℕ) (at n i : ℕ) → ((k : ℕ) → get_or f k 0 < 2) → i < n → bits f at n / 2 ^ i % 2 ≡ get_or f (at + i) 0
bits_at f at zero i h q = absurd (omega arith)
bits_at f at (suc n) zero h q =
    let b : get_or f at 0 < 2 = h at in
    let one : (get_or f at 0 + 2 * bits f (at + 1) n) / 1 % 2 ≡ get_or f at 0 = omega arith in
    one ∙ ap (λ k. get_or f k 0) (let z : at ≡ at + 0 = omega arith in z)
bits_at f at (suc n) (suc i) h q =
    let w : ℕ = get_or f at 0 + 2 * bits f (at + 1) n in
    let b : get_or f at 0 < 2 = h at in
    let half : (get_or f at 0 + 2 * bits f (at + 1) n) / 2 ≡ bits f (at + 1) n = omega arith in
    ap (λ k. (get_or f at 0 + 2 * bits f (at + 1) n) / 2 ^ k % 2) (sym (one-add i))
    ∙ ap (λ z. z % 2) (sym (shr-shr (get_or f at 0 + 2 * bits f (at + 1) n) 1 i))
    ∙ ap (λ z. z / 2 ^ i % 2) half
    ∙ bits_at f (at + 1) n i h (omega arith)
    ∙ ap (λ k. get_or f k 0) (let z : at + 1 + i ≡ at + suc i = omega arith in z)

pub unpacked_packed : (f : List ℕ) (n m : ℕ) → ((k : ℕ) → get_or f k 0 < 2) → length f ≡ m → m ≤ 8 * n → unpacked (packed f n) m ≡ f
unfolding packed unpacked
unpacked_packed f n m small long room =
    sym (fill_by_all _ f m 0 long (λ k q. sym (
    ap (λ z. z / 2 ^ (k % 8) % 2) (get_or-map-range_with_len (λ b. bits f (8 * b) 8) 0 n (k / 8) (k / 8) 0 (omega arith) (omega arith))
    ∙ bits_at f (8 * (k / 8)) 8 (k % 8) small (omega arith)
    ∙ ap (λ z. get_or f z 0) (let z : 8 * (k / 8) + k % 8 ≡ k = omega arith in z))))
