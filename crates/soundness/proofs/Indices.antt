-- `kept_index` lists the flags 1 in index order.
use Rattle.std.proofs.Common.{◌≡◌, ℕ, zero, suc, ◌+◌, ◌<◌, ◌≤◌, true, false, eqb, List, [], ◌∷◌, length, get_or, take, sym, refl, ap, ◌∙◌, inl, inr, add-one, arith}
use Rattle.std.proofs.lemmas.Bool.{eqb-true, ne_eqb, cases_Bool, cond-true, cond-false}
use Rattle.protocol.specs.Flags.{kept_index, ones, ListsKept}

record At (flags : List ℕ) (m k : ℕ) : Type 0 where
  within : k < length flags
  kept : get_or flags k 0 ≡ 1
  before : ones (take k flags) ≡ m

-- with the test of the first flag given as t
here : (b : ℕ) (bs : List ℕ) → eqb b 1 ≡ true → At (b ∷ bs) 0 0
here b bs e = record { within = omega arith; kept = eqb-true b 1 e; before = refl }

next_kept : (b : ℕ) (bs : List ℕ) (m k : ℕ) → eqb b 1 ≡ true → At bs m k → At (b ∷ bs) (suc m) (suc k)
next_kept b bs m k e a = record {
  within = let h = a.within in omega arith;
  kept = a.kept;
  before = cond-true _ _ _ e ∙ ap suc a.before;
}

next_out : (b : ℕ) (bs : List ℕ) (m k : ℕ) → eqb b 1 ≡ false → At bs m k → At (b ∷ bs) m (suc k)
next_out b bs m k e a = record {
  within = let h = a.within in omega arith;
  kept = a.kept;
  before = cond-false _ _ _ e ∙ a.before;
}

at : (flags : List ℕ) (m : ℕ) → m < ones flags → At flags m (kept_index flags m)
at [] m h = absurd (omega arith)
at (b ∷ bs) zero h =
    elim (cases_Bool (eqb b 1)) [
      | inl e ↦ rw (cond-true (eqb b 1) 0 (suc (kept_index bs 0)) e) (here b bs e)
      | inr e ↦ rw (cond-false (eqb b 1) 0 (suc (kept_index bs 0)) e) (next_out b bs 0 (kept_index bs 0) e (at bs 0 (rw (cond-false (eqb b 1) (suc (ones bs)) (ones bs) e) at h)))
    ]
at (b ∷ bs) (suc m) h =
    elim (cases_Bool (eqb b 1)) [
      | inl e ↦ rw (cond-true (eqb b 1) (suc (kept_index bs m)) (suc (kept_index bs (suc m))) e)
          (next_kept b bs m (kept_index bs m) e (at bs m (let k : suc m < suc (ones bs) = rw (cond-true (eqb b 1) (suc (ones bs)) (ones bs) e) at h in omega arith)))
      | inr e ↦ rw (cond-false (eqb b 1) (suc (kept_index bs m)) (suc (kept_index bs (suc m))) e)
          (next_out b bs (suc m) (kept_index bs (suc m)) e (at bs (suc m) (rw (cond-false (eqb b 1) (suc (ones bs)) (ones bs) e) at h)))
    ]

each : (flags : List ℕ) (k : ℕ) → k < length flags → get_or flags k 0 ≡ 1 → kept_index flags (ones (take k flags)) ≡ k
each [] k h e = absurd (omega arith)
each (b ∷ bs) zero h e = cond-true _ _ _ (ap (λ z. eqb z 1) e)
each (b ∷ bs) (suc k) h e =
    let r : kept_index bs (ones (take k bs)) ≡ k = each bs k (omega arith) e in
    elim (cases_Bool (eqb b 1)) [
      | inl y ↦ ap (kept_index (b ∷ bs)) (cond-true (eqb b 1) (suc (ones (take k bs))) (ones (take k bs)) y) ∙ cond-true (eqb b 1) _ _ y ∙ ap suc r
      | inr y ↦ ap (kept_index (b ∷ bs)) (cond-false (eqb b 1) (suc (ones (take k bs))) (ones (take k bs)) y) ∙ out b bs (ones (take k bs)) y ∙ ap suc r
    ]
  where
    out : (c : ℕ) (cs : List ℕ) (m : ℕ) → eqb c 1 ≡ false → kept_index (c ∷ cs) m ≡ suc (kept_index cs m)
    out c cs zero y = cond-false _ _ _ y
    out c cs (suc m) y = cond-false _ _ _ y

pub lists_ones : (flags : List ℕ) → ListsKept flags
lists_ones flags = record {
  within = λ m h. (at flags m h).within;
  kept = λ m h. (at flags m h).kept;
  before = λ m h. (at flags m h).before;
  each = each flags;
}

pub ones_more_yes : (flags : List ℕ) (k : ℕ) → k < length flags → get_or flags k 0 ≡ 1 → ones (take (k + 1) flags) ≡ ones (take k flags) + 1
ones_more_yes flags k h e = ap (λ n. ones (take n flags)) (add-one k) ∙ go flags k h e
  where
    go : (fs : List ℕ) (j : ℕ) → j < length fs → get_or fs j 0 ≡ 1 → ones (take (suc j) fs) ≡ ones (take j fs) + 1
    go [] j h e = absurd (omega arith)
    go (b ∷ bs) zero h e = cond-true _ _ _ (ap (λ z. eqb z 1) e)
    go (b ∷ bs) (suc j) h e =
        let r : ones (take (suc j) bs) ≡ ones (take j bs) + 1 = go bs j (omega arith) e in
        elim (cases_Bool (eqb b 1)) [
          | inl y ↦ cond-true _ _ _ y ∙ ap suc r ∙ (let n : suc (ones (take j bs) + 1) ≡ suc (ones (take j bs)) + 1 = omega arith in n) ∙ ap (λ z. z + 1) (sym (cond-true _ _ _ y))
          | inr y ↦ cond-false _ _ _ y ∙ r ∙ ap (λ z. z + 1) (sym (cond-false _ _ _ y))
        ]

pub ones_more_no : (flags : List ℕ) (k : ℕ) → k < length flags → (get_or flags k 0 ≡ 1 → ⊥) → ones (take (k + 1) flags) ≡ ones (take k flags)
ones_more_no flags k h e = ap (λ n. ones (take n flags)) (add-one k) ∙ go flags k h e
  where
    go : (fs : List ℕ) (j : ℕ) → j < length fs → (get_or fs j 0 ≡ 1 → ⊥) → ones (take (suc j) fs) ≡ ones (take j fs)
    go [] j h e = absurd (omega arith)
    go (b ∷ bs) zero h e = cond-false _ _ _ (ne_eqb b 1 e)
    go (b ∷ bs) (suc j) h e =
        let r : ones (take (suc j) bs) ≡ ones (take j bs) = go bs j (omega arith) e in
        elim (cases_Bool (eqb b 1)) [
          | inl y ↦ cond-true _ _ _ y ∙ ap suc r ∙ sym (cond-true _ _ _ y)
          | inr y ↦ cond-false _ _ _ y ∙ r ∙ sym (cond-false _ _ _ y)
        ]

pub ones_take_le : (flags : List ℕ) (k : ℕ) → ones (take k flags) ≤ ones flags
ones_take_le [] zero = omega arith
ones_take_le [] (suc k) = omega arith
ones_take_le (b ∷ bs) zero = omega arith
ones_take_le (b ∷ bs) (suc k) =
    let r : ones (take k bs) ≤ ones bs = ones_take_le bs k in
    elim (cases_Bool (eqb b 1)) [
      | inl y ↦
          let p : ones (take (suc k) (b ∷ bs)) ≡ suc (ones (take k bs)) = cond-true _ _ _ y in
          let q : ones (b ∷ bs) ≡ suc (ones bs) = cond-true _ _ _ y in
          omega arith
      | inr y ↦
          let p : ones (take (suc k) (b ∷ bs)) ≡ ones (take k bs) = cond-false _ _ _ y in
          let q : ones (b ∷ bs) ≡ ones bs = cond-false _ _ _ y in
          omega arith
    ]
