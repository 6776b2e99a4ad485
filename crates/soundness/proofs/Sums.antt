-- Sums over the parties, one of them found by subtraction.
use Rattle.std.proofs.Common.{◌≡◌, ℕ, zero, suc, ◌<◌, ◌≤◌, cond, eqb, sym, refl, ap, ◌∙◌, inl, inr, arith}
use Rattle.std.proofs.lemmas.Bool.{eq-eqb, ne_eqb, cond-true, cond-false, cases_eq}
use Rattle.protocol.specs.Group.{Entries, Lawful, total, others, completed}

module _ {G : Type 0} {g : Entries G} (l : Lawful g) where
  pub norm_norm : (x : G) → g.norm (g.norm x) ≡ g.norm x
  norm_norm x = ap g.norm (sym (l.start x)) ∙ l.least_add g.none x ∙ l.start x

  pub add_norm : (x y : G) → g.add (g.norm x) y ≡ g.add x y
  add_norm x y =
      ap (λ z. g.add z y) (sym (l.start x)) ∙ l.assoc g.none x y ∙ l.start (g.add x y) ∙ l.least_add x y

  pub add_norm_right : (x y : G) → g.add x (g.norm y) ≡ g.add x y
  add_norm_right x y = l.comm x (g.norm y) ∙ add_norm y x ∙ l.comm y x

  pub add_none : (x : G) → g.add x g.none ≡ g.norm x
  add_none x = l.comm x g.none ∙ l.start x

  -- what is added can be cancelled
  pub cancel : (x y z : G) → g.add x z ≡ g.add y z → g.norm x ≡ g.norm y
  cancel x y z e = sym (cleared x) ∙ ap (λ w. g.add w (g.sub g.none z)) e ∙ cleared y
    where
      cleared : (w : G) → g.add (g.add w z) (g.sub g.none z) ≡ g.norm w
      cleared w =
          l.assoc w z (g.sub g.none z)
          ∙ ap (g.add w) (l.comm z (g.sub g.none z) ∙ l.undo g.none z)
          ∙ add_norm_right w g.none
          ∙ add_none w

  pub sub_add : (x y : G) → g.sub (g.add x y) y ≡ g.norm x
  sub_add x y =
      sym (l.least_sub (g.add x y) y)
      ∙ cancel (g.sub (g.add x y) y) x y (l.undo (g.add x y) y ∙ l.least_add x y)

  pub least_total : (n : ℕ) (f : ℕ → G) → g.norm (total g n f) ≡ total g n f
  least_total zero f = l.least_none
  least_total (suc n) f = l.least_add (total g n f) (f n)

  swap : (x y z : G) → g.add (g.add x y) z ≡ g.add (g.add x z) y
  swap x y z = l.assoc x y z ∙ ap (g.add x) (l.comm y z) ∙ sym (l.assoc x z y)

  -- the sum of two rows is the row of the sums
  pub total_add : (n : ℕ) (f h : ℕ → G) → total g n (λ j. g.add (f j) (h j)) ≡ g.add (total g n f) (total g n h)
  total_add zero f h = sym (l.start g.none ∙ l.least_none)
  total_add (suc n) f h =
      ap (λ z. g.add z (g.add (f n) (h n))) (total_add n f h) ∙ four (total g n f) (total g n h) (f n) (h n)
    where
      four : (a b c d : G) → g.add (g.add a b) (g.add c d) ≡ g.add (g.add a c) (g.add b d)
      four a b c d =
          sym (l.assoc (g.add a b) c d)
          ∙ ap (λ z. g.add z d) (swap a b c)
          ∙ l.assoc (g.add a c) b d

  -- equal rows have equal sums
  pub total_same : (n : ℕ) (f h : ℕ → G) → ((j : ℕ) → j < n → f j ≡ h j) → total g n f ≡ total g n h
  total_same zero f h e = refl
  total_same (suc n) f h e = λ i. g.add (total_same n f h (λ j q. e j (omega arith)) i) (e n (omega arith) i)

  pub others_same : (n p : ℕ) (f h : ℕ → G) → ((j : ℕ) → j < n → (j ≡ p → ⊥) → f j ≡ h j) → others g n p f ≡ others g n p h
  others_same zero p f h e = refl
  others_same (suc n) p f h e =
      let r : others g n p f ≡ others g n p h = others_same n p f h (λ j q. e j (omega arith)) in
      elim (cases_eq n p) [
        | inl is ↦ cond-true _ _ _ (eq-eqb n p is) ∙ r ∙ sym (cond-true _ _ _ (eq-eqb n p is))
        | inr not ↦ cond-false _ _ _ (ne_eqb n p not) ∙ (λ i. g.add (r i) (e n (omega arith) not i)) ∙ sym (cond-false _ _ _ (ne_eqb n p not))
      ]

  -- all the others are all, where p is none of them
  others_past : (n p : ℕ) (f : ℕ → G) → n ≤ p → others g n p f ≡ total g n f
  others_past zero p f h = refl
  others_past (suc n) p f h =
      cond-false _ _ _ (ne_eqb n p (λ e. omega arith)) ∙ ap (λ z. g.add z (f n)) (others_past n p f (omega arith))

  -- all are the others and p
  pub total_others : (n p : ℕ) (f : ℕ → G) → p < n → total g n f ≡ g.add (f p) (others g n p f)
  total_others zero p f h = absurd (omega arith)
  total_others (suc n) p f h =
      elim (cases_eq n p) [
        | inl is ↦
            l.comm (total g n f) (f n)
            ∙ (λ i. g.add (f (is i)) (sym (others_past n p f (omega arith)) i))
            ∙ ap (g.add (f p)) (sym (cond-true _ _ _ (eq-eqb n p is)))
        | inr not ↦
            ap (λ z. g.add z (f n)) (total_others n p f (omega arith))
            ∙ l.assoc (f p) (others g n p f) (f n)
            ∙ ap (g.add (f p)) (sym (cond-false _ _ _ (ne_eqb n p not)))
      ]

  -- at p, and away from it
  pub completed_at : (n p : ℕ) (t : G) (f : ℕ → G) → completed g n p t f p ≡ g.sub t (others g n p f)
  completed_at n p t f = cond-true _ _ _ (eq-eqb p p refl)

  pub completed_off : (n p : ℕ) (t : G) (f : ℕ → G) (j : ℕ) → (j ≡ p → ⊥) → completed g n p t f j ≡ f j
  completed_off n p t f j h = cond-false _ _ _ (ne_eqb j p h)

  -- what is completed to t comes to t
  pub total_completed : (n p : ℕ) (t : G) (f : ℕ → G) → p < n → total g n (completed g n p t f) ≡ g.norm t
  total_completed n p t f h =
      total_others n p (completed g n p t f) h
      ∙ (λ i. g.add (completed_at n p t f i) (others_same n p (completed g n p t f) f (λ j q o. completed_off n p t f j o) i))
      ∙ l.undo t (others g n p f)

  -- a row that comes to t is what completing it to t finds
  pub completed_whole : (n p : ℕ) (f : ℕ → G) → p < n → g.norm (f p) ≡ f p → (j : ℕ) → completed g n p (total g n f) f j ≡ f j
  completed_whole n p f h least j =
      elim (cases_eq j p) [
        | inl is ↦
            cond-true _ _ _ (eq-eqb j p is)
            ∙ ap (λ t. g.sub t (others g n p f)) (total_others n p f h)
            ∙ sub_add (f p) (others g n p f)
            ∙ least
            ∙ ap f (sym is)
        | inr not ↦ completed_off n p (total g n f) f j not
      ]

  -- two completions of two rows that are the same row, with different places completed:
  -- the first row, its kept_index completed taken from the second
  pub joined_row : (n p r : ℕ) (s t : G) (f h : ℕ → G) → (p ≡ r → ⊥) →
      ((j : ℕ) → j < n → completed g n p s f j ≡ completed g n r t h j) →
      (j : ℕ) → j < n → cond (eqb j p) (h j) (f j) ≡ completed g n p s f j
  joined_row n p r s t f h apart same j q =
      elim (cases_eq j p) [
        | inl is ↦ cond-true _ _ _ (eq-eqb j p is) ∙ sym (completed_off n r t h j (λ e. apart (sym is ∙ e))) ∙ sym (same j q)
        | inr not ↦ cond-false _ _ _ (ne_eqb j p not) ∙ sym (completed_off n p s f j not)
      ]
