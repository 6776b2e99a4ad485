-- Rows of residues, entry by entry.
use Rattle.std.proofs.Common.{◌≡◌, ℕ, zero, suc, ◌+◌, ◌<◌, ◌≤◌, eqb, List, Option, Some, None, ◌≢◌, sym, refl, ap, ◌∙◌, add-one, arith}
use Rattle.std.proofs.lemmas.Bool.{cond-true, cond-false, eq-eqb, ne_eqb}
use Rattle.protocol.specs.Group.{Entries, total, others, completed}
use Rattle.lattice.specs.Lines.{at}
use Rattle.lattice.specs.Sums.{without}

-- the first k entries are those of f, and the rest those of ys
abbrev pub Changed : (ℕ → ℕ) → List ℕ → List ℕ → ℕ → Type 0
Changed f ys xs k = ((i : ℕ) → i < k → at xs i ≡ f i) × ((i : ℕ) → k ≤ i → at xs i ≡ at ys i)

-- one party more, who is left out or added
pub others_skip : {G : Type 0} (g : Entries G) (n p : ℕ) (f : ℕ → G) → n ≡ p → others g (n + 1) p f ≡ others g n p f
others_skip g n p f e = ap (λ m. others g m p f) (add-one n) ∙ cond-true (eqb n p) _ _ (eq-eqb n p e)

pub others_more : {G : Type 0} (g : Entries G) (n p : ℕ) (f : ℕ → G) → (n ≡ p → ⊥) → others g (n + 1) p f ≡ g.add (others g n p f) (f n)
others_more g n p f e = ap (λ m. others g m p f) (add-one n) ∙ cond-false (eqb n p) _ _ (ne_eqb n p e)

-- nobody is left out
pub others_all : {G : Type 0} (g : Entries G) (n p : ℕ) (f : ℕ → G) → n ≤ p → others g n p f ≡ total g n f
others_all g zero p f h = refl
others_all g (suc n) p f h = cond-false (eqb n p) _ _ (ne_eqb n p (λ e. omega arith)) ∙ ap (λ s. g.add s (f n)) (others_all g n p f (omega arith))

-- the same where a party may be left out
pub without_skip : {G : Type 0} (g : Entries G) (n : ℕ) (o : Option ℕ) (f : ℕ → G) → o ≡ Some n → without g (n + 1) o f ≡ without g n o f
without_skip g n o f e = ap (λ p. without g (n + 1) p f) e ∙ others_skip g n n f refl ∙ ap (λ p. without g n p f) (sym e)

pub without_more : {G : Type 0} (g : Entries G) (n : ℕ) (o : Option ℕ) (f : ℕ → G) → o ≢ Some n → without g (n + 1) o f ≡ g.add (without g n o f) (f n)
without_more g n None f h = ap (λ m. total g m f) (add-one n)
without_more g n (Some p) f h = others_more g n p f (λ e. h (ap Some (sym e)))

pub completed_here : {G : Type 0} (g : Entries G) (n p : ℕ) (t : G) (f : ℕ → G) → completed g n p t f p ≡ g.sub t (others g n p f)
completed_here g n p t f = cond-true (eqb p p) _ _ (eq-eqb p p refl)
