use Rattle.std.proofs.Common.{◌≡◌, ℕ, ◌++◌, map, take, drop}
use Rattle.lattice.proofs.values.change_each.Given as goal

abbrev pub invariant-loop-word : goal.invariant-loop-word
invariant-loop-word g l =
    (h : ℕ → ℕ) → ((x y : ℕ) → goal.F-post g l.f x y → y ≡ h x) → l.words ≡ map h (take l.word-index l.initial.words) ++ drop l.word-index l.initial.words
