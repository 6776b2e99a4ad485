use Rattle.std.proofs.Common.{◌≡◌, ℕ, ◌+◌, ◌*◌, ◌<◌}
use Rattle.lattice.specs.Lines.{at}
use Rattle.lattice.proofs.product.turn.Given as goal

abbrev pub invariant-loop-l : goal.invariant-loop-l
invariant-loop-l l = (t k : ℕ) → t < l.n → k < l.l → at l.columns (k * l.n + t) ≡ at l.s (t * l.c + k)
