use Rattle.std.proofs.Common.{◌≡◌, ℕ, ◌+◌, ◌*◌, ◌<◌}
use Rattle.lattice.specs.Lines.{at}
use Rattle.lattice.proofs.product.take_column.Given as goal

abbrev pub invariant-loop-t : goal.invariant-loop-t
invariant-loop-t l = (k : ℕ) → k < l.t → at l.column k ≡ at l.s (k * l.c + l.l)
