use Rattle.std.proofs.Common.{◌≡◌, ℕ, ◌<◌, length}
use Rattle.protocol.specs.Parameters.{modulus}
use Rattle.lattice.specs.Lines.{at, row_entry}
use Rattle.protocol.specs.Sets.{number}
use Rattle.lattice.proofs.product.multiply_line.Given as goal

abbrev pub invariant-loop-l : goal.invariant-loop-l
invariant-loop-l l = (k : ℕ) → k < l.l → at l.line k ≡ row_entry (modulus (number l.set)) (length l.row) l.row l.columns (at l.errors k) k
