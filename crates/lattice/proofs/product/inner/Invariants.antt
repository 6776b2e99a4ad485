use Rattle.std.proofs.Common.{◌≡◌, ◌%◌}
use Rattle.protocol.specs.Residues.{dot}
use Rattle.lattice.specs.Lines.{at}
use Rattle.lattice.proofs.product.inner.Given as goal

abbrev pub invariant-loop-t : goal.invariant-loop-t
invariant-loop-t l = l.sum ≡ dot l.t (at l.a) (at l.b) % 65536
