use Rattle.std.proofs.Common.{◌≡◌, ◌*◌, ◌%◌, length}
use Rattle.protocol.specs.Residues.{dot}
use Rattle.lattice.specs.Lines.{at}
use Rattle.lattice.proofs.product.inner_in_pieces.Given as goal

abbrev pub invariant-loop-x : goal.invariant-loop-x
invariant-loop-x l = l.sum ≡ dot (length l.yielded * 128) (at l.a) (at l.b) % 65536
