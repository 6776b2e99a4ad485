use Rattle.protocol.specs.Parameters.{modulus}
use Rattle.protocol.specs.Residues.{modular}
use Rattle.lattice.specs.Lines.{at}
use Rattle.protocol.specs.Sets.{number}
use Rattle.lattice.proofs.Entrywise.{Changed}
use Rattle.lattice.proofs.sums.add_row.Given as goal

abbrev pub invariant-loop-k : goal.invariant-loop-k
invariant-loop-k l = Changed (λ i. (modular (modulus (number l.set))).add (at l.initial.sum i) (at l.row i)) l.initial.sum l.sum l.k
