use Rattle.protocol.specs.Parameters.{modulus}
use Rattle.protocol.specs.Residues.{modular}
use Rattle.lattice.specs.Lines.{at}
use Rattle.protocol.specs.Sets.{number}
use Rattle.lattice.proofs.Entrywise.{Changed}
use Rattle.lattice.proofs.sums.subtract_from.Given as goal

abbrev pub invariant-loop-k : goal.invariant-loop-k
invariant-loop-k l = Changed (λ i. (modular (modulus (number l.set))).sub (at l.whole i) (at l.initial.part i)) l.initial.part l.part l.k
