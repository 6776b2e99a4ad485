use Rattle.protocol.specs.Sharing.{parts}
use Rattle.digest.specs.Making.{Took}
use Rattle.sharing.specs.Known.{commitment_of}
use Rattle.sharing.proofs.parties.take_commitments.Given as goal

abbrev pub invariant-loop-j : goal.invariant-loop-j
invariant-loop-j g l = Took (parts l.j (commitment_of g.D.DigestMaker.function l.leaves l.hidden)) (g.D.DigestMaker.means l.initial.long) (g.D.DigestMaker.means l.long)
