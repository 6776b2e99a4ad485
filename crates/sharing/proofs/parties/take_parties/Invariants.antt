use Rattle.protocol.specs.Sharing.{parts}
use Rattle.digest.specs.Making.{Took}
use Rattle.sharing.specs.Known.{party_text}
use Rattle.sharing.proofs.parties.take_parties.Given as goal

abbrev pub invariant-loop-j : goal.invariant-loop-j
invariant-loop-j g l = Took (parts l.j (party_text g.D.DigestMaker.function l.known)) (g.D.DigestMaker.means l.initial.long) (g.D.DigestMaker.means l.long)
