use Rattle.protocol.specs.Of.{parameters}
use Rattle.protocol.specs.Sharing.{parts}
use Rattle.digest.specs.Making.{Took}
use Rattle.digest.specs.Short.{short_bytes}
use Rattle.sharing.specs.Parts.{holder_commitments}
use Rattle.texts.proofs.holder.feed_all6.Given as goal

abbrev pub invariant-loop-number : goal.invariant-loop-number
invariant-loop-number g l =
    Took (parts l.number (holder_commitments g.D.DigestMaker.function (parameters l.holder.header) (short_bytes l.holder.salt.now) l.holder.master.now))
    (g.D.DigestMaker.means l.initial.long) (g.D.DigestMaker.means l.long)
