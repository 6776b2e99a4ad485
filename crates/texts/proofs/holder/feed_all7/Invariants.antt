use Rattle.protocol.specs.Of.{parameters}
use Rattle.protocol.specs.Sharing.{parts}
use Rattle.digest.specs.Making.{Took}
use Rattle.digest.specs.Short.{short_bytes}
use Rattle.sharing.specs.Parts.{holder_shares}
use Rattle.texts.proofs.holder.feed_all7.Given as goal

abbrev pub invariant-loop-number : goal.invariant-loop-number
invariant-loop-number g l =
    Took (parts l.number (holder_shares g.D.DigestMaker.function (parameters l.asked.holder.header) (short_bytes l.asked.holder.salt.now) l.asked.holder.master.now l.asked.seed_a.now l.asked.flags.now))
    (g.D.DigestMaker.means l.initial.long) (g.D.DigestMaker.means l.long)
