use Rattle.std.proofs.Common.{◌*◌, arith, rules}
use Rattle.protocol.specs.Of.{parameters}
use Rattle.digest.specs.Short.{short_bytes}
use Rattle.digest.proofs.Taking.{took_none, took_next, ready_after}
use Rattle.sharing.specs.Parts.{holder_commitments, most_committed}
use Rattle.texts.proofs.Lengths.{all_commitments_most}
use Rattle.texts.proofs.holder.feed_all6.Goals as goal

pub loop-number-init : goal.loop-number-init
loop-number-init g c = took_none _

pub feed_text6-requires : goal.feed_text6-requires
feed_text6-requires g c =
    let p = parameters c.args.holder.header in
    let most = all_commitments_most g.D.DigestMaker.function p (short_bytes c.args.holder.salt.now) c.args.holder.master.now (omega arith) (omega arith) (omega arith) c.loop-number.number in
    record {
      scratch = search rules;
      ready = ready_after _ _ _ (64 * most_committed) most_committed c.requires.ready (search rules) c.loop-number.invariant;
    }

pub loop-number-preserved : goal.loop-number-preserved
loop-number-preserved g c =
    took_next c.loop-number.number (holder_commitments g.D.DigestMaker.function (parameters c.args.holder.header) (short_bytes c.args.holder.salt.now) c.args.holder.master.now)
    c.loop-number.invariant c.feed_text6.ensures
