use Rattle.std.proofs.Common.{◌*◌, arith, rules}
use Rattle.protocol.specs.Of.{parameters}
use Rattle.digest.specs.Short.{short_bytes}
use Rattle.digest.proofs.Taking.{took_none, took_next, ready_after}
use Rattle.shares.specs.Shown.{most_shown}
use Rattle.sharing.specs.Parts.{holder_shares}
use Rattle.texts.proofs.Lengths.{all_shares_most}
use Rattle.texts.proofs.holder.feed_all7.Goals as goal

pub loop-number-init : goal.loop-number-init
loop-number-init g c = took_none _

pub feed_text7-requires : goal.feed_text7-requires
feed_text7-requires g c =
    let p = parameters c.args.asked.holder.header in
    let most = all_shares_most g.D.DigestMaker.function p (short_bytes c.args.asked.holder.salt.now) c.args.asked.holder.master.now (omega arith) (omega arith) (omega arith) c.args.asked.seed_a.now c.args.asked.flags.now c.loop-number.number in
    record {
      scratch = search rules;
      ready = ready_after _ _ _ (64 * (256 * most_shown)) (256 * most_shown) c.requires.ready (search rules) c.loop-number.invariant;
    }

pub loop-number-preserved : goal.loop-number-preserved
loop-number-preserved g c =
    took_next c.loop-number.number (holder_shares g.D.DigestMaker.function (parameters c.args.asked.holder.header) (short_bytes c.args.asked.holder.salt.now) c.args.asked.holder.master.now c.args.asked.seed_a.now c.args.asked.flags.now)
    c.loop-number.invariant c.feed_text7.ensures
