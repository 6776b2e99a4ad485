use Rattle.std.proofs.Common.{◌*◌, length, subst, arith}
use Rattle.protocol.specs.Of.{parameters}
use Rattle.protocol.specs.Parameters.{parties}
use Rattle.digest.specs.Making.{Took}
use Rattle.digest.specs.Short.{short_bytes}
use Rattle.digest.proofs.Taking.{took_both}
use Rattle.sharing.proofs.Holding.{commitments_are}
use Rattle.sharing.proofs.Lengths.{drawn_most, ready_offsets}
use Rattle.sharing.proofs.holder.feed_text6.Goals as goal

pub take_words-requires : goal.take_words-requires
take_words-requires g c =
    let h = c.args.holder in
    let p = parameters h.header in
    ready_offsets h.header.h (2 * length c.share_out.new.offsets) _ _ _ (omega arith) (omega arith)
    (drawn_most g.D.DigestMaker.function p (short_bytes h.salt.now) c.args.number c.share_out.new.nodes (parties p)) c.requires.ready c.take_commitments.ensures

pub returns : goal.returns
returns g c =
    let h = c.args.holder in
    subst (λ t. Took t (g.D.DigestMaker.means c.args.long.now) (g.D.DigestMaker.means c.take_words.new.maker))
    (commitments_are g.D.DigestMaker.function (parameters h.header) (short_bytes h.salt.now) h.master.now c.args.number c.share_out.new.nodes c.share_out.ensures.tree
    c.share_out.new.offsets c.share_out.ensures.offsets)
    (took_both c.take_commitments.ensures c.take_words.ensures)
