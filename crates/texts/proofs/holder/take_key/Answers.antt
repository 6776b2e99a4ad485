use Rattle.std.proofs.Common.{length, sym, ap, ◌∙◌}
use Rattle.protocol.specs.Of.{parameters}
use Rattle.digest.specs.Short.{short_bytes}
use Rattle.sharing.proofs.Holding.{length-values}
use Rattle.texts.proofs.holder.take_key.Goals as goal

pub share_product-requires-clause-flags : goal.share_product-requires-clause-flags
share_product-requires-clause-flags g c =
    let h = c.args.asked.holder in
    c.args.asked.long ∙ sym (ap length h.drawn ∙ length-values g.D.DigestMaker.function (parameters h.header) (short_bytes h.salt.now) h.master.now)
