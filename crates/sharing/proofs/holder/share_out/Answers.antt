use Rattle.std.proofs.Common.{refl, ◌≡◌, length, ap, ◌∙◌, arith}
use Rattle.protocol.specs.Of.{parameters}
use Rattle.digest.specs.Short.{short_bytes}
use Rattle.sharing.proofs.Holding.{length-values, offsets_are}
use Rattle.sharing.proofs.holder.share_out.Goals as goal

pub subtract_from-requires : goal.subtract_from-requires
subtract_from-requires g c =
    let long : length c.args.holder.values.now ≡ c.args.holder.header.m =
    ap length c.args.holder.drawn ∙ length-values g.D.DigestMaker.function (parameters c.args.holder.header) (short_bytes c.args.holder.salt.now) c.args.holder.master.now in
    omega arith

pub returns : goal.returns
returns g c = record {
  tree = c.grow.ensures;
  offsets =
      offsets_are g.D.DigestMaker.function (parameters c.args.holder.header) (short_bytes c.args.holder.salt.now) c.args.holder.master.now c.args.number c.grow.new.nodes c.grow.ensures
      _ c.args.holder.values.now c.sum_shares.new.sum _ refl c.args.holder.drawn c.sum_shares.ensures c.subtract_from.ensures;
}
