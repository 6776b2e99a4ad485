use Rattle.std.proofs.Common.{sym, subst, arith}
use Rattle.digest.specs.Making.{Took}
use Rattle.digest.proofs.Taking.{took_ok}
use Rattle.shares.proofs.Rows.{coded_words}
use Rattle.shares.proofs.taking.take_coded.Goals as goal

pub returns : goal.returns
returns g c =
    subst (λ t. Took t (g.D.DigestMaker.means c.args.maker.now) (g.D.DigestMaker.means c.take.new.self))
    (sym (coded_words c.args.bytes.now c.args.count c.requires.pairs (λ i. omega (arith, c.type_inv.bytes i))))
    (took_ok c.take.result (g.D.DigestMaker.means c.args.maker.now) (g.D.DigestMaker.means c.take.new.self) c.args.bytes.now (c.requires.ready.0, omega (arith, c.requires.ready.1))
    c.take.ensures.answer c.take.ensures.effect).1
