use Rattle.std.proofs.Common.{◌*◌, length, refl, arith}
use Rattle.protocol.specs.Of.{parameters}
use Rattle.lattice.specs.Lines.{at}
use Rattle.shares.specs.Shown.{shown, product_of}
use Rattle.shares.proofs.Products.{ready_product, took_row}
use Rattle.shares.proofs.party.take_shown.Goals as goal

pub take_words-requires : goal.take_words-requires
take_words-requires g c =
    let p = parameters c.args.kept.header in
    let ready = ready_product _ _ (length c.args.shares.now) (p.n * p.c) c.args.kept.flags.now (at c.args.shares.now) (omega arith) (omega arith) c.requires.ready c.take_audited.ensures in
    (ready.0, omega (arith, ready.1))

pub returns : goal.returns
unfolding shown
returns g c =
    let p = parameters c.args.kept.header in
    let flags = c.args.kept.flags.now in
    let v = at c.args.shares.now in
    took_row _ _ _ p.m _ (p.n * p.c) flags v v (product_of p c.args.seed_a.now flags v) _ c.requires.shares (λ k q. refl)
    c.take_audited.ensures c.share_product.ensures c.take_words.ensures
