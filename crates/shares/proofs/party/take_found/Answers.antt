use Rattle.std.proofs.Common.{◌≡◌, ℕ, ◌*◌, length, refl, ◌∙◌, arith}
use Rattle.protocol.specs.Of.{parameters}
use Rattle.protocol.specs.Parameters.{modulus}
use Rattle.protocol.specs.Residues.{modular}
use Rattle.lattice.specs.Lines.{at}
use Rattle.shares.specs.Shown.{found, product_of}
use Rattle.shares.proofs.Products.{ready_product, took_row, row_at, subtracted_row}
use Rattle.shares.proofs.party.take_found.Goals as goal

pub take_words-requires : goal.take_words-requires
take_words-requires g c =
    let p = parameters c.args.kept.header in
    let shares = c.subtract_from.new.part in
    let ready = ready_product _ _ (length shares) (p.n * p.c) c.args.kept.flags.now (at shares) (omega arith) (omega arith) c.requires.ready c.take_audited.ensures in
    (ready.0, omega (arith, ready.1))

pub returns : goal.returns
unfolding found
returns g c =
    let p = parameters c.args.kept.header in
    let q = modulus p.set in
    let flags = c.args.kept.flags.now in
    let values = at c.args.missing.values.now in
    let key = at c.args.missing.key.now in
    let sums = at c.args.missing.sums.now in
    let v : ℕ → ℕ = λ k. (modular q).sub (values k) (sums k) in
    let f : ℕ → ℕ = λ i. (modular q).sub (key i) (product_of p c.args.seed_a.now flags sums i) in
    let shares = c.subtract_from.new.part in
    let sum = c.copy_from_slice.new.self in
    let long : length shares ≡ p.m = omega arith in
    took_row _ _ _ p.m (length shares) (p.n * p.c) flags (at shares) v f _ long
    (λ k r.
    row_at (λ k. (modular q).sub (values k) (at sum k)) (length sum) k shares c.subtract_from.ensures (omega arith)
    ∙ (λ i. (modular q).sub (values k) (at (c.copy_from_slice.ensures.after i) k)))
    c.take_audited.ensures
    (subtracted_row _ p.set (p.n * p.c) c.args.missing.key.now c.share_product.new.product _ (product_of p c.args.seed_a.now flags sums) refl c.share_product.ensures c.subtract_from-2.ensures)
    c.take_words.ensures
