use Rattle.std.proofs.Common.{ℕ, ◌*◌, List, map, ap, ◌∙◌}
use Rattle.std.specs.List.{range_with_len}
use Rattle.protocol.specs.Flags.{kept_index}
use Rattle.protocol.specs.Of.{parameters}
use Rattle.protocol.specs.Parameters.{modulus}
use Rattle.protocol.specs.Residues.{matrix, product}
use Rattle.keccak.specs.Sponge.{shake128}
use Rattle.lattice.specs.Lines.{at}
use Rattle.shares.proofs.Products.{product_kept}
use Rattle.protocol.specs.Sets.{number}
use Rattle.shares.proofs.product.share_product.Goals as goal

pub returns : goal.returns
returns c =
    let seed_a = c.args.seed_a.now in
    let kept : List ℕ = c.gather_kept.new.out in
    let v : ℕ → ℕ = at c.args.shares.now in
    let flags = c.args.flags.now in
    let columns = c.args.header.c in
    c.multiply.ensures
    ∙ (λ i.
    let q = modulus (number c.args.header.set) in let n = c.cut_bench-kept.ensures.row i in
    map (product q n columns (matrix shake128 q seed_a) (at kept)) (range_with_len 0 (n * columns)))
    ∙ product_kept (parameters c.args.header) seed_a flags kept v
    (c.gather_kept.ensures ∙ ap (λ n. map (λ m. v (kept_index flags m)) (range_with_len 0 n)) c.cut_bench-kept.ensures.kept)
