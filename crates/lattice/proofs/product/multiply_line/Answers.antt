use Rattle.std.proofs.Common.{◌≡◌, length, ap, ◌∙◌, arith, below_more}
use lib.Bits.{bit_and}
use Rattle.std.proofs.lemmas.List.{get_or-set_same, get_or-set_other}
use Rattle.protocol.specs.Parameters.{modulus}
use Rattle.lattice.specs.Lines.{at, row_entry}
use Rattle.protocol.specs.Sets.{number}
use Rattle.lattice.proofs.Dots.{row_made}
use Rattle.lattice.proofs.product.multiply_line.Goals as goal

pub loop-l-preserved : goal.loop-l-preserved
loop-l-preserved c =
    let row = c.args.row.now in
    let n = length row in
    let columns = c.args.columns.now in
    let l = c.loop-l.l in
    let e = at c.args.errors.now l in
    below_more (λ k. at _ k ≡ row_entry (modulus (number c.args.set)) n row columns (at c.args.errors.now k) k) l
    (λ k h. get_or-set_other c.loop-l.line l k _ 0 (λ o. omega arith) ∙ c.loop-l.invariant k h)
    (get_or-set_same c.loop-l.line l _ 0 (omega arith)
    ∙ ap (bit_and _) c.mask.ensures ∙ row_made c.args.set n row columns e l c.inner_in_pieces.result c.inner_in_pieces.ensures)
