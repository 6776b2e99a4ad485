use Rattle.std.proofs.Common.{◌≡◌, ◌+◌, ◌*◌, length, get_or, ap, ◌∙◌, le_refl, arith}
use Rattle.std.proofs.lemmas.Nat.{mul-add-lt, mul-le}
use Rattle.std.proofs.lemmas.List.FromFn.{fill_by_all, get_or-map-range_with_len}
use Rattle.std.proofs.lemmas.List.{get_or-take, get_or-drop}
use Rattle.protocol.specs.Parameters.{modulus}
use Rattle.protocol.specs.Residues.{matrix, product}
use Rattle.keccak.specs.Sponge.{shake128}
use Rattle.lattice.specs.Lines.{at, row_entry}
use Rattle.protocol.specs.Sets.{number}
use Rattle.lattice.proofs.Dots.{row_is, lines_more}
use Rattle.lattice.proofs.rows.multiply.Goals as goal

pub loop-i-preserved : goal.loop-i-preserved
loop-i-preserved c =
    let q = modulus (number c.args.set) in
    let n = length c.args.row.now in
    let w = c.args.c in
    let i = c.loop-i.i in
    let row = c.matrix_row.new.row in
    let xs = c.args.secrets.now in
    let a = matrix shake128 q c.args.seed.now in
    let long : length row ≡ n = omega arith in
    lines_more (product q n w a (at xs)) c.loop-i.out c.multiply_row.new.out i w c.multiply_row.ensures.before c.loop-i.invariant
    (λ l h.
    c.multiply_row.ensures.fresh l h
    ∙ ap (λ z. row_entry q z row c.turn.new.columns (at c.split_at.result.1.now (i * w + l)) l) long
    ∙ row_is q n w a (at xs) row c.turn.new.columns i l _ h
    (λ t k. ap (λ r. get_or r t 0) c.matrix_row.ensures ∙ get_or-map-range_with_len (a i) 0 _ t t 0 (omega arith) (omega arith))
    (λ t k. c.turn.ensures t l k h ∙ ap (λ ys. at ys (t * w + l)) c.split_at.ensures.front ∙ get_or-take (n * w) xs (t * w + l) 0 (omega (arith, mul-add-lt t w l n k h)))
    (ap (λ ys. at ys (i * w + l)) c.split_at.ensures.back ∙ get_or-drop (n * w) xs (i * w + l) 0))

pub returns : goal.returns
returns c =
    let q = modulus (number c.args.set) in
    let n = length c.args.row.now in
    fill_by_all (product q n c.args.c (matrix shake128 q c.args.seed.now) (at c.args.secrets.now)) c.loop-i.out (n * c.args.c) 0 (omega arith)
    (λ m h. c.loop-i.invariant m (omega (arith, mul-le n c.args.c c.loop-i.i c.args.c c.loop-i-test.false (le_refl c.args.c))))
