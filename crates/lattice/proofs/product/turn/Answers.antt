use Rattle.std.proofs.Common.{◌*◌, ◌+◌, ◌≤◌, length, refl, arith}
use Rattle.std.proofs.lemmas.Nat.{mul-add-lt}
use Rattle.lattice.specs.Lines.{at}
use Rattle.lattice.proofs.Dots.{column_more}
use Rattle.lattice.proofs.product.turn.Goals as goal

pub loop-l-preserved : goal.loop-l-preserved
loop-l-preserved c t k h =
    let n = c.args.n in
    let l = c.loop-l.l in
    let place : l * n ≤ length c.loop-l.columns = omega (arith, mul-add-lt l n t c.args.c c.loop-l-test.true h) in
    column_more n l c.loop-l.columns _ c.take_column.new.column (λ t k. at c.args.s.now (t * c.args.c + k)) refl place (omega arith) c.loop-l.invariant
    (λ t h. c.take_column.ensures t (omega arith)) t k h
