use Rattle.std.proofs.Common.{rules, ◌≡◌, cond, ltb, sum_by, sym, ◌∙◌}
use Rattle.lattice.proofs.Sizes.{exceeded_counts}
use Rattle.lattice.proofs.values.exceeded.Goals as goal

pub returns : goal.returns
returns c =
    (let e : c.sum.result ≡ sum_by (λ x. cond (ltb x c.args.t) 1 0) c.args.table.now = search rules in e)
    ∙ sym (exceeded_counts c.args.table.now c.args.t)
