use Rattle.lattice.proofs.Sizes.{negative, positive}
use Rattle.lattice.proofs.values.sample.Goals as goal

pub returns-then-sign-eq1-clause-value : goal.returns-then-sign-eq1-clause-value
returns-then-sign-eq1-clause-value c =
    negative c.args.set c.args.word c.exceeded-size.result c.table.result.now c.table.ensures c.exceeded-size.ensures c.if-sign-eq1.true

pub returns-else-sign-eq1-clause-value : goal.returns-else-sign-eq1-clause-value
returns-else-sign-eq1-clause-value c =
    positive c.args.set c.args.word c.exceeded-size.result c.table.result.now c.table.ensures c.exceeded-size.ensures c.if-sign-eq1.false
