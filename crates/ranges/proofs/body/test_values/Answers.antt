use Rattle.std.proofs.Common.{◌+◌, ◌≤◌, length, arith}
use Rattle.protocol.specs.declared.field.Field.TheVariants.{Audited}
use Rattle.protocol.specs.Layout.{offset, size}
use Rattle.protocol.specs.Of.{parameters}
use Rattle.protocol.specs.Parameters.{bound}
use Rattle.ranges.proofs.Fields.{audited_say}
use Rattle.ranges.proofs.body.test_values.Goals as goal

pub returns : goal.returns
returns c =
    let w = c.args.whole in
    let p = parameters w.view.header in
    let within : offset p Audited + size p Audited ≤ length w.view.bytes.now = omega (arith, w.long) in
    audited_say c.test_audited.result c.part.result w.view.bytes.now (offset p Audited) (size p Audited) c.part.ensures within (bound p.set) c.test_audited.ensures
