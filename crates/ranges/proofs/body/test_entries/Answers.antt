use Rattle.protocol.specs.Layout.{offset, size}
use Rattle.protocol.specs.Of.{parameters}
use Rattle.std.proofs.Common.{◌+◌, ◌≤◌, length, arith}
use Rattle.ranges.proofs.Fields.{residues_say}
use Rattle.ranges.proofs.body.test_entries.Goals as goal

pub returns : goal.returns
returns c =
    let w = c.args.whole in
    let p = parameters w.view.header in
    let within : offset p c.args.entries + size p c.args.entries ≤ length w.view.bytes.now = omega (arith, w.long, c.requires) in
    residues_say c.test_residues.result c.part-part.result w.view.bytes.now (offset p c.args.entries) (size p c.args.entries) c.part-part.ensures within
    c.modulus.result p.set c.modulus.ensures c.test_residues.ensures
