use Rattle.std.proofs.Common.{true, false, length, sym, w8, SFits, rules, below_more}
use Rattle.protocol.specs.Parameters.{bound}
use Rattle.guarantee.proofs.Passing.{first_fails}
use Rattle.protocol.specs.Sets.{number}
use Rattle.ranges.specs.Parts.{audited_test}
use Rattle.ranges.proofs.Fields.{none_fails, in_range_tells}
use Rattle.ranges.proofs.parts.test_audited.Goals as goal

pub loop-i-preserved : goal.loop-i-preserved
loop-i-preserved c =
    let fits : SFits w8 c.from_byte.result = search rules in
    below_more _ _ c.loop-i.invariant (in_range_tells (bound (number c.args.set)) _ _ _ true fits c.from_byte.ensures c.in_range.ensures c.if-not-in_range.false)

pub returns-then-not-in_range : goal.returns-then-not-in_range
returns-then-not-in_range c =
    let fits : SFits w8 c.from_byte.result = search rules in
    let bytes = c.args.part.bytes.now in
    let b = bound (number c.args.set) in
    sym (first_fails (audited_test bytes c.args.part.offset b) (length bytes) c.loop-i.i (tt {0}) c.loop-i-test.true c.loop-i.invariant
    (in_range_tells b _ _ _ false fits c.from_byte.ensures c.in_range.ensures c.if-not-in_range.true))

pub returns : goal.returns
returns c =
    let bytes = c.args.part.bytes.now in
    sym (none_fails (audited_test bytes c.args.part.offset (bound (number c.args.set))) (length bytes) c.loop-i.i c.loop-i-test.false c.loop-i.invariant)
