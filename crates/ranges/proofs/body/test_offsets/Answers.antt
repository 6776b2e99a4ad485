use Rattle.std.proofs.Common.{◌+◌, ◌*◌, ◌≤◌, sym, ◌∙◌, rules, below_more, arith}
use Rattle.std.proofs.lemmas.Nat.{mul-le}
use Rattle.protocol.specs.Book.{offset_range_tests}
use Rattle.protocol.specs.Layout.{block_length}
use Rattle.protocol.specs.Of.{parameters}
use Rattle.ranges.proofs.Fields.{halved}
use Rattle.ranges.proofs.Stages.{group_fails, no_group_fails}
use Rattle.ranges.proofs.body.test_offsets.Goals as goal

pub test_entries-requires : goal.test_entries-requires
test_entries-requires c =
    let x = c.args.whole.view.header in
    let b = block_length (parameters x) in
    let more : (c.loop-e.e + 1) * b ≤ x.tau * b = mul-le (c.loop-e.e + 1) b x.tau b (omega arith) (omega arith) in
    omega arith

pub loop-e-preserved : goal.loop-e-preserved
loop-e-preserved c = below_more _ _ c.loop-e.invariant (halved _ c.args.whole.view.header.m ∙ sym c.in_ok-test_entries.ensures)

pub returns-in_err-test_entries : goal.returns-in_err-test_entries
returns-in_err-test_entries c =
    let w = c.args.whole.view in
    let stop = group_fails (offset_range_tests w.bytes.now (parameters w.header)) w.header.tau c.loop-e.e c.in_err-test_entries.field-0.0
    c.loop-e-test.true c.loop-e.invariant (halved _ w.header.m ∙ sym c.test_entries.ensures ∙ c.in_err-test_entries.was) in
    search rules

pub returns : goal.returns
returns c =
    let w = c.args.whole.view in
    sym (no_group_fails (offset_range_tests w.bytes.now (parameters w.header)) w.header.tau c.loop-e.e c.loop-e-test.false c.loop-e.invariant)
