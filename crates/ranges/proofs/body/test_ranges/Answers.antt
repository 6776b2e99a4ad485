use Rattle.std.proofs.Common.{◌*◌, sym, ◌∙◌, rules}
use Rattle.protocol.specs.Of.{parameters}
use Rattle.ranges.proofs.Fields.{halved}
use Rattle.ranges.proofs.Stages.{key_fails, values_fail, offsets_decide}
use Rattle.ranges.proofs.body.test_ranges.Goals as goal

pub returns-in_err-test_entries : goal.returns-in_err-test_entries
returns-in_err-test_entries c =
    let w = c.args.whole.view in
    let stop = key_fails w.bytes.now (parameters w.header) c.in_err-test_entries.field-0.0 (halved _ (w.header.n * w.header.c) ∙ sym c.test_entries.ensures ∙ c.in_err-test_entries.was) in
    search rules

pub returns-in_err-test_values : goal.returns-in_err-test_values
returns-in_err-test_values c =
    let w = c.args.whole.view in
    let stop = values_fail w.bytes.now (parameters w.header) c.in_err-test_values.field-0.0
    (halved _ (w.header.n * w.header.c) ∙ sym c.in_ok-test_entries.ensures) (sym c.test_values.ensures ∙ c.in_err-test_values.was) in
    search rules

pub returns : goal.returns
returns c =
    let w = c.args.whole.view in
    c.test_offsets.ensures
    ∙ sym (offsets_decide w.bytes.now (parameters w.header) (halved _ (w.header.n * w.header.c) ∙ sym c.in_ok-test_entries.ensures) (sym c.in_ok-test_values.ensures))
