use Rattle.std.proofs.Common.{sym, ◌∙◌}
use Rattle.std.proofs.lemmas.Result.{err_from_is_err_and}
use Rattle.digest.proofs.Runs.{one_more, one_refused, all_taken}
use Rattle.digest.proofs.parts.take_parts.Goals as goal

pub returns-in_err-take : goal.returns-in_err-take
returns-in_err-take g c =
    let p = err_from_is_err_and c.from_residual.result c.from_residual.ensures.1 in
    rw (p.1, p.2) (record {
      answer = one_refused c.args.parts.now c.loop-part.part-index _ c.in_err-take.field-0.0 c.loop-part-test.true c.loop-part.invariant.0 (sym c.in_err-take.was ∙ c.take.ensures.answer);
      holds = tt;
    })

pub loop-part-preserved : goal.loop-part-preserved
loop-part-preserved g c =
    one_more c.args.parts.now c.loop-part.part-index _ c.loop-part-test.true c.loop-part.invariant.0 c.in_ok-take.ensures.answer c.in_ok-take.ensures.effect

pub returns : goal.returns
returns g c =
    let all = all_taken c.args.parts.now c.loop-part.part-index c.loop-part-test.false c.loop-part.invariant.0 c.loop-part.invariant.1 in
    record { answer = all.0; holds = all.1 }
