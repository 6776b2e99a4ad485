use Rattle.std.proofs.Common.{refl, add-one, rules}
use Rattle.std.proofs.lemmas.List.{length_push}
use Rattle.std.proofs.lemmas.Slice.Zip.{zip_turn}
use Rattle.sha512.specs.Sha512.{constants, rounds}
use Rattle.sha512.proofs.compression.all_rounds.Goals as goal

pub loop-constant-init : goal.loop-constant-init
unfolding rounds
loop-constant-init c = refl

pub loop-constant-preserved : goal.loop-constant-preserved
unfolding rounds
loop-constant-preserved c =
    let turn = zip_turn constants c.args.schedule.now c.loop-constant.yielded c.into_iter-constant-iterator.result
    c.loop-constant.constant-iterator c.next.new.self c.next.result (search rules) (search rules)
    c.loop-constant.yielded_by (c.in-Some.constant, c.in-Some.word) c.in-Some.is c.next.ensures.steps in
    rw (length_push, add-one) (cc (turn.2 0, turn.3 0))
