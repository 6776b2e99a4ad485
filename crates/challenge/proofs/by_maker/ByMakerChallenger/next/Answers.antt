use Rattle.std.proofs.Common.{option_map, ap}
use Rattle.challenge.specs.Answering.{drawn_on_first, drawn_on_second}
use Rattle.challenge.proofs.Asking.{next_by_maker}
use Rattle.challenge.proofs.by_maker.ByMakerChallenger.next.Goals as goal

pub returns-in-Some-clause-effect : goal.returns-in-Some-clause-effect
returns-in-Some-clause-effect g c =
    let s = c.args.self.now in
    let F = g.D.DigestMaker.function in
    let means = g.D.DigestMaker.means in
    next_by_maker (drawn_on_first F (g.Q.Questions.first_text s.questions)) (drawn_on_second F (g.Q.Questions.second_text s.questions)) _ (means c.in-Some.maker) (means c.draw.new.self) c.draw.result c.args.out.now c.draw.new.out (ap (option_map means) c.in-Some.is) c.draw.ensures.effect
