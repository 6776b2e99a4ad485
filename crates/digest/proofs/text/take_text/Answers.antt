use Rattle.std.proofs.Common.{[], ◌∷◌, subst, arith}
use Rattle.std.proofs.lemmas.List.{append_assoc, length-append}
use Rattle.digest.specs.Making.{Holding}
use Rattle.digest.proofs.Runs.{taken_ok}
use Rattle.digest.proofs.text.take_text.Goals as goal

pub returns : goal.returns
returns g c =
    let F = g.D.DigestMaker.function in
    let l = c.args.label in
    let a = c.args.a.now in
    let b = c.args.b.now in
    let d = c.args.c.now in
    let one = (taken_ok c.take.result (g.D.DigestMaker.means c.take.new.self) (l ∷ []) c.begin.ensures (omega arith) c.take.ensures.answer c.take.ensures.effect).1 in
    let two = (taken_ok c.take-2.result (g.D.DigestMaker.means c.take-2.new.self) a one (omega arith) c.take-2.ensures.answer c.take-2.ensures.effect).1 in
    let three = (taken_ok c.take-3.result (g.D.DigestMaker.means c.take-3.new.self) b two (omega (arith, length-append a b)) c.take-3.ensures.answer c.take-3.ensures.effect).1 in
    let four = (taken_ok c.take-4.result (g.D.DigestMaker.means c.take-4.new.self) d three (omega (arith, length-append a b)) c.take-4.ensures.answer c.take-4.ensures.effect).1 in
    subst (λ t. Holding F (l ∷ t) (g.D.DigestMaker.means c.take-4.new.self)) (append_assoc a b d) four
