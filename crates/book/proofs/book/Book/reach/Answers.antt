use Rattle.std.proofs.Common.{◌≡◌, ◌+◌, ◌∙◌, subst, arith, rules}
use Rattle.std.proofs.lemmas.List.{take_rest}
use Rattle.book.proofs.Cutting.{behind, body_room, body_small}
use Rattle.book.proofs.Walking.{Reached, here}
use Rattle.book.proofs.book.Book.reach.Goals as goal

pub body_length-requires : goal.body_length-requires
body_length-requires c = (here c.args.self.now c.loop.counter c.loop.rest.now (omega arith) c.loop.invariant).begins

pub overflow_add-rest : goal.overflow_add-rest
overflow_add-rest c =
    let small = body_small c.loop.rest.now (here c.args.self.now c.loop.counter c.loop.rest.now (omega arith) c.loop.invariant).begins in
    omega (arith, c.body_length.ensures, small)

pub slice_bounds-rest-count : goal.slice_bounds-rest-count
slice_bounds-rest-count c =
    body_room c.loop.rest.now (here c.args.self.now c.loop.counter c.loop.rest.now (omega arith) c.loop.invariant).begins _ c.body_length.ensures

pub slice_bounds-rest-start : goal.slice_bounds-rest-start
slice_bounds-rest-start c =
    let room = body_room c.loop.rest.now (here c.args.self.now c.loop.counter c.loop.rest.now (omega arith) c.loop.invariant).begins _ c.body_length.ensures in
    search rules

pub loop-preserved : goal.loop-preserved
loop-preserved c =
    let h = here c.args.self.now c.loop.counter c.loop.rest.now (omega arith) c.loop.invariant in
    take_rest c.loop.rest.now (4 + c.body_length.result) ∙ behind c.loop.rest.now h.begins _ c.body_length.ensures ∙ h.next

pub returns : goal.returns
returns c =
    let b = c.args.self.now in
    let all : c.loop.counter ≡ c.args.k = omega arith in
    let h = here b c.args.k c.loop.rest.now c.requires (subst (λ i. Reached b i c.loop.rest.now) all c.loop.invariant) in
    record { begins = h.begins; is = h.is }
