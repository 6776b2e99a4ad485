use Rattle.std.proofs.Common.{◌≡◌, ◌+◌, ◌*◌, ◌/◌, [], length, get_or, ap, ◌∙◌, arith, rules, ◌%◌}
use Rattle.std.proofs.lemmas.List.{length_push, get_or-drop}
use Rattle.std.proofs.lemmas.Slice.Zip.{zip_turn, zip_end}
use Rattle.protocol.specs.Residues.{dot}
use Rattle.lattice.specs.Lines.{at}
use Rattle.lattice.proofs.Chunks.{chunk_entry}
use Rattle.lattice.proofs.Dots.{dot_joined}
use Rattle.lattice.proofs.product.inner_in_pieces.Goals as goal

pub loop-x-preserved : goal.loop-x-preserved
loop-x-preserved c =
    let a = c.args.a.now in
    let b = c.args.b.now in
    let k = length c.loop-x.yielded in
    let t = zip_turn c.as_chunks.result.0.now c.as_chunks-2.result.0.now c.loop-x.yielded c.into_iter-x-iterator.result c.loop-x.x-iterator c.next.new.self c.next.result (cc) (cc) c.loop-x.yielded_by
    (c.in-Some.x, c.in-Some.y) c.in-Some.is c.next.ensures.steps in
    let long : length c.in-Some.x.now ≡ 128 = search rules in
    dot_joined (k * 128) 128 (at a) (at b) (at c.in-Some.x.now) (at c.in-Some.y.now) c.loop-x.sum c.inner-sum.result c.loop-x.invariant
    (c.inner-sum.ensures ∙ ap (λ n. dot n (at c.in-Some.x.now) (at c.in-Some.y.now) % 65536) long)
    (λ j h. ap (λ xs. at xs j) (t.2 []) ∙ ap (λ ps. at (get_or ps k []) j) c.as_chunks.ensures.front ∙ chunk_entry 128 a (length a / 128) k j (omega arith) h)
    (λ j h. ap (λ xs. at xs j) (t.3 []) ∙ ap (λ ps. at (get_or ps k []) j) c.as_chunks-2.ensures.front ∙ chunk_entry 128 b (length b / 128) k j (omega arith) h)
    ∙ ap (λ n. dot n (at a) (at b) % 65536) (omega (arith, length_push c.loop-x.yielded (c.in-Some.x, c.in-Some.y)))

pub returns : goal.returns
returns c =
    let a = c.args.a.now in
    let b = c.args.b.now in
    let k = length c.loop-x.yielded in
    let end = zip_end c.as_chunks.result.0.now c.as_chunks-2.result.0.now c.loop-x.yielded c.into_iter-x-iterator.result c.loop-x.x-iterator c.next.new.self c.next.result (cc) (cc) c.loop-x.yielded_by
    c.in-None.is c.next.ensures.steps in
    let all : k ≡ length a / 128 = omega (arith, end, c.as_chunks.ensures.front_len, c.as_chunks-2.ensures.front_len, c.requires) in
    dot_joined (k * 128) (length c.as_chunks.result.1.now) (at a) (at b) (at c.as_chunks.result.1.now) (at c.as_chunks-2.result.1.now) c.loop-x.sum c.inner-2.result c.loop-x.invariant
    c.inner-2.ensures
    (λ j h. ap (λ xs. at xs j) c.as_chunks.ensures.back ∙ get_or-drop (length a / 128 * 128) a j 0 ∙ ap (λ n. at a (n * 128 + j)) (omega arith))
    (λ j h. ap (λ xs. at xs j) c.as_chunks-2.ensures.back ∙ get_or-drop (length b / 128 * 128) b j 0 ∙ ap (λ n. at b (n * 128 + j)) (omega (arith, all, c.requires)))
    ∙ ap (λ n. dot n (at a) (at b) % 65536) (omega (arith, all, c.as_chunks.ensures.back_len))
