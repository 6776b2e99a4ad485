use Rattle.std.proofs.Common.{◌≡◌, ◌/◌, length, ◌∙◌, arith, below_more}
use Rattle.std.proofs.lemmas.List.FromFn.{fill_by_all}
use Rattle.std.proofs.lemmas.List.{get_or-set_same, get_or-set_other}
use Rattle.protocol.specs.Streams.{stream_word}
use Rattle.lattice.specs.Lines.{at}
use Rattle.lattice.proofs.Streams.{word_of_pair}
use Rattle.lattice.proofs.values.read_words.Goals as goal

pub loop-t-preserved : goal.loop-t-preserved
loop-t-preserved c =
    let bs = c.args.bytes.now in
    let t = c.loop-t.t in
    below_more (λ k. at _ k ≡ stream_word (at bs) k) t
    (λ k h. get_or-set_other c.loop-t.out t k _ 0 (λ o. omega arith) ∙ c.loop-t.invariant k h)
    (get_or-set_same c.loop-t.out t _ 0 (omega arith)
    ∙ c.from_le_bytes.ensures
    ∙ word_of_pair bs c.as_chunks.result.0.now (length bs / 2) t c.as_chunks.ensures.front (omega arith))

pub returns : goal.returns
returns c = fill_by_all (stream_word (at c.args.bytes.now)) c.loop-t.out (length c.args.out.now) 0 (omega arith) (λ k h. c.loop-t.invariant k (omega arith))
