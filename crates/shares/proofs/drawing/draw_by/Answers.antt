use Rattle.std.proofs.Common.{◌≡◌, ℕ, ◌*◌, [], map, length, ap, ◌∙◌, arith}
use Rattle.std.specs.List.{range_with_len}
use Rattle.std.proofs.lemmas.List.FromFn.{fill_by_all, get_or-map-range_with_len, length-map-range_with_len}
use Rattle.protocol.specs.Streams.{first_bytes, stream_word}
use Rattle.digest.proofs.Taking.{drew_ok}
use Rattle.lattice.specs.Lines.{at}
use Rattle.lattice.proofs.Streams.{word_of_front}
use Rattle.shares.proofs.Numbers.{drew_advanced}
use Rattle.shares.proofs.drawing.draw_by.Goals as goal

pub returns : goal.returns
returns g c =
    let m = g.D.DigestMaker.means c.args.maker.now in
    let s : ℕ → ℕ = m.rule [] in
    let out = c.draw.new.out in
    let n = length c.args.words.now in
    let drew = (drew_ok c.draw.result m (g.D.DigestMaker.means c.draw.new.self) c.args.bytes.now out (omega arith) c.draw.ensures.answer c.draw.ensures.effect).1 in
    let front : out ≡ first_bytes s (2 * n) = drew.bytes ∙ ap (first_bytes s) (let e : length out ≡ 2 * n = omega arith in e) in
    record {
      words =
          c.read_words.ensures
          ∙ fill_by_all (stream_word s) (map (stream_word (at out)) (range_with_len 0 n)) n 0 (length-map-range_with_len (stream_word (at out)) 0 n)
          (λ k h. get_or-map-range_with_len (stream_word (at out)) 0 n k k 0 h (omega arith) ∙ word_of_front s out n k front h);
      maker = drew_advanced m _ out (2 * n) (omega arith) drew;
    }
