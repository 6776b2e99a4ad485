use Rattle.std.proofs.Common.{◌≡◌, ℕ, ◌+◌, ◌-◌, ◌*◌, ◌≤◌, List, [], map, length, take, sym, refl, ap, ◌∙◌, subst, arith, rules}
use borrow.Rule.Slice.PartMut.{put_mid}
use Rattle.std.specs.List.{range_with_len}
use Rattle.std.proofs.lemmas.List.{take_all}
use Rattle.protocol.specs.Streams.{stream_word}
use Rattle.digest.specs.Making.{Making}
use Rattle.shares.specs.Drawing.{Advanced}
use Rattle.shares.proofs.Numbers.{advanced_both, word_further, part_long, filled_more}
use Rattle.shares.proofs.drawing.draw_words.Goals as goal

-- n numbers more, which the maker gave that was as m' then
filled : (m m' : Making) (from n : ℕ) (words new : List ℕ) → from + n ≤ length words → take from words ≡ map (stream_word (m.rule [])) (range_with_len 0 from) →
    Advanced (2 * from) m m' → new ≡ map (stream_word (m'.rule [])) (range_with_len 0 n) →
    take (from + n) (put_mid from (from + n - from) words new) ≡ map (stream_word (m.rule [])) (range_with_len 0 (from + n))
filled m m' from n words new le was adv is =
    filled_more (stream_word (m.rule [])) (stream_word (m'.rule [])) from n (from + n) words new refl le was is (λ k q. word_further m m' from k adv)

pub loop-from-preserved : goal.loop-from-preserved
loop-from-preserved g c =
    let from = c.loop-from.from in
    let n = c.min-n.result in
    let words = c.loop-from.words in
    let m = g.D.DigestMaker.means c.args.maker.now in
    let m' = g.D.DigestMaker.means c.loop-from.maker in
    let le : from + n ≤ length words = search rules in
    let whole : from + n ≡ from + 64 = search rules in
    let long = part_long words from n le in (
      search rules,
      subst (λ k. take k (put_mid from (from + n - from) words c.draw_by.new.words) ≡ map (stream_word (m.rule [])) (range_with_len 0 k)) whole
          (filled m m' from n words c.draw_by.new.words le c.loop-from.invariant.1 c.loop-from.invariant.2
          (c.draw_by.ensures.words ∙ ap (λ l. map (stream_word (m'.rule [])) (range_with_len 0 l)) long)),
      advanced_both (2 * from) (2 * n) (2 * (from + 64)) m m' _ (omega arith) c.loop-from.invariant.2
          (subst (λ l. Advanced (2 * l) m' (g.D.DigestMaker.means c.draw_by.new.maker)) long c.draw_by.ensures.maker),
    )

pub returns-2 : goal.returns-2
returns-2 g c =
    let from = c.loop-from.from in
    let n = c.min-n.result in
    let words = c.loop-from.words in
    let m = g.D.DigestMaker.means c.args.maker.now in
    let m' = g.D.DigestMaker.means c.loop-from.maker in
    let le : from + n ≤ length words = search rules in
    let whole : from + n ≡ length c.args.words.now = search rules in
    let long = part_long words from n le in
    sym (take_all (from + n) (put_mid from (from + n - from) words c.draw_by.new.words) (search rules))
    ∙ filled m m' from n words c.draw_by.new.words le c.loop-from.invariant.1 c.loop-from.invariant.2
    (c.draw_by.ensures.words ∙ ap (λ l. map (stream_word (m'.rule [])) (range_with_len 0 l)) long)
    ∙ ap (λ l. map (stream_word (m.rule [])) (range_with_len 0 l)) whole
