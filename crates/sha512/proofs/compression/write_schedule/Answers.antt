use Rattle.std.proofs.Common.{◌≡◌, ℕ, ◌/◌, ◌<◌, List, [], length, get_or, refl, ap, ◌∙◌, arith, length-set}
use Rattle.std.specs.Int.{from_be_bytes, w64}
use Rattle.sha512.specs.Sha512.{block_word, schedule}
use Rattle.sha512.proofs.Schedules.{block_word_is, schedule_block, schedule_next}
use Rattle.digest.proofs.Chunks.{chunk_at}
use Rattle.sha512.proofs.compression.write_schedule.Goals as goal

pub loop-t-init : goal.loop-t-init
unfolding schedule
loop-t-init c = (omega arith, refl)

pub loop-t-preserved : goal.loop-t-preserved
loop-t-preserved c =
    let long : length c.loop-t.words ≡ 80 = c.loop-t.invariant.0 in
    let low : c.loop-t.t < length c.args.block.now / 8 = omega (arith, c.as_chunks.ensures.front_len) in
    let chunk = ap (λ (bs : List (List ℕ)). get_or bs c.loop-t.t []) c.as_chunks.ensures.front
    ∙ chunk_at 8 (length c.args.block.now / 8) c.args.block.now c.loop-t.t [] low in
    let word : c.from_be_bytes.result ≡ block_word c.args.block.now c.loop-t.t = c.from_be_bytes.ensures ∙ ap (from_be_bytes w64) chunk
    ∙ block_word_is c.args.block.now c.loop-t.t in (
      simp length-set (omega arith),
      schedule_block c.args.block.now c.loop-t.words c.loop-t.t _ (omega arith) (omega arith) c.loop-t.invariant.1 word,
    )

pub loop-t-2-preserved : goal.loop-t-2-preserved
loop-t-2-preserved c =
    let long : length c.loop-t-2.words ≡ 80 = c.loop-t-2.invariant.0 in (
      simp length-set (omega arith),
      schedule_next c.args.block.now c.loop-t-2.words c.loop-t-2.t _ (omega arith) (omega arith) c.loop-t-2.invariant.1 c.next_word.ensures,
    )
