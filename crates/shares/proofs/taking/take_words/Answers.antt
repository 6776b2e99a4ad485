use Rattle.shares.proofs.Rows.{word_taken}
use Rattle.shares.proofs.taking.take_words.Goals as goal

pub unwrap-requires : goal.unwrap-requires
unwrap-requires g c =
    (word_taken c.take.result (g.D.DigestMaker.means c.args.maker.now) (g.D.DigestMaker.means c.loop-word.maker) (g.D.DigestMaker.means c.take.new.self)
    c.args.words.now c.loop-word.word-index c.to_le_bytes.result c.loop-word-test.true c.to_le_bytes.ensures c.requires c.loop-word.invariant
    c.take.ensures.answer c.take.ensures.effect).0
