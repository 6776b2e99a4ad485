use Rattle.std.proofs.Common.{[], ap, ◌∙◌, arith}
use Rattle.std.proofs.lemmas.List.{append-nil}
use Rattle.sha512.specs.Hash.{word_bytes, hash_words}
use Rattle.sha512.proofs.Ending.{ended_more, ended_new}
use Rattle.sha512.proofs.hash.sha512.Goals as goal

pub returns : goal.returns
returns c =
    c.word_bytes.ensures
    ∙ ap word_bytes (c.finish.ensures
    ∙ ended_more c.new-hasher.result c.take.new.self c.args.text.now [] c.take.ensures (omega (arith, c.new-hasher.ensures.total))
    ∙ ended_new c.new-hasher.result _ c.new-hasher.ensures.words c.new-hasher.ensures.total
    ∙ ap hash_words (append-nil c.args.text.now))
