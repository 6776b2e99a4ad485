use Rattle.std.proofs.Common.{◌≡◌, [], length, ap, ◌∙◌, arith}
use Rattle.std.proofs.lemmas.List.{append-nil}
use Rattle.sha512.specs.Hash.{word_bytes}
use Rattle.sha512.specs.Hashing.{ended}
use Rattle.sha512.proofs.Ending.{ended_more}
use Rattle.sha512.proofs.stretched.stream_block.Goals as goal

pub returns : goal.returns
returns c =
    let four : length c.to_be_bytes.result ≡ 4 = ap length c.to_be_bytes.ensures in
    c.word_bytes.ensures
    ∙ ap word_bytes (c.finish.ensures
    ∙ ended_more c.args.hasher.now c.take.new.self c.to_be_bytes.result [] c.take.ensures (omega (arith, c.requires.room))
    ∙ ap (ended c.args.hasher.now) (append-nil c.to_be_bytes.result ∙ c.to_be_bytes.ensures))
