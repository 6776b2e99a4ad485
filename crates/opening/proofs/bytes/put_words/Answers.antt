use Rattle.std.proofs.Common.{sym, ap, ◌∙◌, arith}
use Rattle.std.specs.List.{flat_map}
use Rattle.std.proofs.lemmas.List.{take_all}
use Rattle.protocol.specs.Book.{wrote}
use Rattle.protocol.specs.Bytes.{le16}
use Rattle.opening.proofs.Writing.{wrote_none, wrote_word}
use Rattle.opening.proofs.bytes.put_words.Goals as goal

pub loop-i-init : goal.loop-i-init
loop-i-init c = sym (wrote_none c.args.at c.args.out.now)

pub loop-i-preserved : goal.loop-i-preserved
loop-i-preserved c =
    c.put.ensures
    ∙ wrote_word c.args.at c.loop-i.i c.args.words.now c.to_le_bytes.result c.args.out.now c.loop-i.out (omega arith) c.to_le_bytes.ensures (omega arith) c.loop-i.invariant

pub returns : goal.returns
returns c =
    c.loop-i.invariant ∙ ap (λ ws. wrote c.args.at (flat_map le16 ws) c.args.out.now) (take_all c.loop-i.i c.args.words.now (omega arith))
