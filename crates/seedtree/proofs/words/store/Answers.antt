use Rattle.std.proofs.Common.{◌*◌, sym, ap, ◌∙◌, arith}
use Rattle.std.specs.List.{flat_map}
use Rattle.std.proofs.lemmas.List.{take_all}
use Rattle.protocol.specs.Bytes.{le16}
use Rattle.seedtree.proofs.Seeds.{stored_more, stored_row}
use Rattle.seedtree.proofs.words.store.Goals as goal

pub returns : goal.returns
returns c =
    stored_row c.args.words.now c.loop-i.row c.args.seed.now c.args.k c.requires.room (omega arith)
    (ap (flat_map le16) (sym (take_all c.loop-i.i c.loop-i.row (omega arith))) ∙ c.loop-i.invariant ∙ take_all (2 * c.loop-i.i) c.args.seed.now (omega arith))
