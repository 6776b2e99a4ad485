use Rattle.std.proofs.Common.{◌≡◌, ◌*◌, take}
use Rattle.std.specs.List.{flat_map}
use Rattle.protocol.specs.Bytes.{le16}
use Rattle.seedtree.proofs.words.store.Given as goal

abbrev pub invariant-loop-i : goal.invariant-loop-i
invariant-loop-i l = flat_map le16 (take l.i l.row) ≡ take (2 * l.i) l.seed
