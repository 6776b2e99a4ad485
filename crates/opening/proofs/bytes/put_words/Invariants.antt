use Rattle.std.proofs.Common.{◌≡◌, take}
use Rattle.std.specs.List.{flat_map}
use Rattle.protocol.specs.Book.{wrote}
use Rattle.protocol.specs.Bytes.{le16}
use Rattle.opening.proofs.bytes.put_words.Given as goal

abbrev pub invariant-loop-i : goal.invariant-loop-i
invariant-loop-i l = l.out ≡ wrote l.at (flat_map le16 (take l.i l.words)) l.initial.out
