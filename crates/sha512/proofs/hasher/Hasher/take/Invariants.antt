use Rattle.std.proofs.Common.{◌≡◌, ◌%◌, ◌++◌, take}
use Rattle.std.specs.List.{concat}
use Rattle.sha512.specs.Hashing.{HasTaken}
use Rattle.sha512.proofs.hasher.Hasher.take.Given as goal

abbrev pub invariant-loop-block : goal.invariant-loop-block
invariant-loop-block l =
    (l.self.total % 128 ≡ 0) × HasTaken (take l.room l.bytes ++ concat (take l.block-index l.blocks)) l.fn.self l.self
