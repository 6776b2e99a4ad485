use Rattle.std.proofs.Common.{◌≤◌, length, take}
use Rattle.digest.specs.Making.{Holding, limit}
use Rattle.digest.specs.Parts.{text_of}
use Rattle.digest.proofs.parts.take_parts.Given as goal

abbrev pub invariant-loop-part : goal.invariant-loop-part
invariant-loop-part g l =
    Holding g.D.DigestMaker.function (text_of (take l.part-index l.parts)) (g.D.DigestMaker.means l.maker)
    × (length (text_of (take l.part-index l.parts)) ≤ limit)
