use Rattle.std.proofs.Common.{take}
use Rattle.digest.specs.Making.{Took}
use Rattle.texts.proofs.fronts.take_flags.Given as goal

abbrev pub invariant-loop-flag : goal.invariant-loop-flag
invariant-loop-flag g l = Took (take l.flag-index l.flags) (g.D.DigestMaker.means l.initial.maker) (g.D.DigestMaker.means l.maker)
