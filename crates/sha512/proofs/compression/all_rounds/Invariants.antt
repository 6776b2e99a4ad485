use Rattle.std.proofs.Common.{◌≡◌, length}
use Rattle.sha512.specs.Sha512.{rounds}
use Rattle.sha512.proofs.compression.all_rounds.Given as goal

abbrev pub invariant-loop-constant : goal.invariant-loop-constant
invariant-loop-constant l = l.v ≡ rounds l.fn.words l.schedule (length l.yielded)
