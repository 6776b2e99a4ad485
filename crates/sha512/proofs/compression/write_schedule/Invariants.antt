use Rattle.std.proofs.Common.{◌≡◌, length, take}
use Rattle.sha512.specs.Sha512.{schedule}
use Rattle.sha512.proofs.compression.write_schedule.Given as goal

abbrev pub invariant-loop-t : goal.invariant-loop-t
invariant-loop-t l = (length l.words ≡ 80) × (take l.t l.words ≡ schedule l.block l.t)

abbrev pub invariant-loop-t-2 : goal.invariant-loop-t-2
invariant-loop-t-2 l = (length l.words ≡ 80) × (take l.t l.words ≡ schedule l.block l.t)
