use Rattle.std.proofs.Common.{◌≡◌}
use Rattle.keccak.specs.Keccak.{rounds}
use Rattle.keccak.proofs.permutation.permute.Given as goal

abbrev pub invariant-loop-constant : goal.invariant-loop-constant
invariant-loop-constant l = l.lanes ≡ rounds l.initial.lanes l.constant-index
