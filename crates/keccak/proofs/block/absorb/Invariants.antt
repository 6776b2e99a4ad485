use Rattle.std.proofs.Common.{◌≡◌}
use Rattle.keccak.specs.Sponge.{added}
use Rattle.keccak.proofs.block.absorb.Given as goal

abbrev pub invariant-loop-i : goal.invariant-loop-i
invariant-loop-i g l = l.lanes ≡ added l.initial.lanes l.block l.i
