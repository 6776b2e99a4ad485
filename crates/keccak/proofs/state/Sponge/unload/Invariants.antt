use Rattle.std.proofs.Common.{◌≡◌, ℕ, ◌*◌, ◌<◌, get_or}
use Rattle.keccak.specs.Sponge.{byte_of}
use Rattle.keccak.proofs.state.Sponge.unload.Given as goal

-- the lanes are lent, so `self` is a tuple: the block is its part 1.1.0
abbrev pub invariant-loop-i : goal.invariant-loop-i
invariant-loop-i g l = (k : ℕ) → k < 8 * l.i → get_or l.self.1.1.0 k 0 ≡ byte_of l.fn.self.lanes k
