use Rattle.std.proofs.Common.{◌≡◌, ℕ, ◌*◌, ◌<◌, get_or}
use Rattle.protocol.specs.Flags.{bits}
use Rattle.challenge.proofs.flags.pack.Given as goal

abbrev pub invariant-loop-b : goal.invariant-loop-b
invariant-loop-b l = (k : ℕ) → k < l.b → get_or l.out k 0 ≡ bits l.flags (8 * k) 8
