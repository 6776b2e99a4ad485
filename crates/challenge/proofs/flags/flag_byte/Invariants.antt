use Rattle.std.proofs.Common.{◌≡◌, ◌+◌, ◌-◌, ◌*◌, ◌^◌, ◌<◌, ◌≤◌}
use Rattle.protocol.specs.Flags.{bits}
use Rattle.challenge.proofs.flags.flag_byte.Given as goal

abbrev pub invariant-loop-k : goal.invariant-loop-k
invariant-loop-k l = (8 * l.b ≤ l.k) × (l.byte ≡ bits l.flags l.k (8 * l.b + 8 - l.k)) × (l.byte < 2 ^ (8 * l.b + 8 - l.k))
