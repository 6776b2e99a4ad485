use Rattle.std.proofs.Common.{◌≡◌, ℕ, ◌<◌, length, get_or}
use Rattle.keccak.specs.Keccak.{parity}
use Rattle.keccak.proofs.rounds.mix_columns.Given as goal

abbrev pub invariant-loop-x : goal.invariant-loop-x
invariant-loop-x l = (length l.sum-items ≡ 5) × ((k : ℕ) → k < l.x → get_or l.sum-items k 0 ≡ parity l.a k)
