use Rattle.std.proofs.Common.{◌≡◌, ℕ, ◌+◌, ◌*◌, ◌/◌, ◌%◌, ◌<◌, length, get_or}
use Rattle.keccak.proofs.rounds.state_of.Given as goal

abbrev pub invariant-loop-x : goal.invariant-loop-x
invariant-loop-x g l = (length l.lanes ≡ 25) × ((k : ℕ) → k < 5 * l.y + l.x → goal.F-post g l.f (k % 5) (k / 5) (get_or l.lanes k 0))

abbrev pub invariant-loop-y : goal.invariant-loop-y
invariant-loop-y g l = (length l.lanes ≡ 25) × ((k : ℕ) → k < 5 * l.y → goal.F-post g l.f (k % 5) (k / 5) (get_or l.lanes k 0))
