use Rattle.std.proofs.Common.{◌≡◌, ℕ, ◌+◌, ◌-◌, ◌<◌, ◌≤◌, length, get_or}
use Rattle.keccak.specs.Meaning.{giving}
use Rattle.keccak.proofs.state.Sponge.squeeze.Given as goal

abbrev pub invariant-loop-done : goal.invariant-loop-done
invariant-loop-done g l =
    (l.done ≤ length l.initial.out)
    × ((k : ℕ) → k < l.done → get_or l.out k 0 ≡ giving g.row.RATE l.initial.self k)
    × ((i : ℕ) → giving g.row.RATE l.self i ≡ giving g.row.RATE l.initial.self (l.done + i))

abbrev pub decreases-loop-done : goal.decreases-loop-done
decreases-loop-done g l = length l.initial.out - l.done
