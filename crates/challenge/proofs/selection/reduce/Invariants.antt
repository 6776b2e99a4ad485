use Rattle.std.proofs.Common.{◌≡◌, ℕ, ◌%◌, ◌<◌, ◌≤◌, get_or}
use Rattle.challenge.proofs.selection.reduce.Given as goal

abbrev pub invariant-loop-b : goal.invariant-loop-b
invariant-loop-b l =
    ((k : ℕ) → k < l.b-index → get_or l.bytes k 0 ≡ get_or l.initial.bytes k 0 % l.parties)
    × ((k : ℕ) → l.b-index ≤ k → get_or l.bytes k 0 ≡ get_or l.initial.bytes k 0)
