use Rattle.std.proofs.Common.{◌≡◌, ℕ, ◌+◌, ◌<◌, [], get_or}
use Rattle.sha512.specs.Stretching.{stream_from}
use Rattle.sha512.proofs.stretched.Stretched.fill.Given as goal

abbrev pub invariant-loop-byte : goal.invariant-loop-byte
invariant-loop-byte l =
    (l.self.hasher ≡ l.initial.self.hasher) × (l.self.drawn ≡ l.initial.self.drawn + l.byte-index)
    × ((k : ℕ) → k < l.byte-index → get_or l.out k 0 ≡ stream_from l.initial.self.hasher l.initial.self.drawn [] k)
