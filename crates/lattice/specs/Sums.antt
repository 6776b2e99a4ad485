-- Sums over the parties with or without one left out.
use Rattle.std.specs.Prelude.{ℕ, Option, Some, None}
use Rattle.protocol.specs.Group.{Entries, total, others}

-- f 0 + .. + f (n - 1), without the place that is left out
abbrev pub without : {G : Type 0} → Entries G → ℕ → Option ℕ → (ℕ → G) → G
without g n None f = total g n f
without g n (Some p) f = others g n p f
