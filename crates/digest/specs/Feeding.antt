-- A maker that is fed a text part by part.
use Rattle.std.specs.Prelude.{◌≡◌, ℕ, ◌+◌, ◌≤◌}
use Rattle.digest.specs.Making.{Making, limit}

-- nothing was drawn yet, and n bytes more are within the limit
abbrev pub Ready : ℕ → Making → Type 0
Ready n m = (m.drawn ≡ 0) × (m.taken + n ≤ limit)
