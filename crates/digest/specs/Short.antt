-- The bytes that a short value holds.
use Rattle.std.specs.Prelude.{ℕ, List, take}
use Rattle.digest.specs.declared.short.ShortBytes.{ShortBytes}

abbrev pub short_bytes : ShortBytes → List ℕ
short_bytes s = take s.width s.bytes
