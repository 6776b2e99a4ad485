-- A toy digest function, simple enough to compute and weak enough to collide: a polynomial of the text, and a line of it by position.
use Rattle.std.specs.Prelude.{ℕ, ◌+◌, ◌*◌, ◌/◌, ◌%◌, List, [], ◌∷◌}
use Rattle.protocol.specs.Streams.{Digest, First, Second}
use Rattle.protocol.specs.Texts.{derived_first, derived_second}

abbrev pub poly : List ℕ → ℕ
poly [] = 1
poly (b ∷ bs) = (b + 257 * poly bs) % 65521

unfoldable pub mix : Digest
mix text i = (poly text * (2 * i + 3) + i) / 8 % 256

abbrev pub first : First
first = derived_first mix

-- each v makes another challenger
abbrev pub second : ℕ → Second
second v salt d1 d2 i = (derived_second mix salt d1 d2 i + v) % 256
