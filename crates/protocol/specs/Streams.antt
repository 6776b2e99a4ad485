-- What digests, challengers and SHAKE128 are to the definitions: functions to streams of bytes.
use Rattle.std.specs.Prelude.{ℕ, ◌+◌, ◌*◌, ◌<◌, List, map}
use Rattle.std.specs.List.{range_with_len}

-- of a text and a position, a byte: the function F of one kind of digest maker, or SHAKE128
abbrev pub Digest : Type 0
Digest = List ℕ → ℕ → ℕ

abbrev pub GivesBytes : Digest → Type 0
GivesBytes F = (text : List ℕ) (i : ℕ) → F text i < 256

-- the first n bytes of a stream
unfoldable pub first_bytes : (ℕ → ℕ) → ℕ → List ℕ
first_bytes s n = map s (range_with_len 0 n)

-- number t of two bytes, the low one first
abbrev pub stream_word : (ℕ → ℕ) → ℕ → ℕ
stream_word s t = s (2 * t) + 256 * s (2 * t + 1)

-- n bytes, drawn on a text
abbrev pub drawn : Digest → List ℕ → ℕ → List ℕ
drawn F text n = first_bytes (F text) n

-- a challenger's answers: G1 of salt and d1, G2 of salt, d1 and d2, each a stream
abbrev pub First : Type 0
First = List ℕ → List ℕ → ℕ → ℕ

abbrev pub Second : Type 0
Second = List ℕ → List ℕ → List ℕ → ℕ → ℕ
