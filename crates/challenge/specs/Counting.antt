-- Flags that are 0 or 1, and how many of a header's flag bytes' bits are set.
use Rattle.std.specs.Prelude.{ℕ, ◌<◌, List, [], ◌∷◌, length, Result, slice_index}
use Rattle.protocol.specs.declared.fault.Fault.{Fault}
use Rattle.protocol.specs.Flags.{bits_set}
use Rattle.protocol.specs.Header.{length_test}
use Rattle.protocol.specs.Parameters.{Parameters, flag_length}
use Rattle.protocol.specs.Tests.{first_failing}

abbrev pub Plain : List ℕ → Type 0
Plain flags = (k : ℕ) → slice_index flags k < 2

-- the answer to a count
abbrev pub counts : Parameters → List ℕ → Result ℕ Fault
counts p bytes = first_failing (length_test (length bytes) (flag_length p) ∷ []) (bits_set bytes)
