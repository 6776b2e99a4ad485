-- The tests of a part of a record, by the part's bytes and the offset at which it begins.
use Rattle.std.specs.Prelude.{ℕ, ◌+◌, ◌*◌, ◌/◌, List, map, length, nat_le, slice_index}
use Rattle.std.specs.List.{range_with_len}
use Rattle.protocol.specs.declared.fault.Fault.TheVariants.{Residue, Audited}
use Rattle.protocol.specs.Bytes.{word}
use Rattle.protocol.specs.Sampling.{signed, beyond}
use Rattle.protocol.specs.Tests.{Test}

-- entry i of a part, two bytes, is below q
abbrev pub residue_test : List ℕ → ℕ → ℕ → ℕ → Test
residue_test bytes at q i = record { fails = nat_le q (word bytes (2 * i)); fault = Residue (at + 2 * i) }

abbrev pub residue_tests : List ℕ → ℕ → ℕ → List Test
residue_tests bytes at q = map (residue_test bytes at q) (range_with_len 0 (length bytes / 2))

-- value i of a part, one byte, lies from -b to b
abbrev pub audited_test : List ℕ → ℕ → ℕ → ℕ → Test
audited_test bytes at b i = record { fails = beyond b (signed (slice_index bytes i)); fault = Audited (at + i) }

abbrev pub audited_tests : List ℕ → ℕ → ℕ → List Test
audited_tests bytes at b = map (audited_test bytes at b) (range_with_len 0 (length bytes))
