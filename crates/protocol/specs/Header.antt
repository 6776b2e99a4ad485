-- The header of a record: its fields as bytes, and the tests that it must pass.
use Rattle.std.specs.Prelude.{ℕ, ◌+◌, not, ◌&&◌, ◌||◌, List, [], ◌∷◌, ◌++◌, length, Result, ◌==◌, nat_lt, slice_index}
use Rattle.protocol.specs.declared.fault.Fault.{Fault}
use Rattle.protocol.specs.declared.fault.Fault.TheVariants.{Short, Mark, Version, Limit, Length}
use Rattle.protocol.specs.declared.field.Field.{Field}
use Rattle.protocol.specs.declared.field.Field.TheVariants as field
use Rattle.protocol.specs.Bytes.{word, le16}
use Rattle.protocol.specs.Parameters.{Parameters, sigma}
use Rattle.protocol.specs.Layout.{offset, record_length}
use Rattle.protocol.specs.Tests.{Test, first_failing, after}

-- the numbers that stand in a header's fifteen bytes, or in those that a record begins with
abbrev pub parameters_of : List ℕ → Parameters
parameters_of bytes = record {
  version = word bytes 3;
  set = slice_index bytes 5;
  n = word bytes 6;
  c = slice_index bytes 8;
  m = word bytes 9;
  h = slice_index bytes 11;
  tau = slice_index bytes 12;
  a = word bytes 13;
}

-- the fifteen bytes of a header: the mark KPP, and the numbers in the same order
abbrev pub header_bytes : Parameters → List ℕ
header_bytes p =
    75 ∷ 80 ∷ 80
    ∷ (le16 p.version ++ (p.set ∷ (le16 p.n ++ (p.c ∷ (le16 p.m ++ (p.h ∷ p.tau ∷ le16 p.a))))))

abbrev pub short_test : List ℕ → Test
short_test bytes = record { fails = nat_lt (length bytes) 15; fault = Short }

abbrev pub mark_test : List ℕ → Test
mark_test bytes = record { fails = not (slice_index bytes 0 == 75 && (slice_index bytes 1 == 80 && slice_index bytes 2 == 80)); fault = Mark }

abbrev pub version_test : Parameters → Test
version_test p = record { fails = not (p.version == 1); fault = Version }

-- a field must lie from low to high
abbrev pub limit : Parameters → Field → ℕ → ℕ → ℕ → Test
limit p f value low high = record { fails = nat_lt value low || nat_lt high value; fault = Limit (offset p f) }

-- by offset, so that the lowest field past its limit is the one that refuses
abbrev pub limits : Parameters → List Test
limits p =
    limit p field.Set p.set 1 3
    ∷ limit p field.Rows p.n 1 1344
    ∷ limit p field.Columns p.c 1 8
    ∷ limit p field.Values p.m (sigma p + 1) 32768
    ∷ limit p field.Depth p.h 1 8
    ∷ limit p field.Repetitions p.tau 1 64
    ∷ limit p field.AttributeBytes p.a 0 1024
    ∷ []

-- what is handed in must have the length that the header tells
abbrev pub length_test : ℕ → ℕ → Test
length_test long due = record { fails = not (long == due); fault = Length due }

-- the tests of a bare header of fifteen bytes
abbrev pub bare_tests : List ℕ → List Test
bare_tests bytes = let p = parameters_of bytes in mark_test bytes ∷ version_test p ∷ limits p

abbrev pub checks_header : List ℕ → Result Parameters Fault
checks_header bytes = first_failing (bare_tests bytes) (parameters_of bytes)

-- the tests of the header at the front of any bytes
abbrev pub header_tests : List ℕ → List Test
header_tests bytes = short_test bytes ∷ bare_tests bytes

abbrev pub reads_header : List ℕ → Result Parameters Fault
reads_header bytes = first_failing (header_tests bytes) (parameters_of bytes)

-- the header of a record, which has the length that its header tells
abbrev pub reads_record : List ℕ → Result Parameters Fault
reads_record bytes = after (reads_header bytes) (λ p. first_failing (length_test (length bytes) (record_length p) ∷ []) p)
