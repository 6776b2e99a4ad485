-- Where the fields of a record lie.
use Rattle.std.specs.Prelude.{◌≡◌, ℕ, zero, suc, ◌+◌, ◌-◌, ◌*◌, List, [], ◌∷◌, ◌++◌, length, Some, None, codes, decimal, Option}
use Rattle.std.specs.List.{flat_map}
use Rattle.protocol.specs.declared.field.Field.{Field}
use Rattle.protocol.specs.declared.field.Field.TheVariants.{Mark, Version, Set, Rows, Columns, Values, Depth, Repetitions, AttributeBytes, SeedA, Salt, FirstDigest, SecondDigest, Attributes, Key, Audited, Commitment, Seeds, Offsets}
use Rattle.protocol.specs.Bytes.{part}
use Rattle.protocol.specs.Parameters.{Parameters, width, sigma, flag_length}

-- how many bytes a field has
abbrev pub size : Parameters → Field → ℕ
size p Mark = 3
size p Version = 2
size p Set = 1
size p Rows = 2
size p Columns = 1
size p Values = 2
size p Depth = 1
size p Repetitions = 1
size p AttributeBytes = 2
size p SeedA = 16
size p Salt = width p
size p FirstDigest = width p
size p SecondDigest = width p
size p Attributes = p.a
-- B: n·c two-byte entries, row by row
size p Key = 2 * (p.n * p.c)
-- the values that are not kept, one byte each
size p Audited = p.m - sigma p
size p (Commitment e) = width p
size p (Seeds e) = 32 * p.h
size p (Offsets e) = 2 * p.m

-- the bytes of one repetition
abbrev pub block_length : Parameters → ℕ
block_length p = width p + 32 * p.h + 2 * p.m

-- where the repetitions begin
abbrev pub blocks_at : Parameters → ℕ
blocks_at p = 31 + 3 * width p + p.a + 2 * (p.n * p.c) + (p.m - sigma p)

-- where a field begins
abbrev pub offset : Parameters → Field → ℕ
offset p Mark = 0
offset p Version = 3
offset p Set = 5
offset p Rows = 6
offset p Columns = 8
offset p Values = 9
offset p Depth = 11
offset p Repetitions = 12
offset p AttributeBytes = 13
offset p SeedA = 15
offset p Salt = 31
offset p FirstDigest = 31 + width p
offset p SecondDigest = 31 + 2 * width p
offset p Attributes = 31 + 3 * width p
offset p Key = 31 + 3 * width p + p.a
offset p Audited = 31 + 3 * width p + p.a + 2 * (p.n * p.c)
offset p (Commitment e) = blocks_at p + e * block_length p
offset p (Seeds e) = blocks_at p + e * block_length p + width p
offset p (Offsets e) = blocks_at p + e * block_length p + width p + 32 * p.h

-- the length that a record has
abbrev pub record_length : Parameters → ℕ
record_length p = blocks_at p + p.tau * block_length p

-- the bytes of a book's entry: the record's length, the record, the hidden parties, the flags
abbrev pub entry_length : Parameters → ℕ
entry_length p = 4 + (record_length p + (p.tau + flag_length p))

-- the fields of the first so many repetitions
abbrev pub block_fields : ℕ → List Field
block_fields zero = []
block_fields (suc e) = block_fields e ++ (Commitment e ∷ Seeds e ∷ Offsets e ∷ [])

abbrev pub leading_fields : List Field
leading_fields =
    Mark ∷ Version ∷ Set ∷ Rows ∷ Columns ∷ Values ∷ Depth ∷ Repetitions ∷ AttributeBytes
    ∷ SeedA ∷ Salt ∷ FirstDigest ∷ SecondDigest ∷ Attributes ∷ Key ∷ Audited ∷ []

-- all fields, in the order in which they stand in a record
abbrev pub fields : Parameters → List Field
fields p = leading_fields ++ block_fields p.tau

abbrev pub field_count : Parameters → ℕ
field_count p = 16 + 3 * p.tau

-- the bytes of a field
abbrev pub field_part : Parameters → List ℕ → Field → List ℕ
field_part p bytes f = part bytes (offset p f) (size p f)

-- the fields, in order and end to end, are the whole record, and there are as many as are counted
abbrev pub FieldsTile : Type 0
FieldsTile =
    (p : Parameters) →
    (length (fields p) ≡ field_count p)
    × ((bytes : List ℕ) → length bytes ≡ record_length p → flat_map (field_part p bytes) (fields p) ≡ bytes)

-- a field's name, without its repetition
abbrev pub base_name : Field → List ℕ
base_name Mark = codes "mark"
base_name Version = codes "version"
base_name Set = codes "set"
base_name Rows = codes "n"
base_name Columns = codes "c"
base_name Values = codes "M"
base_name Depth = codes "h"
base_name Repetitions = codes "tau"
base_name AttributeBytes = codes "a"
base_name SeedA = codes "seedA"
base_name Salt = codes "salt"
base_name FirstDigest = codes "d1"
base_name SecondDigest = codes "d2"
base_name Attributes = codes "attributes"
base_name Key = codes "B"
base_name Audited = codes "audited"
base_name (Commitment e) = codes "commitment"
base_name (Seeds e) = codes "seeds"
base_name (Offsets e) = codes "offsets"

-- the repetition in which a field stands, if it stands in one
abbrev pub repetition_of : Field → Option ℕ
repetition_of Mark = None
repetition_of Version = None
repetition_of Set = None
repetition_of Rows = None
repetition_of Columns = None
repetition_of Values = None
repetition_of Depth = None
repetition_of Repetitions = None
repetition_of AttributeBytes = None
repetition_of SeedA = None
repetition_of Salt = None
repetition_of FirstDigest = None
repetition_of SecondDigest = None
repetition_of Attributes = None
repetition_of Key = None
repetition_of Audited = None
repetition_of (Commitment e) = Some e
repetition_of (Seeds e) = Some e
repetition_of (Offsets e) = Some e

abbrev pub labelled : List ℕ → Option ℕ → List ℕ
labelled name None = name
labelled name (Some e) = name ++ (codes "[" ++ (decimal e ++ codes "]"))

-- the name under which a field is printed: NAME, or NAME[REPETITION]
abbrev pub field_name : Field → List ℕ
field_name f = labelled (base_name f) (repetition_of f)

-- the number that a header has in a field, for the fields that are numbers
abbrev pub number_in : Parameters → Field → Option ℕ
number_in p Mark = None
number_in p Version = Some p.version
number_in p Set = Some p.set
number_in p Rows = Some p.n
number_in p Columns = Some p.c
number_in p Values = Some p.m
number_in p Depth = Some p.h
number_in p Repetitions = Some p.tau
number_in p AttributeBytes = Some p.a
number_in p SeedA = None
number_in p Salt = None
number_in p FirstDigest = None
number_in p SecondDigest = None
number_in p Attributes = None
number_in p Key = None
number_in p Audited = None
number_in p (Commitment e) = None
number_in p (Seeds e) = None
number_in p (Offsets e) = None
