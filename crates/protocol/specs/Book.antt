-- A book's bytes, and what lodge, read and recover answer.
use Rattle.std.specs.Prelude.{◌≡◌, ℕ, zero, suc, ◌+◌, ◌-◌, ◌*◌, ◌≤◌, Bool, true, cond, not, ◌&&◌, ◌||◌, List, [], ◌∷◌, ◌++◌, map, length, get_or, take, drop, Result, ◌==◌, nat_eq, nat_le, nat_lt, slice_index, slice_index_or}
use Rattle.std.specs.List.{range_with_len, flat_map, common_prefix_len}
use Rattle.std.specs.Str.{bytes_eq}
use Rattle.protocol.specs.declared.fault.Fault.{Fault}
use Rattle.protocol.specs.declared.fault.Fault.TheVariants as fault
use Rattle.protocol.specs.declared.field.Field.TheVariants.{Salt, Key, Audited, Offsets}
use Rattle.protocol.specs.Bytes.{part, word, le32, value32}
use Rattle.protocol.specs.Ceremony.{memory_test, output_test}
use Rattle.protocol.specs.Entry.{Entry, chosen, setting_of, transcript, rebuilt6, rebuilt7, d1_of, d2_of}
use Rattle.protocol.specs.Extractor.{joint_seeds, value_of}
use Rattle.protocol.specs.Flags.{ones, packed, unpacked}
use Rattle.protocol.specs.Header.{parameters_of, header_tests, reads_record}
use Rattle.protocol.specs.Layout.{offset, record_length, entry_length}
use Rattle.protocol.specs.Parameters.{Parameters, width, modulus, bound, sigma, parties, work_words, flag_length}
use Rattle.protocol.specs.Sampling.{signed, beyond}
use Rattle.protocol.specs.Sharing.{parts}
use Rattle.protocol.specs.Streams.{Digest, First, Second, drawn}
use Rattle.protocol.specs.Tests.{Test, first_failing, after}

-- the entries lie end to end at the front of the memory
pub record State : Type 0 where
  pub memory : List ℕ
  pub used : ℕ
  pub count : ℕ

abbrev pub empty : List ℕ → State
empty memory = record { memory = memory; used = 0; count = 0 }

-- an entry without its length field: the record, the hidden parties, the flags as bits
abbrev pub read_bytes : Entry → List ℕ
read_bytes a = a.bytes ++ (a.hidden ++ packed a.flags (flag_length (parameters_of a.bytes)))

-- the bytes of an entry
abbrev pub entry_bytes : Entry → List ℕ
entry_bytes a = le32 (length a.bytes) ++ read_bytes a

-- a record with hidden parties and flag bytes
abbrev pub entry_from : List ℕ → List ℕ → List ℕ → Entry
entry_from r hidden flagged = record { bytes = r; hidden = hidden; flags = unpacked flagged (parameters_of r).m }

-- the entry at the front of some bytes, and its size
abbrev pub entry_at : List ℕ → Entry
entry_at bs = let n = value32 bs in let r = part bs 4 n in let p = parameters_of r in
    entry_from r (part bs (4 + n) p.tau) (part bs (4 + n + p.tau) (flag_length p))

abbrev pub size_at : List ℕ → ℕ
size_at bs = let n = value32 bs in let p = parameters_of (part bs 4 n) in 4 + n + p.tau + flag_length p

-- so many entries, read off from the front of some bytes
abbrev pub entries_at : ℕ → List ℕ → List Entry
entries_at zero bs = []
entries_at (suc k) bs = entry_at bs ∷ entries_at k (drop (size_at bs) bs)

-- the entries of a book
abbrev pub entries_of : State → List Entry
entries_of s = entries_at s.count s.memory

-- the bytes of entries laid end to end
abbrev pub laid : List Entry → List ℕ
laid [] = []
laid (a ∷ hs) = entry_bytes a ++ laid hs

-- stands for an entry that is not there
abbrev pub no_entry : Entry
no_entry = record { bytes = []; hidden = []; flags = [] }

-- bytes over a list from a place on; what lies past them stays
abbrev pub wrote : ℕ → List ℕ → List ℕ → List ℕ
wrote at bytes old = take at old ++ (bytes ++ drop (at + length bytes) old)

-- one entry more; what lies past it keeps its bytes
abbrev pub appended : State → Entry → State
appended s a = let bytes = entry_bytes a in record {
  memory = wrote s.used bytes s.memory;
  used = s.used + length bytes;
  count = s.count + 1;
}

-- the ranges of a record's body, by offset: B, the audited values, then the offsets of each repetition
abbrev pub residue_test : List ℕ → ℕ → ℕ → Test
residue_test r q at = record { fails = nat_le q (word r at); fault = fault.Residue at }

abbrev pub audited_test : List ℕ → ℕ → ℕ → Test
audited_test r b at = record { fails = beyond b (signed (slice_index r at)); fault = fault.Audited at }

abbrev pub key_range_tests : List ℕ → Parameters → List Test
key_range_tests r p = map (λ i. residue_test r (modulus p.set) (offset p Key + 2 * i)) (range_with_len 0 (p.n * p.c))

abbrev pub audited_range_tests : List ℕ → Parameters → List Test
audited_range_tests r p = map (λ i. audited_test r (bound p.set) (offset p Audited + i)) (range_with_len 0 (p.m - sigma p))

abbrev pub offset_range_tests : List ℕ → Parameters → ℕ → List Test
offset_range_tests r p e = map (λ k. residue_test r (modulus p.set) (offset p (Offsets e) + 2 * k)) (range_with_len 0 p.m)

unfoldable pub body_tests : List ℕ → Parameters → List Test
body_tests r p = key_range_tests r p ++ (audited_range_tests r p ++ flat_map (offset_range_tests r p) (range_with_len 0 p.tau))

-- both digests of an entry, with the answers that it has
abbrev pub digest_test : Digest → ℕ → List ℕ → List ℕ → Fault → Test
digest_test F w text digest f = record { fails = not (bytes_eq (drawn F text w) digest); fault = f }

abbrev pub digest_tests : Digest → Digest → Entry → List Test
digest_tests F X a = let w = width (parameters_of a.bytes) in
    digest_test F w (rebuilt6 F X a) (d1_of a.bytes) fault.FirstDigest
    ∷ digest_test F w (rebuilt7 F X a) (d2_of a.bytes) fault.SecondDigest
    ∷ []

abbrev pub room_tests : State → Parameters → ℕ → List Test
room_tests s p work =
    memory_test work (work_words p)
    ∷ record { fails = nat_lt (length s.memory) (s.used + entry_length p); fault = fault.Full (entry_length p) }
    ∷ []

-- lodge answers the entry's number; the book is then `appended s (chosen G1 G2 r)`
abbrev pub lodges : Digest → Digest → First → Second → State → List ℕ → ℕ → Result ℕ Fault
lodges F X G1 G2 s r work =
    after (reads_record r) (λ p.
    after (first_failing (room_tests s p work) (tt {0})) (λ _.
    after (first_failing (body_tests r p) (tt {0})) (λ _.
    first_failing (digest_tests F X (chosen G1 G2 r)) s.count)))

abbrev pub missing_test : State → ℕ → Test
missing_test s k = record { fails = nat_le s.count k; fault = fault.Missing k }

-- read answers how many bytes it writes, which are `read_bytes` of the entry
abbrev pub reads : State → ℕ → ℕ → Result ℕ Fault
reads s k room =
    after (first_failing (missing_test s k ∷ []) (tt {0})) (λ _.
    let long = length (read_bytes (slice_index_or (entries_of s) k no_entry)) in first_failing (output_test room long ∷ []) long)

-- what recover answers, and the bytes that it writes
pub record Recovered : Type 0 where
  pub label : ℕ
  pub position : ℕ
  pub bytes : List ℕ

-- N seeds, the first entry's hidden one taken from the second, and M values
unfoldable pub recovered_bytes : Digest → Digest → Entry → Entry → ℕ → List ℕ
recovered_bytes F X a b e =
    let s = setting_of F X a.bytes in
    let seeds = joint_seeds (transcript F a) (transcript F b) e in
    parts s.parties seeds ++ parts s.values (λ k. s.rule.entries.code (value_of s (transcript F a) seeds e k))

-- the first difference of the texts 6, then of the texts 7, else what was recovered
abbrev pub compared : Digest → Digest → Entry → Entry → ℕ → Recovered
compared F X a b e =
    cond (bytes_eq (rebuilt6 F X a) (rebuilt6 F X b))
    (cond (bytes_eq (rebuilt7 F X a) (rebuilt7 F X b))
    (record { label = 0; position = 0; bytes = recovered_bytes F X a b e })
    (record { label = 7; position = common_prefix_len nat_eq (rebuilt7 F X a) (rebuilt7 F X b); bytes = [] }))
    (record { label = 6; position = common_prefix_len nat_eq (rebuilt6 F X a) (rebuilt6 F X b); bytes = [] })

-- header, salt, d1 and d2
abbrev pub common_part : Entry → List ℕ
common_part a = let p = parameters_of a.bytes in take 15 a.bytes ++ part a.bytes (offset p Salt) (3 * width p)

-- the bytes that recover writes
abbrev pub recovered_length : Parameters → ℕ
recovered_length p = 32 * parties p + 2 * p.m

abbrev pub pair_tests : Entry → Entry → ℕ → ℕ → ℕ → List Test
pair_tests a b e work room = let p = parameters_of a.bytes in
    record { fails = not (bytes_eq (common_part a) (common_part b)); fault = fault.Unequal }
    ∷ record { fails = nat_le p.tau e || (slice_index a.hidden e == slice_index b.hidden e); fault = fault.Repetition e }
    ∷ memory_test work (2 * work_words p)
    ∷ output_test room (recovered_length p)
    ∷ []

abbrev pub recovers : Digest → Digest → State → ℕ → ℕ → ℕ → ℕ → ℕ → Result Recovered Fault
recovers F X s i j e work room =
    after (first_failing (missing_test s i ∷ missing_test s j ∷ []) (tt {0})) (λ _.
    let a = get_or (entries_of s) i no_entry in let b = get_or (entries_of s) j no_entry in
    after (first_failing (pair_tests a b e work room) (tt {0})) (λ _.
    after (first_failing (digest_tests F X a) (tt {0})) (λ _.
    first_failing (digest_tests F X b) (compared F X a b e))))

-- what is known of every entry of a book, whatever its makers: all that lodge tests but the digests
abbrev pub passes : List Test → Bool
passes [] = true
passes (t ∷ ts) = not t.fails && passes ts

abbrev pub all_below : ℕ → List ℕ → Bool
all_below n [] = true
all_below n (k ∷ ks) = nat_lt k n && all_below n ks

unfoldable pub well_formed : Entry → Bool
well_formed a = let p = parameters_of a.bytes in
    passes (header_tests a.bytes)
    && (length a.bytes == record_length p
    && (length a.hidden == p.tau
    && (all_below (parties p) a.hidden
    && (length a.flags == p.m
    && (all_below 2 a.flags
    && (ones a.flags == sigma p
    && passes (body_tests a.bytes p)))))))

abbrev pub all_well_formed : List Entry → Bool
all_well_formed [] = true
all_well_formed (a ∷ hs) = well_formed a && all_well_formed hs

-- the invariant of a book
abbrev pub Intact : State → Type 0
Intact s = (s.used ≤ length s.memory) × (take s.used s.memory ≡ laid (entries_of s)) × (all_well_formed (entries_of s) ≡ true)
