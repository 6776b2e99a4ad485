-- The guarantee: what was accepted is kept, honest records are accepted, and two openings of one commitment give the secret of the
-- key, or a collision of the digest function. Nothing is assumed of F but that it gives bytes, and nothing of X.
use Rattle.std.specs.Prelude.{◌≡◌, ℕ, ◌+◌, ◌*◌, ◌%◌, ◌<◌, ◌≤◌, ◌⊎◌, List, [], ◌∷◌, ◌++◌, length, take, ℤ, Ok, ◌≢◌, slice_index, slice_index_or}
use Rattle.protocol.specs.declared.field.Field.TheVariants.{SeedA, Key, Audited, Offsets}
use Rattle.protocol.specs.Bytes.{part, word}
use Rattle.protocol.specs.Streams.{Digest, First, Second, GivesBytes, drawn}
use Rattle.protocol.specs.Parameters.{Parameters, width, modulus, bound, sigma, parties, work_words, flag_length}
use Rattle.protocol.specs.Layout.{offset, field_part, entry_length}
use Rattle.protocol.specs.Header.{parameters_of}
use Rattle.protocol.specs.Flags.{kept_index, audited_before, packed, bits_set}
use Rattle.protocol.specs.Sampling.{signed, Within}
use Rattle.protocol.specs.Group.{total}
use Rattle.protocol.specs.Residues.{modular, residue, residue_in, dot, matrix}
use Rattle.protocol.specs.Texts.{leaf_text}
use Rattle.protocol.specs.Entry.{Entry, chosen, rebuilt6, rebuilt7, salt_of, d1_of, d2_of}
use Rattle.protocol.specs.Ceremony.{Keyed}
use Rattle.protocol.specs.Book.{State, entries_of, laid, no_entry, appended, lodges, recovers, recovered_length, common_part}
use Rattle.protocol.specs.Runs.{Run, History}

-- what was accepted is kept
pub record Keeps (F X : Digest) (hs : List Entry) (s : State) : Type 0 where
  -- entry k holds record k of those accepted, as it was handed in, with what the answers chose
  pub entries : entries_of s ≡ hs
  pub count : s.count ≡ length hs
  -- end to end from the front of the memory, without gaps
  pub bytes : take s.used s.memory ≡ laid hs
  -- the flag bytes hold exactly σ ones
  pub kept : (k : ℕ) → k < length hs → let a = slice_index_or hs k no_entry in let p = parameters_of a.bytes in
      (length a.flags ≡ p.m) × (bits_set (packed a.flags (flag_length p)) ≡ sigma p)
  -- d1 and d2 are the digests of the texts 6 and 7, rebuilt from the entry alone
  pub digests : (k : ℕ) → k < length hs → let a = slice_index_or hs k no_entry in let w = width (parameters_of a.bytes) in
      (drawn F (rebuilt6 F X a) w ≡ d1_of a.bytes) × (drawn F (rebuilt7 F X a) w ≡ d2_of a.bytes)

abbrev pub Custody : Digest → Digest → Type 0
Custody F X = (hs : List Entry) (s : State) → Run F X hs s → Keeps F X hs s

-- whatever happened to a book, a record that a ceremony gave is accepted, if the answers are those of its opening and there is room
abbrev pub Completeness : Digest → Digest → Type 0
Completeness F X =
    (hs : List Entry) (s : State) → Run F X hs s →
    (k : Keyed) (G1 : First) (G2 : Second) (r : List ℕ) → History F X k G1 G2 r →
    (H1 : First) (H2 : Second) → H1 k.salt k.d1 ≡ G1 k.salt k.d1 → H2 k.salt k.d1 k.d2 ≡ G2 k.salt k.d1 k.d2 →
    (work : ℕ) → work_words (parameters_of r) ≤ work → s.used + entry_length (parameters_of r) ≤ length s.memory →
    (lodges F X H1 H2 s r work ≡ Ok s.count) × (entries_of (appended s (chosen H1 H2 r)) ≡ entries_of s ++ chosen H1 H2 r ∷ [])

-- two texts that first differ at position i, with one digest
pub record Collision (F : Digest) (t u : List ℕ) (i : ℕ) (digest : List ℕ) : Type 0 where
  pub before : take i t ≡ take i u
  pub inside : (i < length t) × (i < length u)
  pub here : slice_index_or t i 0 ≡ slice_index u i → ⊥
  pub digests : (drawn F t (length digest) ≡ digest) × (drawn F u (length digest) ≡ digest)

-- audited value k of an entry
abbrev pub audited_value : Entry → ℕ → ℤ
audited_value a k = signed (slice_index a.bytes (offset (parameters_of a.bytes) Audited + audited_before a.flags k))

-- where party j's commitment of repetition e stands in text 6
abbrev pub commitment_at : Parameters → ℕ → ℕ → ℕ
commitment_at p e j = 16 + width p + p.a + e * (parties p * width p + p.m * 2) + j * width p

-- what N seeds and M values open of repetition e of an entry
pub record Opens (F X : Digest) (a : Entry) (e : ℕ) (seeds : ℕ → List ℕ) (values : ℕ → ℕ) : Type 0 where
  -- each seed opens its party's commitment in text 6
  pub commitments : (j : ℕ) → j < parties (parameters_of a.bytes) → let p = parameters_of a.bytes in
      drawn F (leaf_text 4 (salt_of a.bytes) e j (seeds j)) (width p) ≡ part (rebuilt6 F X a) (commitment_at p e j) (width p)
  -- each value is its offset and all its shares
  pub sums : (k : ℕ) → k < (parameters_of a.bytes).m → let p = parameters_of a.bytes in let q = modulus p.set in
      values k
      ≡ (word a.bytes (offset p (Offsets e) + 2 * k)
      + total (modular q) (parties p) (λ j. residue_in q (F (leaf_text 5 (salt_of a.bytes) e j (seeds j))) k)) % q
  -- the audited ones are those of the record, and small
  pub audited : (k : ℕ) → k < (parameters_of a.bytes).m → slice_index a.flags k ≡ 0 → let p = parameters_of a.bytes in
      (values k ≡ residue (modulus p.set) (audited_value a k)) × Within (bound p.set) (audited_value a k)
  -- the kept ones, in index order, fill S and then E row by row, and B = A·S + E mod q
  pub key : (i l : ℕ) → i < (parameters_of a.bytes).n → l < (parameters_of a.bytes).c →
      let p = parameters_of a.bytes in let q = modulus p.set in
      let A : ℕ → ℕ → ℕ = matrix X q (field_part p a.bytes SeedA) in
      let S : ℕ → ℕ → ℕ = λ t m. values (kept_index a.flags (t * p.c + m)) in
      let E : ℕ → ℕ → ℕ = λ t m. values (kept_index a.flags (p.n * p.c + (t * p.c + m))) in
      word a.bytes (offset p Key + 2 * (i * p.c + l)) ≡ (dot p.n (A i) (λ t. S t l) + E i l) % q

-- what recover wrote: N seeds, then M values
abbrev pub seed_in : List ℕ → ℕ → List ℕ
seed_in out j = part out (j * 32) 32

abbrev pub value_in : Parameters → List ℕ → ℕ → ℕ
value_in p out k = word out (parties p * 32 + k * 2)

-- recover shows a collision under d1 or under d2, or else writes what opens both entries
abbrev pub Extracts : Digest → Digest → State → ℕ → ℕ → ℕ → ℕ → ℕ → Type 0
Extracts F X s i j e work room =
    let a = slice_index_or (entries_of s) i no_entry in let b = slice_index_or (entries_of s) j no_entry in let p = parameters_of a.bytes in
    ((at : ℕ) × (recovers F X s i j e work room ≡ Ok (record { label = 6; position = at; bytes = [] }))
    × Collision F (rebuilt6 F X a) (rebuilt6 F X b) at (d1_of a.bytes))
    ⊎ (((at : ℕ) × (recovers F X s i j e work room ≡ Ok (record { label = 7; position = at; bytes = [] }))
    × Collision F (rebuilt7 F X a) (rebuilt7 F X b) at (d2_of a.bytes))
    ⊎ ((out : List ℕ) × (recovers F X s i j e work room ≡ Ok (record { label = 0; position = 0; bytes = out }))
    × (length out ≡ recovered_length p)
    × Opens F X a e (seed_in out) (value_in p out)
    × Opens F X b e (seed_in out) (value_in p out)))

-- whatever happened to a book, for two of its entries with equal header, salt, d1 and d2 that hide different parties in repetition e
abbrev pub Extraction : Digest → Digest → Type 0
Extraction F X =
    (hs : List Entry) (s : State) → Run F X hs s → (i j e work room : ℕ) → i < s.count → j < s.count →
    let a = slice_index_or (entries_of s) i no_entry in let b = slice_index_or (entries_of s) j no_entry in let p = parameters_of a.bytes in
    common_part a ≡ common_part b → e < p.tau → (slice_index a.hidden e ≢ slice_index b.hidden e) →
    2 * work_words p ≤ work → recovered_length p ≤ room →
    Extracts F X s i j e work room

pub record Guaranteed (F X : Digest) : Type 0 where
  pub custody : Custody F X
  pub completeness : Completeness F X
  pub extraction : Extraction F X

abbrev pub Guarantee : Type 0
Guarantee = (F X : Digest) → GivesBytes F → Guaranteed F X
