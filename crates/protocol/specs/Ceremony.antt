-- What commit, key and open answer and write.
use Rattle.std.specs.Prelude.{ℕ, ◌*◌, not, List, [], ◌∷◌, ◌++◌, map, length, Result, nat_lt, slice_index_or}
use Rattle.std.specs.List.{flat_map}
use Rattle.std.specs.Str.{bytes_eq}
use Rattle.protocol.specs.declared.fault.Fault.{Fault}
use Rattle.protocol.specs.declared.fault.Fault.TheVariants.{Memory, Output, Rebuilt}
use Rattle.protocol.specs.Entry.{setting_of}
use Rattle.protocol.specs.Flags.{kept_index, audited_of}
use Rattle.protocol.specs.Header.{parameters_of, checks_header, length_test}
use Rattle.protocol.specs.Layout.{record_length}
use Rattle.protocol.specs.Parameters.{Parameters, width, table, sigma, parties, work_words}
use Rattle.protocol.specs.Prover.{Secret, offsets, key, honest6, honest7}
use Rattle.protocol.specs.Sampling.{sampled, byte_of}
use Rattle.protocol.specs.Selection.{selected, hidden_parties}
use Rattle.protocol.specs.Sharing.{parts}
use Rattle.protocol.specs.Streams.{Digest, First, Second, stream_word, drawn}
use Rattle.protocol.specs.Tests.{Test, first_failing, after}
use Rattle.protocol.specs.Texts.{text1, text2}
use Rattle.protocol.specs.Tree.{child, seed_at, siblings}

-- a ceremony between commit and key
pub record Committed : Type 0 where
  pub header : List ℕ
  pub salt : List ℕ
  pub master : List ℕ
  pub d1 : List ℕ

-- and between key and open
pub record Keyed : Type 0 where
  pub header : List ℕ
  pub salt : List ℕ
  pub master : List ℕ
  pub d1 : List ℕ
  pub seed_a : List ℕ
  pub d2 : List ℕ

-- the root seed of repetition e
abbrev pub root : Digest → List ℕ → List ℕ → ℕ → List ℕ
root F salt master e = drawn F (text2 salt e master) 32

-- value word k
abbrev pub value_word : Digest → List ℕ → List ℕ → ℕ → ℕ
value_word F salt master k = stream_word (F (text1 salt master)) k

-- all that the master and the salt give, with what is known of the key, under a header's numbers
abbrev pub secret_of : Digest → Parameters → List ℕ → List ℕ → List ℕ → List ℕ → List ℕ → List ℕ → Secret
secret_of F p salt master attributes d1 seed_a flags = record {
  salt = salt;
  d1 = d1;
  attributes = attributes;
  seed_a = seed_a;
  flags = flags;
  values = λ k. sampled (table p.set) (value_word F salt master k);
  seed = λ e j. seed_at (child F salt e) (root F salt master e) p.h j;
}

-- the same under a header's bytes
abbrev pub secret : Digest → List ℕ → List ℕ → List ℕ → List ℕ → List ℕ → List ℕ → List ℕ → Secret
secret F header = secret_of F (parameters_of header)

-- text 6 has nothing of the key
abbrev pub text_six : Digest → Digest → List ℕ → List ℕ → List ℕ → List ℕ → List ℕ
text_six F X header salt master attributes = honest6 (setting_of F X header) (secret F header salt master attributes [] [] [])

abbrev pub memory_test : ℕ → ℕ → Test
memory_test work due = record { fails = nat_lt work due; fault = Memory due }

abbrev pub output_test : ℕ → ℕ → Test
output_test room due = record { fails = nat_lt room due; fault = Output due }

-- a digest that was drawn anew must be the one that the ceremony keeps
abbrev pub rebuilt_test : List ℕ → List ℕ → Test
rebuilt_test anew keeps = record { fails = not (bytes_eq anew keeps); fault = Rebuilt }

-- the ceremony that commit gives
abbrev pub commits : Digest → Digest → List ℕ → List ℕ → List ℕ → List ℕ → ℕ → Result Committed Fault
commits F X header salt master attributes work =
    after (checks_header header) (λ p.
    first_failing (length_test (length attributes) p.a ∷ memory_test work (work_words p) ∷ [])
    (record { header = header; salt = salt; master = master; d1 = drawn F (text_six F X header salt master attributes) (width p) }))

module _ (F X : Digest) (G1 : First) (c : Committed) (attributes seed_a : List ℕ) where
  -- with the values that the answer of G1 keeps
  abbrev pub with_key : Secret
  with_key = let p = parameters_of c.header in
      secret F c.header c.salt c.master attributes c.d1 seed_a (selected (G1 c.salt c.d1) p.m (sigma p))

  abbrev pub text_seven : List ℕ
  text_seven = honest7 (setting_of F X c.header) with_key

  -- what key writes: S mod q, then B
  unfoldable pub key_bytes : List ℕ
  key_bytes = let p = parameters_of c.header in let s = setting_of F X c.header in
      parts (p.n * p.c) (λ m. s.rule.entries.code (s.rule.residue (with_key.values (kept_index with_key.flags m))))
      ++ flat_map s.rule.entries.code (key s with_key)

  abbrev pub key_tests : ℕ → ℕ → List Test
  key_tests work room = let p = parameters_of c.header in
      length_test (length attributes) p.a
      ∷ memory_test work (work_words p)
      ∷ output_test room (4 * (p.n * p.c))
      ∷ rebuilt_test (drawn F (text_six F X c.header c.salt c.master attributes) (width p)) c.d1
      ∷ []

  abbrev pub with_d2 : Keyed
  with_d2 = record {
    header = c.header;
    salt = c.salt;
    master = c.master;
    d1 = c.d1;
    seed_a = seed_a;
    d2 = drawn F text_seven (width (parameters_of c.header));
  }

  -- the ceremony that key gives
  abbrev pub keys : ℕ → ℕ → Result Keyed Fault
  keys work room = first_failing (key_tests work room) with_d2

module _ (F X : Digest) (G1 : First) (G2 : Second) (k : Keyed) (attributes : List ℕ) where
  -- the ceremony as it was when it was committed
  abbrev pub before_key : Committed
  before_key = record { header = k.header; salt = k.salt; master = k.master; d1 = k.d1 }

  abbrev pub opening : Secret
  opening = with_key F X G1 before_key attributes k.seed_a

  -- the hidden parties, by repetition
  abbrev pub hides : List ℕ
  hides = let p = parameters_of k.header in hidden_parties (G2 k.salt k.d1 k.d2) (parties p) p.tau

  -- a repetition: the hidden party's commitment, the siblings' seeds, the offsets
  abbrev pub block : ℕ → List ℕ
  block e = let p = parameters_of k.header in let s = setting_of F X k.header in let j = slice_index_or hides e 0 in
      s.commit k.salt e j (opening.seed e j)
      ++ (parts p.h (λ t. slice_index_or (siblings (child F k.salt e) (root F k.salt k.master e) p.h j) t [])
      ++ flat_map s.rule.entries.code (offsets s opening e))

  -- what open writes
  unfoldable pub record_bytes : List ℕ
  record_bytes = let p = parameters_of k.header in let s = setting_of F X k.header in
      k.header ++ (k.seed_a ++ (k.salt ++ (k.d1 ++ (k.d2 ++ (attributes
      ++ (flat_map s.rule.entries.code (key s opening)
      ++ (map byte_of (audited_of opening.flags opening.values p.m)
      ++ parts p.tau block)))))))

  abbrev pub open_tests : ℕ → ℕ → List Test
  open_tests work room = let p = parameters_of k.header in
      length_test (length attributes) p.a
      ∷ memory_test work (work_words p)
      ∷ output_test room (record_length p)
      ∷ rebuilt_test (drawn F (text_six F X k.header k.salt k.master attributes) (width p)) k.d1
      ∷ rebuilt_test (drawn F (text_seven F X G1 before_key attributes k.seed_a) (width p)) k.d2
      ∷ []

  -- the length of what open writes
  abbrev pub opens : ℕ → ℕ → Result ℕ Fault
  opens work room = first_failing (open_tests work room) (record_length (parameters_of k.header))
