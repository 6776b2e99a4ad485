-- The setting of FrodoKEM keys, for a digest function F and for X as SHAKE128, and what an answered record means in it.
use Rattle.std.specs.Prelude.{ℕ, ◌*◌, List, map, slice_index}
use Rattle.std.specs.List.{range_with_len}
use Rattle.protocol.specs.declared.field.Field.TheVariants.{SeedA, Salt, FirstDigest, Attributes, Key, Audited, Commitment, Seeds, Offsets}
use Rattle.protocol.specs.Bytes.{part, word}
use Rattle.protocol.specs.Parameters.{Parameters, width, parties, modulus}
use Rattle.protocol.specs.Layout.{field_part}
use Rattle.protocol.specs.Sampling.{signed}
use Rattle.protocol.specs.Streams.{Digest, drawn}
use Rattle.protocol.specs.Texts.{leaf_text}
use Rattle.protocol.specs.Tree.{child, regrown}
use Rattle.protocol.specs.Residues.{residue_in, matrix, matrix_rule}
use Rattle.protocol.specs.Sharing.{Setting, Transcript}

abbrev pub setting : Digest → Digest → Parameters → List ℕ → Setting ℕ
setting F X p header = record {
  rule = matrix_rule (modulus p.set) p.n p.c (matrix X (modulus p.set));
  commit = λ salt e j seed. drawn F (leaf_text 4 salt e j seed) (width p);
  share = λ salt e j seed. residue_in (modulus p.set) (F (leaf_text 5 salt e j seed));
  header = header;
  width = width p;
  attribute_bytes = p.a;
  repetitions = p.tau;
  parties = parties p;
  values = p.m;
}

-- n two-byte numbers
abbrev pub words : List ℕ → ℕ → List ℕ
words bytes n = map (λ k. word bytes (2 * k)) (range_with_len 0 n)

-- n seeds of 32 bytes
abbrev pub seeds_of : List ℕ → ℕ → List (List ℕ)
seeds_of bytes n = map (λ k. part bytes (32 * k) 32) (range_with_len 0 n)

-- a record's bytes with the hidden parties and the flags: each party's seed but the hidden one's is grown from the siblings' seeds
unfoldable pub transcript_of : Digest → Parameters → List ℕ → List ℕ → List ℕ → Transcript ℕ
transcript_of F p r hidden flags = record {
  salt = field_part p r Salt;
  d1 = field_part p r FirstDigest;
  attributes = field_part p r Attributes;
  seed_a = field_part p r SeedA;
  flags = flags;
  key = words (field_part p r Key) (p.n * p.c);
  audited = map signed (field_part p r Audited);
  hidden = λ e. slice_index hidden e;
  hidden_commitment = λ e. field_part p r (Commitment e);
  offsets = λ e. words (field_part p r (Offsets e)) p.m;
  seed = λ e j. regrown (child F (field_part p r Salt) e) p.h (slice_index hidden e) (seeds_of (field_part p r (Seeds e)) p.h) p.h j;
}
