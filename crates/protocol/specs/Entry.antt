-- An entry of a book: a record as it was handed in, and what the answers to it chose; its texts 6 and 7.
use Rattle.std.specs.Prelude.{ℕ, List, take}
use Rattle.protocol.specs.declared.field.Field.TheVariants.{Salt, FirstDigest, SecondDigest}
use Rattle.protocol.specs.Header.{parameters_of}
use Rattle.protocol.specs.Layout.{field_part}
use Rattle.protocol.specs.Parameters.{sigma, parties}
use Rattle.protocol.specs.Scheme.{setting, transcript_of}
use Rattle.protocol.specs.Selection.{selected, hidden_parties}
use Rattle.protocol.specs.Sharing.{Setting, Transcript, text6, text7}
use Rattle.protocol.specs.Streams.{Digest, First, Second}

pub record Entry : Type 0 where
  -- the record
  pub bytes : List ℕ
  -- by repetition
  pub hidden : List ℕ
  -- by value, 1 if kept
  pub flags : List ℕ

abbrev pub salt_of : List ℕ → List ℕ
salt_of r = field_part (parameters_of r) r Salt

abbrev pub d1_of : List ℕ → List ℕ
d1_of r = field_part (parameters_of r) r FirstDigest

abbrev pub d2_of : List ℕ → List ℕ
d2_of r = field_part (parameters_of r) r SecondDigest

-- a record with what the answers of G1 and G2 to it choose
abbrev pub chosen : First → Second → List ℕ → Entry
chosen G1 G2 r = let p = parameters_of r in record {
  bytes = r;
  hidden = hidden_parties (G2 (salt_of r) (d1_of r) (d2_of r)) (parties p) p.tau;
  flags = selected (G1 (salt_of r) (d1_of r)) p.m (sigma p);
}

-- the setting of a record, whose header is its first fifteen bytes
abbrev pub setting_of : Digest → Digest → List ℕ → Setting ℕ
setting_of F X r = setting F X (parameters_of r) (take 15 r)

abbrev pub transcript : Digest → Entry → Transcript ℕ
transcript F a = transcript_of F (parameters_of a.bytes) a.bytes a.hidden a.flags

-- the texts, rebuilt from the entry alone
abbrev pub rebuilt6 : Digest → Digest → Entry → List ℕ
rebuilt6 F X a = text6 (setting_of F X a.bytes) (transcript F a)

abbrev pub rebuilt7 : Digest → Digest → Entry → List ℕ
rebuilt7 F X a = text7 (setting_of F X a.bytes) (transcript F a)
