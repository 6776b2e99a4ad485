-- The texts that a holder of the values writes, and the transcript that its opening gives.
use Rattle.std.specs.Prelude.{◌≡◌, ℕ, ◌<◌, cond, List, [], ◌∷◌, ◌++◌, map, length, ℤ, ◌==◌, slice_index}
use Rattle.std.specs.List.{range_with_len, flat_map}
use Rattle.protocol.specs.Flags.{ones, kept_index, audited_of}
use Rattle.protocol.specs.Group.{total}
use Rattle.protocol.specs.Rule.{Rule}
use Rattle.protocol.specs.Sharing.{Setting, Transcript, Fits, parts, corrected, product_of, text6, text7}
use Rattle.protocol.specs.Extractor.{Drawn}

-- what the holder has: the values, a leaf seed for each party of each repetition, and what is public
pub record Secret : Type 0 where
  pub salt : List ℕ
  pub d1 : List ℕ
  pub attributes : List ℕ
  pub seed_a : List ℕ
  pub flags : List ℕ
  pub values : ℕ → ℤ
  -- by repetition and party
  pub seed : ℕ → ℕ → List ℕ

pub record Shaped {G : Type 0} (s : Setting G) (p : Secret) : Type 0 where
  pub salt : length p.salt ≡ s.width
  pub d1 : length p.d1 ≡ s.width
  pub attributes : length p.attributes ≡ s.attribute_bytes
  pub seed_a : length p.seed_a ≡ 16
  pub flags : length p.flags ≡ s.values
  pub chosen : ones p.flags ≡ s.rule.kept

module _ {G : Type 0} (s : Setting G) (p : Secret) where
  -- each value less all its shares
  abbrev pub offsets : ℕ → List G
  offsets e =
      map (λ k. s.rule.entries.sub (s.rule.residue (p.values k)) (total s.rule.entries s.parties (λ j. s.share p.salt e j (p.seed e j) k)))
      (range_with_len 0 s.values)

  -- the key rule over the kept values, in index order
  abbrev pub key : List G
  key = map (s.rule.image p.seed_a (λ m. s.rule.residue (p.values (kept_index p.flags m)))) (range_with_len 0 s.rule.size)

  -- repetition e in text 6
  abbrev pub honest_commitments : ℕ → List ℕ
  honest_commitments e = parts s.parties (λ j. s.commit p.salt e j (p.seed e j)) ++ flat_map s.rule.entries.code (offsets e)

  unfoldable pub honest6 : List ℕ
  honest6 = 6 ∷ (s.header ++ (p.salt ++ (p.attributes ++ parts s.repetitions honest_commitments)))

  -- party j of repetition e in text 7
  abbrev pub honest_part : ℕ → ℕ → List ℕ
  honest_part e j =
      parts s.values (λ k. cond (slice_index p.flags k == 1) [] (s.rule.entries.code (corrected s p.salt (offsets e) e j (p.seed e j) k)))
      ++ parts s.rule.size (λ i. s.rule.entries.code (product_of s p.seed_a p.flags p.salt (offsets e) e j (p.seed e j) i))

  unfoldable pub honest7 : List ℕ
  honest7 =
      7 ∷ (p.salt ++ (p.d1 ++ (p.flags ++ (p.seed_a ++ (flat_map s.rule.entries.code key
      ++ parts s.repetitions (λ e. parts s.parties (honest_part e)))))))

  -- all but the hidden parties' seeds, of which the transcript says nothing
  unfoldable pub opened : (ℕ → ℕ) → (ℕ → ℕ → List ℕ) → Transcript G
  opened hidden unknown = record {
    salt = p.salt;
    d1 = p.d1;
    attributes = p.attributes;
    seed_a = p.seed_a;
    flags = p.flags;
    key = key;
    audited = audited_of p.flags p.values s.values;
    hidden = hidden;
    hidden_commitment = λ e. s.commit p.salt e (hidden e) (p.seed e (hidden e));
    offsets = offsets;
    seed = λ e j. cond (j == hidden e) (unknown e j) (p.seed e j);
  }

-- under the key rule k: the texts rebuilt from an opening are those of its maker, and the opening fits
abbrev pub HonestTexts : {G : Type 0} → Rule G → Type 0
HonestTexts {G} k =
    (s : Setting G) → s.rule ≡ k → Drawn s → (p : Secret) → Shaped s p →
    (hidden : ℕ → ℕ) → ((e : ℕ) → e < s.repetitions → hidden e < s.parties) → (unknown : ℕ → ℕ → List ℕ) →
    (text6 s (opened s p hidden unknown) ≡ honest6 s p) × (text7 s (opened s p hidden unknown) ≡ honest7 s p) × Fits s (opened s p hidden unknown)
