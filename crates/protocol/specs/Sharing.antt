-- Shares, and the texts 6 and 7 that are rebuilt from an answered record alone.
use Rattle.std.specs.Prelude.{◌≡◌, ℕ, zero, suc, ◌<◌, cond, List, [], ◌∷◌, ◌++◌, length, ℤ, pos, ◌==◌, slice_index, slice_index_or}
use Rattle.std.specs.List.{flat_map, AllByRecursion}
use Rattle.protocol.specs.Flags.{ones, kept_index, audited_before}
use Rattle.protocol.specs.Group.{completed}
use Rattle.protocol.specs.Rule.{Rule}

-- f 0, f 1, .., f (n - 1), one after the other
abbrev pub parts : ℕ → (ℕ → List ℕ) → List ℕ
parts zero f = []
parts (suc n) f = parts n f ++ f n

-- what a header fixes, and what the digest function and the key rule do
pub record Setting (G : Type 0) : Type 0 where
  pub rule : Rule G
  -- of salt, repetition, party and leaf seed: the party's commitment
  pub commit : List ℕ → ℕ → ℕ → List ℕ → List ℕ
  -- of the same and an index: the party's share of that value
  pub share : List ℕ → ℕ → ℕ → List ℕ → ℕ → G
  -- the header's fifteen bytes
  pub header : List ℕ
  -- bytes of a salt, a commitment and a digest
  pub width : ℕ
  pub attribute_bytes : ℕ
  pub repetitions : ℕ
  pub parties : ℕ
  pub values : ℕ

-- a commitment, the challenger's answers to it and the responses, as they stand in an answered record
pub record Transcript (G : Type 0) : Type 0 where
  pub salt : List ℕ
  pub d1 : List ℕ
  pub attributes : List ℕ
  pub seed_a : List ℕ
  pub flags : List ℕ
  pub key : List G
  pub audited : List ℤ
  -- by repetition
  pub hidden : ℕ → ℕ
  pub hidden_commitment : ℕ → List ℕ
  pub offsets : ℕ → List G
  -- by repetition and party, of no meaning at the hidden one
  pub seed : ℕ → ℕ → List ℕ

-- its parts have the sizes that the setting tells, and entries are in normal form
pub record Fits {G : Type 0} (s : Setting G) (x : Transcript G) : Type 0 where
  pub salt : length x.salt ≡ s.width
  pub d1 : length x.d1 ≡ s.width
  pub attributes : length x.attributes ≡ s.attribute_bytes
  pub seed_a : length x.seed_a ≡ 16
  pub flags : length x.flags ≡ s.values
  pub chosen : ones x.flags ≡ s.rule.kept
  pub key : length x.key ≡ s.rule.size
  pub key_least : AllByRecursion (λ b. s.rule.entries.norm b ≡ b) x.key
  pub hidden : (e : ℕ) → e < s.repetitions → x.hidden e < s.parties
  pub hidden_commitment : (e : ℕ) → e < s.repetitions → length (x.hidden_commitment e) ≡ s.width
  pub offsets : (e : ℕ) → e < s.repetitions → length (x.offsets e) ≡ s.values
  pub offsets_least : (e : ℕ) → e < s.repetitions → AllByRecursion (λ o. s.rule.entries.norm o ≡ o) (x.offsets e)

-- party j's share of value k; the offset is added to party 0's alone
abbrev pub corrected : {G : Type 0} → Setting G → List ℕ → List G → ℕ → ℕ → List ℕ → ℕ → G
corrected s salt offsets e j seed k =
    let w = s.share salt e j seed k in
    cond (j == 0) (s.rule.entries.add w (slice_index_or offsets k s.rule.entries.none)) w

-- party j's product share: the key rule over its kept shares
abbrev pub product_of : {G : Type 0} → Setting G → List ℕ → List ℕ → List ℕ → List G → ℕ → ℕ → List ℕ → ℕ → G
product_of s seed_a flags salt offsets e j seed i = s.rule.image seed_a (λ m. corrected s salt offsets e j seed (kept_index flags m)) i

module _ {G : Type 0} (s : Setting G) (x : Transcript G) where
  -- the audited value of index k
  abbrev pub value_at : ℕ → ℤ
  value_at k = slice_index_or x.audited (audited_before x.flags k) (pos 0)

  abbrev pub commitment : ℕ → ℕ → List ℕ
  commitment e j = cond (j == x.hidden e) (x.hidden_commitment e) (s.commit x.salt e j (x.seed e j))

  -- the shares of an audited value: the hidden party's by subtraction from the value
  abbrev pub audited_share : ℕ → ℕ → ℕ → G
  audited_share e k =
      completed s.rule.entries s.parties (x.hidden e) (s.rule.residue (value_at k))
      (λ j. corrected s x.salt (x.offsets e) e j (x.seed e j) k)

  -- the product shares: the hidden party's by subtraction from the key
  abbrev pub product_share : ℕ → ℕ → ℕ → G
  product_share e i =
      completed s.rule.entries s.parties (x.hidden e) (slice_index_or x.key i s.rule.entries.none)
      (λ j. product_of s x.seed_a x.flags x.salt (x.offsets e) e j (x.seed e j) i)

  -- repetition e in text 6: N commitments, M offsets
  abbrev pub committed_part : ℕ → List ℕ
  committed_part e = parts s.parties (commitment e) ++ flat_map s.rule.entries.code (x.offsets e)

  unfoldable pub text6 : List ℕ
  text6 = 6 ∷ (s.header ++ (x.salt ++ (x.attributes ++ parts s.repetitions committed_part)))

  -- party j of repetition e in text 7: its audited shares, then its product share
  abbrev pub party_part : ℕ → ℕ → List ℕ
  party_part e j =
      parts s.values (λ k. cond (slice_index x.flags k == 1) [] (s.rule.entries.code (audited_share e k j)))
      ++ parts s.rule.size (λ i. s.rule.entries.code (product_share e i j))

  unfoldable pub text7 : List ℕ
  text7 =
      7 ∷ (x.salt ++ (x.d1 ++ (x.flags ++ (x.seed_a ++ (flat_map s.rule.entries.code x.key
      ++ parts s.repetitions (λ e. parts s.parties (party_part e)))))))
