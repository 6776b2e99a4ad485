-- What two transcripts with equal texts 6 and 7 give, if they hide different parties in one repetition: every party's leaf seed, and
-- from the seeds the values. No matrix is spoken of here: the key rule is any that is lawful.
use Rattle.std.specs.Prelude.{◌≡◌, ℕ, ◌<◌, cond, List, length, ◌==◌, ◌≢◌, slice_index, slice_index_or}
use Rattle.protocol.specs.Flags.{kept_index}
use Rattle.protocol.specs.Group.{total}
use Rattle.protocol.specs.Rule.{Rule, LawfulRule}
use Rattle.protocol.specs.Sharing.{Setting, Transcript, Fits, value_at, commitment, text6, text7}

-- what is drawn has its length, and is in normal form
pub record Drawn {G : Type 0} (s : Setting G) : Type 0 where
  pub commit_length : (salt : List ℕ) (e j : ℕ) (seed : List ℕ) → length (s.commit salt e j seed) ≡ s.width
  pub share_least : (salt : List ℕ) (e j : ℕ) (seed : List ℕ) (k : ℕ) → s.rule.entries.norm (s.share salt e j seed k) ≡ s.share salt e j seed k

pub record Sound {G : Type 0} (s : Setting G) : Type 0 where
  pub rule : LawfulRule s.rule
  pub drawn : Drawn s

-- the leaf seeds of the first transcript, its hidden one taken from the second
unfoldable pub joint_seeds : {G : Type 0} → Transcript G → Transcript G → ℕ → ℕ → List ℕ
joint_seeds x y e j = cond (j == x.hidden e) (y.seed e j) (x.seed e j)

-- value k of such seeds: the offset and all shares
unfoldable pub value_of : {G : Type 0} → Setting G → Transcript G → (ℕ → List ℕ) → ℕ → ℕ → G
value_of s x seeds e k =
    s.rule.entries.add (slice_index_or (x.offsets e) k s.rule.entries.none) (total s.rule.entries s.parties (λ j. s.share x.salt e j (seeds j) k))

-- what seeds of all parties show of a transcript
pub record Shows {G : Type 0} (s : Setting G) (x : Transcript G) (seeds : ℕ → List ℕ) (values : ℕ → G) (e : ℕ) : Type 0 where
  -- each opens its party's commitment in text 6
  pub commitments : (j : ℕ) → j < s.parties → s.commit x.salt e j (seeds j) ≡ commitment s x e j
  -- the values have the audited ones among them
  pub audited : (k : ℕ) → k < s.values → slice_index x.flags k ≡ 0 → values k ≡ s.rule.residue (value_at s x k)
  -- and the key is the image of the kept ones
  pub key : (i : ℕ) → i < s.rule.size → s.rule.image x.seed_a (λ m. values (kept_index x.flags m)) i ≡ slice_index_or x.key i s.rule.entries.none

-- under the key rule k: special soundness in the sense of Σ-protocols
abbrev pub SpecialSoundness : {G : Type 0} → Rule G → Type 0
SpecialSoundness {G} k =
    (s : Setting G) → s.rule ≡ k → Drawn s → (x y : Transcript G) → Fits s x → Fits s y →
    text6 s x ≡ text6 s y → text7 s x ≡ text7 s y → (e : ℕ) → e < s.repetitions → (x.hidden e ≢ y.hidden e) →
    Shows s x (joint_seeds x y e) (value_of s x (joint_seeds x y e) e) e
    × Shows s y (joint_seeds x y e) (value_of s x (joint_seeds x y e) e) e
