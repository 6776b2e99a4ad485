-- Laws of the definitions, each proved on the contract of a public function.
use Rattle.std.specs.Prelude.{◌≡◌, ℕ, ◌*◌, ◌<◌, ◌≤◌, List, length, slice_index}
use Rattle.protocol.specs.Extractor.{SpecialSoundness}
use Rattle.protocol.specs.Flags.{ones, ListsKept, packed, unpacked, bits_set}
use Rattle.protocol.specs.Group.{others}
use Rattle.protocol.specs.Parameters.{bound, table}
use Rattle.protocol.specs.Prover.{HonestTexts}
use Rattle.protocol.specs.Residues.{matrix_rule}
use Rattle.protocol.specs.Rule.{Rule, LawfulRule}
use Rattle.protocol.specs.Sampling.{sampled, Within}
use Rattle.protocol.specs.Selection.{selected, hidden_parties}

-- A·S + E mod q is a lawful key rule, whatever the matrix
abbrev pub MatrixRuleIsLawful : Type 0
MatrixRuleIsLawful = (q n c : ℕ) (a : List ℕ → ℕ → ℕ → ℕ) → 0 < q → q ≤ 65536 → LawfulRule (matrix_rule q n c a)

-- two answers to one commitment give the values, under every lawful rule
abbrev pub SoundUnderLawfulRules : Type 0
SoundUnderLawfulRules = (k : Rule ℕ) → LawfulRule k → SpecialSoundness k

-- an honest opening gives back its maker's texts, under every lawful rule
abbrev pub HonestUnderLawfulRules : Type 0
HonestUnderLawfulRules = (k : Rule ℕ) → LawfulRule k → HonestTexts k

-- the image of the other parties' summed shares is the sum of their images, so one product finds the hidden party's product share
abbrev pub HiddenProductByLinearity : Type 0
HiddenProductByLinearity =
    (k : Rule ℕ) → LawfulRule k → (seed_a : List ℕ) (n hidden : ℕ) (share : ℕ → ℕ → ℕ) (i : ℕ) →
    k.image seed_a (λ m. others k.entries n hidden (λ j. share j m)) i ≡ others k.entries n hidden (λ j. k.image seed_a (share j) i)

abbrev pub KeptValuesListed : Type 0
KeptValuesListed = (flags : List ℕ) → ListsKept flags

-- a selection keeps exactly σ values, each index below M at most once
abbrev pub SelectionKeepsSigma : Type 0
SelectionKeepsSigma =
    (s : ℕ → ℕ) (m sigma : ℕ) → sigma ≤ m →
    (length (selected s m sigma) ≡ m) × ((k : ℕ) → slice_index (selected s m sigma) k < 2) × (ones (selected s m sigma) ≡ sigma)

abbrev pub HiddenPartiesExist : Type 0
HiddenPartiesExist =
    (s : ℕ → ℕ) (n tau : ℕ) → 0 < n →
    (length (hidden_parties s n tau) ≡ tau) × ((e : ℕ) → e < tau → slice_index (hidden_parties s n tau) e < n)

-- flags come back from their bytes, and the bits that are set count the kept values
abbrev pub PackingIsFaithful : Type 0
PackingIsFaithful =
    (flags : List ℕ) (n m : ℕ) → ((k : ℕ) → slice_index flags k < 2) → length flags ≡ m → m ≤ 8 * n →
    (unpacked (packed flags n) m ≡ flags) × (bits_set (packed flags n) ≡ ones flags)

-- every value word gives a value within the bound of its set
abbrev pub SamplesWithinBound : Type 0
SamplesWithinBound = (set word : ℕ) → word < 65536 → Within (bound set) (sampled (table set) word)
