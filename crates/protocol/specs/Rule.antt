-- A key rule: what makes the entries of a key from the kept values.
use Rattle.std.specs.Prelude.{◌≡◌, ℕ, ◌<◌, List, ℤ}
use Rattle.protocol.specs.Group.{Entries, Lawful}

pub record Rule (G : Type 0) : Type 0 where
  pub entries : Entries G
  pub residue : ℤ → G
  -- how many values are kept, and how many entries a key has
  pub kept : ℕ
  pub size : ℕ
  -- of seed_a and the kept values in their order, each entry of the key
  pub image : List ℕ → (ℕ → G) → ℕ → G

pub record LawfulRule {G : Type 0} (k : Rule G) : Type 0 where
  pub entries : Lawful k.entries
  pub residue_least : (v : ℤ) → k.entries.norm (k.residue v) ≡ k.residue v
  pub least : (a : List ℕ) (f : ℕ → G) (i : ℕ) → k.entries.norm (k.image a f i) ≡ k.image a f i
  -- the image of a sum is the sum of the images
  pub sums : (a : List ℕ) (f h : ℕ → G) (i : ℕ) → k.image a (λ m. k.entries.add (f m) (h m)) i ≡ k.entries.add (k.image a f i) (k.image a h i)
  -- it reads the kept values alone
  pub reach : (a : List ℕ) (f h : ℕ → G) (i : ℕ) → i < k.size → ((m : ℕ) → m < k.kept → f m ≡ h m) → k.image a f i ≡ k.image a h i
