-- Seeds of 32 bytes in sixteen-bit words, sixteen words a seed, each with its low byte first.
use Rattle.std.specs.Prelude.{◌≡◌, ℕ, ◌*◌, List, ◌≢◌}
use Rattle.std.specs.List.{flat_map}
use Rattle.protocol.specs.Bytes.{part, le16}

-- seed k of words
unfoldable pub seed_in : List ℕ → ℕ → List ℕ
seed_in words k = flat_map le16 (part words (16 * k) 16)

-- the seed stands at place k, and every other place is as it was
pub record Stored (k : ℕ) (seed old new : List ℕ) : Type 0 where
  pub here : seed_in new k ≡ seed
  pub elsewhere : (j : ℕ) → (j ≢ k) → seed_in new j ≡ seed_in old j
