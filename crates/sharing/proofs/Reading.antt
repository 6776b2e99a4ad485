-- The fields of a record have their sizes.
use Rattle.std.proofs.Common.{◌≡◌, ℕ, ◌+◌, ◌*◌, ◌<◌, ◌≤◌, List, length, arith}
use Rattle.std.proofs.lemmas.Nat.{mul-le}
use Rattle.protocol.specs.declared.field.Field.TheVariants.{SeedA, Key, Commitment, Seeds, Offsets}
use Rattle.protocol.specs.Layout.{offset, field_part, block_length, record_length}
use Rattle.protocol.specs.Parameters.{Parameters, width}
use Rattle.soundness.proofs.Fitting.{length_part}

module _ (p : Parameters) (r : List ℕ) (long : length r ≡ record_length p) where
  pub seed_a_long : length (field_part p r SeedA) ≡ 16
  seed_a_long = length_part r 15 16 (omega arith)

  pub key_long : length (field_part p r Key) ≡ 2 * (p.n * p.c)
  key_long = length_part r (offset p Key) (2 * (p.n * p.c)) (omega arith)

  module _ (e : ℕ) (small : e < p.tau) where
    within : (e + 1) * block_length p ≤ p.tau * block_length p
    within = mul-le (e + 1) (block_length p) p.tau (block_length p) (omega arith) (omega arith)

    pub commitment_long : length (field_part p r (Commitment e)) ≡ width p
    commitment_long = length_part r (offset p (Commitment e)) (width p) (omega (arith, within))

    pub seeds_long : length (field_part p r (Seeds e)) ≡ 32 * p.h
    seeds_long = length_part r (offset p (Seeds e)) (32 * p.h) (omega (arith, within))

    pub offsets_long : length (field_part p r (Offsets e)) ≡ 2 * p.m
    offsets_long = length_part r (offset p (Offsets e)) (2 * p.m) (omega (arith, within))
