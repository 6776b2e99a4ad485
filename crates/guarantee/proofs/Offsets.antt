-- Short names for where fields begin.
use Rattle.std.proofs.Common.{ℕ}
use Rattle.protocol.specs.declared.field.Field.TheVariants.{Key, Audited, Commitment, Offsets}
use Rattle.protocol.specs.Layout.{offset}
use Rattle.protocol.specs.Parameters.{Parameters}

abbrev pub key_at : Parameters → ℕ
key_at p = offset p Key

abbrev pub audited_at : Parameters → ℕ
audited_at p = offset p Audited

abbrev pub block_at : Parameters → ℕ → ℕ
block_at p e = offset p (Commitment e)

abbrev pub offsets_at : Parameters → ℕ → ℕ
offsets_at p e = offset p (Offsets e)
