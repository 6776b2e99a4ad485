-- What text 7 shows of one party.
use Rattle.std.specs.Prelude.{ℕ, ◌*◌, cond, List, [], ◌++◌, map, pos, ◌==◌, slice_index, slice_index_or}
use Rattle.std.specs.List.{range_with_len}
use Rattle.protocol.specs.Bytes.{le16}
use Rattle.protocol.specs.Flags.{kept_index, audited_before}
use Rattle.protocol.specs.Parameters.{Parameters, modulus}
use Rattle.protocol.specs.Residues.{modular, residue, matrix, matrix_rule}
use Rattle.protocol.specs.Rule.{Rule}
use Rattle.protocol.specs.Sampling.{signed}
use Rattle.protocol.specs.Sharing.{parts}
use Rattle.keccak.specs.Sponge.{shake128}

-- the key rule of a header's numbers
abbrev pub key_rule : Parameters → Rule ℕ
key_rule p = matrix_rule (modulus p.set) p.n p.c (matrix shake128 (modulus p.set))

-- those of a row v that are audited, as bytes
abbrev pub audited_share : List ℕ → (ℕ → ℕ) → ℕ → List ℕ
audited_share flags v k = cond (slice_index flags k == 1) [] (le16 (v k))

-- the key rule over the kept ones of a row v
abbrev pub product_of : Parameters → List ℕ → List ℕ → (ℕ → ℕ) → ℕ → ℕ
product_of p seed_a flags v = (key_rule p).image seed_a (λ m. v (kept_index flags m))

-- of a party that holds the row v: its audited shares, then its product share
unfoldable pub shown : Parameters → List ℕ → List ℕ → (ℕ → ℕ) → List ℕ
shown p seed_a flags v =
    parts p.m (audited_share flags v)
    ++ parts (p.n * p.c) (λ i. le16 (product_of p seed_a flags v i))

-- of the party that is found by subtraction: `sums` are the others' shares, `values` the audited values by index, `key` the entries of B
unfoldable pub found : Parameters → List ℕ → List ℕ → (ℕ → ℕ) → (ℕ → ℕ) → (ℕ → ℕ) → List ℕ
found p seed_a flags values key sums =
    parts p.m (audited_share flags (λ k. (modular (modulus p.set)).sub (values k) (sums k)))
    ++ parts (p.n * p.c) (λ i. le16 ((modular (modulus p.set)).sub (key i) (product_of p seed_a flags sums i)))

-- no party has more in text 7: two bytes for each value but the kept ones, and two for each entry of B, of which there are fewer than M / 2
abbrev pub most_shown : ℕ
most_shown = 98304

-- the audited values by index, modulo q; at a kept one stands the next that is audited, or 0
unfoldable pub spread : Parameters → List ℕ → List ℕ → List ℕ
spread p flags bytes = map (λ k. residue (modulus p.set) (slice_index_or (map signed bytes) (audited_before flags k) (pos 0))) (range_with_len 0 p.m)
