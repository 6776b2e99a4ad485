-- The key that a holder computes from its values.
use Rattle.std.proofs.Common.{◌≡◌, ℕ, ◌*◌, List, map, length}
use Rattle.std.specs.List.{range_with_len}
use Rattle.protocol.specs.Ceremony.{secret_of, value_word}
use Rattle.protocol.specs.Flags.{ones}
use Rattle.protocol.specs.Parameters.{Parameters, sigma, modulus, table}
use Rattle.protocol.specs.Prover.{key}
use Rattle.protocol.specs.Residues.{residue}
use Rattle.protocol.specs.Sampling.{sampled}
use Rattle.protocol.specs.Streams.{Digest}
use Rattle.lattice.specs.Lines.{at}
use Rattle.shares.specs.Drawing.{value_residues}
use Rattle.shares.specs.Shown.{product_of}
use Rattle.shares.proofs.Products.{same_row, row_at, product_same}
use Rattle.sharing.specs.Parts.{scheme}

-- the product of the kept values is B
pub key_is : (F : Digest) (p : Parameters) (salt master attributes d1 seed_a flags values : List ℕ) → values ≡ value_residues F p salt master → length flags ≡ p.m → ones flags ≡ sigma p →
    map (product_of p seed_a flags (at values)) (range_with_len 0 (p.n * p.c)) ≡ key (scheme F p) (secret_of F p salt master attributes d1 seed_a flags)
unfolding value_residues
key_is F p salt master attributes d1 seed_a flags values are long chosen =
    let value : ℕ → ℕ = λ k. residue (modulus p.set) (sampled (table p.set) (value_word F salt master k)) in
    same_row (product_of p seed_a flags (at values)) (product_of p seed_a flags value) (p.n * p.c)
    (product_same p seed_a flags (at values) value long chosen (λ k q. row_at value p.m k values are q))
