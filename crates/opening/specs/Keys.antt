-- The key that the kept values make, as numbers and as bytes.
use Rattle.std.specs.Prelude.{ℕ, ◌*◌, List, ◌++◌, map}
use Rattle.std.specs.List.{range_with_len, flat_map}
use Rattle.protocol.specs.Bytes.{le16}
use Rattle.protocol.specs.Flags.{kept_index}
use Rattle.protocol.specs.Parameters.{Parameters}
use Rattle.lattice.specs.Lines.{at}
use Rattle.shares.specs.Shown.{product_of}

-- S mod q, row by row: the first half of the kept values
abbrev pub secret_words : Parameters → List ℕ → List ℕ → List ℕ
secret_words p flags values = map (λ m. at values (kept_index flags m)) (range_with_len 0 (p.n * p.c))

-- B, row by row
abbrev pub public_words : Parameters → List ℕ → List ℕ → List ℕ → List ℕ
public_words p seed_a flags values = map (product_of p seed_a flags (at values)) (range_with_len 0 (p.n * p.c))

-- S, then B
unfoldable pub key_text : Parameters → List ℕ → List ℕ → List ℕ → List ℕ
key_text p seed_a flags values = flat_map le16 (secret_words p flags values) ++ flat_map le16 (public_words p seed_a flags values)
