-- Numbers that a maker gives, and the values and shares that are made of them.
use Rattle.std.specs.Prelude.{◌≡◌, ℕ, ◌+◌, List, [], map}
use Rattle.std.specs.List.{range_with_len}
use Rattle.protocol.specs.Ceremony.{value_word}
use Rattle.protocol.specs.Parameters.{Parameters, modulus, table}
use Rattle.protocol.specs.Residues.{residue, residue_in}
use Rattle.protocol.specs.Sampling.{sampled}
use Rattle.protocol.specs.Streams.{Digest}
use Rattle.protocol.specs.Texts.{leaf_text}
use Rattle.digest.specs.Making.{Making}

-- a maker n bytes further on in its stream
pub record Advanced (n : ℕ) (m m' : Making) : Type 0 where
  pub drawn : m'.drawn ≡ m.drawn + n
  pub rest : (i : ℕ) → m'.rule [] i ≡ m.rule [] (n + i)

-- the M values that salt and master give, modulo q
unfoldable pub value_residues : Digest → Parameters → List ℕ → List ℕ → List ℕ
value_residues F p salt master = map (λ k. residue (modulus p.set) (sampled (table p.set) (value_word F salt master k))) (range_with_len 0 p.m)

-- a party's share of value k
abbrev pub share : Digest → Parameters → List ℕ → ℕ → ℕ → List ℕ → ℕ → ℕ
share F p salt e j seed k = residue_in (modulus p.set) (F (leaf_text 5 salt e j seed)) k
