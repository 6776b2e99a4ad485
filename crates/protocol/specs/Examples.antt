-- Worked examples, small enough to follow by hand.
use Rattle.std.specs.Prelude.{◌≡◌, ℕ, ◌^◌, List, [], ◌∷◌, map, ℤ, pos, negsuc, slice_index}
use Rattle.std.specs.List.{AllByRecursion}
use Rattle.protocol.specs.Parameters.{table, work_words}
use Rattle.protocol.specs.Layout.{record_length, entry_length}
use Rattle.protocol.specs.Header.{parameters_of}
use Rattle.protocol.specs.Flags.{packed}
use Rattle.protocol.specs.Selection.{picks, hidden_parties}
use Rattle.protocol.specs.Sampling.{sampled}
use Rattle.protocol.specs.Group.{total}
use Rattle.protocol.specs.Residues.{modular, residue, product}
use Rattle.protocol.specs.Tree.{sibling_nodes}

pub data Example : Type 0 where
  -- a set, value words, their values
  samples : ℕ → List ℕ → List ℤ → Example
  -- M, σ, draws, the flags, the flag byte
  keeps : ℕ → ℕ → List ℕ → List ℕ → ℕ → Example
  -- h, a byte of G2, the hidden party, the nodes beside its path from the top down
  hides : ℕ → ℕ → ℕ → List ℕ → Example
  -- q, a value, the shares of two parties, the offset, what party 0 then holds
  shares : ℕ → ℤ → ℕ → ℕ → ℕ → ℕ → Example
  -- q, A, S, E, B, all of one row and one column
  multiplies : ℕ → ℕ → ℕ → ℕ → ℕ → Example
  -- a header's bytes, the record's length, W, the entry's length
  measures : List ℕ → ℕ → ℕ → ℕ → Example

abbrev pub Holds : Example → Type 0
Holds (samples set words values) = map (sampled (table set)) words ≡ values
Holds (keeps m sigma draws flags byte) = (picks (λ i. slice_index draws i) m sigma sigma ≡ flags) × (packed flags 1 ≡ byte ∷ [])
Holds (hides h byte party nodes) = (hidden_parties (λ _. byte) (2 ^ h) 1 ≡ party ∷ []) × (sibling_nodes h party ≡ nodes)
Holds (shares q value one two offset held) =
    let all = total (modular q) 2 (λ j. slice_index (one ∷ two ∷ []) j) in
    ((modular q).sub (residue q value) all ≡ offset) × ((modular q).add one offset ≡ held)
Holds (multiplies q a s e b) = product q 1 1 (λ _ _. a) (λ m. slice_index (s ∷ e ∷ []) m) 0 ≡ b
Holds (measures header length work entry) = let p = parameters_of header in (record_length p ≡ length) × (work_words p ≡ work) × (entry_length p ≡ entry)

abbrev pub examples : List Example
examples =
    samples 1 (9286 ∷ 9288 ∷ 9289 ∷ 65534 ∷ 65535 ∷ []) (pos 0 ∷ pos 1 ∷ negsuc 0 ∷ pos 12 ∷ negsuc 11 ∷ [])
    ∷ samples 3 (65535 ∷ []) (negsuc 5 ∷ [])
    ∷ keeps 4 2 (7 ∷ 5 ∷ []) (0 ∷ 1 ∷ 0 ∷ 1 ∷ []) 10
    ∷ keeps 4 2 (0 ∷ 0 ∷ []) (1 ∷ 0 ∷ 0 ∷ 1 ∷ []) 9
    ∷ hides 2 254 2 (2 ∷ 7 ∷ [])
    ∷ shares 32768 (negsuc 0) 5 9 32753 32758
    ∷ multiplies 32768 32767 2 0 32766
    ∷ measures (75 ∷ 80 ∷ 80 ∷ 1 ∷ 0 ∷ 1 ∷ 1 ∷ 0 ∷ 1 ∷ 4 ∷ 0 ∷ 1 ∷ 1 ∷ 0 ∷ 0 ∷ []) 203 156 209
    ∷ []

abbrev pub ExamplesHold : Type 0
ExamplesHold = AllByRecursion Holds examples
