-- Rows of shares added entry by entry.
use Rattle.std.proofs.Common.{◌≡◌, ℕ, ◌<◌, List, map, length, ap, ◌∙◌}
use Rattle.std.specs.List.{range_with_len}
use Rattle.std.proofs.lemmas.List.FromFn.{length-map-range_with_len}
use Rattle.protocol.specs.Parameters.{modulus}
use Rattle.protocol.specs.Residues.{modular}
use Rattle.lattice.specs.Lines.{at}
use Rattle.shares.proofs.Products.{same_row, row_at}

-- a row is added to the row f, and the sums are the row r
pub added_row : (set set' n : ℕ) (sum row out : List ℕ) (f h r : ℕ → ℕ) → set ≡ set' → sum ≡ map f (range_with_len 0 n) →
    out ≡ map (λ k. (modular (modulus set)).add (at sum k) (at row k)) (range_with_len 0 (length sum)) →
    ((k : ℕ) → k < n → at row k ≡ h k) → ((k : ℕ) → k < n → (modular (modulus set')).add (f k) (h k) ≡ r k) → out ≡ map r (range_with_len 0 n)
added_row set set' n sum row out f h r is was now each sums =
    now
    ∙ (λ i. map (λ k. (modular (modulus (is i))).add (at sum k) (at row k)) (range_with_len 0 (long i)))
    ∙ same_row (λ k. (modular (modulus set')).add (at sum k) (at row k)) r n
    (λ k q. (λ i. (modular (modulus set')).add (row_at f n k sum was q i) (each k q i)) ∙ sums k q)
  where
    long : length sum ≡ n
    long = ap length was ∙ length-map-range_with_len f 0 n
