-- Numbers in memory: entries by index, S by columns, and one line of A·S + E.
use Rattle.std.specs.Prelude.{◌≡◌, ℕ, ◌+◌, ◌*◌, ◌%◌, ◌<◌, List, slice_index}
use Rattle.protocol.specs.Residues.{dot}

abbrev pub at : List ℕ → ℕ → ℕ
at xs k = slice_index xs k

-- the n by c numbers s, which stand row by row, column by column
abbrev pub Turned : ℕ → ℕ → List ℕ → List ℕ → Type 0
Turned n c s columns = (t l : ℕ) → t < n → l < c → at columns (l * n + t) ≡ at s (t * c + l)

-- entry l of a row of A times S, which stands by columns, and e
unfoldable pub row_entry : ℕ → ℕ → List ℕ → List ℕ → ℕ → ℕ → ℕ
row_entry q n row columns e l = (dot n (at row) (λ t. at columns (l * n + t)) + e) % q
