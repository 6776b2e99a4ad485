-- Sixteen-bit entries modulo q, and the key rule B = A·S + E.
use Rattle.std.specs.Prelude.{ℕ, zero, suc, ◌+◌, ◌-◌, ◌*◌, ◌/◌, ◌%◌, List, ◌++◌, ℤ, pos, negsuc}
use Rattle.protocol.specs.Bytes.{le16}
use Rattle.protocol.specs.Group.{Entries}
use Rattle.protocol.specs.Rule.{Rule}
use Rattle.protocol.specs.Streams.{Digest, stream_word}

abbrev pub modular : ℕ → Entries ℕ
modular q = record {
  none = 0;
  norm = λ x. x % q;
  add = λ x y. (x + y) % q;
  sub = λ x y. (x + (q - y % q)) % q;
  code = le16;
}

-- an integer modulo q
abbrev pub residue : ℕ → ℤ → ℕ
residue q (pos a) = a % q
residue q (negsuc a) = q - 1 - a % q

-- a 0 · s 0 + .. + a (n - 1) · s (n - 1)
abbrev pub dot : ℕ → (ℕ → ℕ) → (ℕ → ℕ) → ℕ
dot zero a s = 0
dot (suc n) a s = dot n a s + a n * s n

-- word t of a stream modulo q
abbrev pub residue_in : ℕ → (ℕ → ℕ) → ℕ → ℕ
residue_in q s t = stream_word s t % q

-- entry t of row i of A: of SHAKE128 over i and seed_a
abbrev pub matrix : Digest → ℕ → List ℕ → ℕ → ℕ → ℕ
matrix X q seed_a i = residue_in q (X (le16 i ++ seed_a))

-- entry m, row by row, of A·S + E modulo q: A is n by n, S and E are n by c and fill v one after the other, row by row
abbrev pub product : ℕ → ℕ → ℕ → (ℕ → ℕ → ℕ) → (ℕ → ℕ) → ℕ → ℕ
product q n c a v m = (dot n (a (m / c)) (λ t. v (t * c + m % c)) + v (n * c + m)) % q

-- the key rule, for any matrix that seed_a gives by row and column
abbrev pub matrix_rule : ℕ → ℕ → ℕ → (List ℕ → ℕ → ℕ → ℕ) → Rule ℕ
matrix_rule q n c a = record {
  entries = modular q;
  residue = residue q;
  kept = 2 * (n * c);
  size = n * c;
  image = λ seed_a. product q n c (a seed_a);
}
