-- Keccak-f[1600] of FIPS 202, step by step, on a list of 25 lanes of 64 bits; lane (x, y) stands at 5 * y + x.
use Rattle.std.specs.Prelude.{ℕ, zero, suc, ◌+◌, ◌-◌, ◌*◌, ◌/◌, ◌%◌, ◌^◌, List, map, bit_and, bit_or, bit_xor, slice_index, slice_set}
use Rattle.std.specs.List.{range_with_len}
use Rattle.keccak.specs.Tables.{offsets, round_constants}

-- the lane at (x, y), each taken modulo 5
abbrev pub lane : List ℕ → ℕ → ℕ → ℕ
lane a x y = slice_index a (5 * (y % 5) + x % 5)

-- the state whose lane (x, y) is f x y
abbrev pub state : (ℕ → ℕ → ℕ) → List ℕ
state f = map (λ i. f (i % 5) (i / 5)) (range_with_len 0 25)

-- x rotated left by k
abbrev pub rotated : ℕ → ℕ → ℕ
rotated x k = bit_or ((x * 2 ^ (k % 64)) % 2 ^ 64) (x / 2 ^ ((64 - k % 64) % 64))

abbrev pub complement : ℕ → ℕ
complement x = 2 ^ 64 - 1 - x

-- the parity of a column
abbrev pub parity : List ℕ → ℕ → ℕ
parity a x = bit_xor (bit_xor (bit_xor (bit_xor (lane a x 0) (lane a x 1)) (lane a x 2)) (lane a x 3)) (lane a x 4)

unfoldable pub theta : List ℕ → List ℕ
theta a = state (λ x y. bit_xor (lane a x y) (bit_xor (parity a (x + 4)) (rotated (parity a (x + 1)) 1)))

unfoldable pub rho : List ℕ → List ℕ
rho a = state (λ x y. rotated (lane a x y) (lane offsets x y))

unfoldable pub pi : List ℕ → List ℕ
pi a = state (λ x y. lane a (x + 3 * y) x)

unfoldable pub chi : List ℕ → List ℕ
chi a = state (λ x y. bit_xor (lane a x y) (bit_and (complement (lane a (x + 1) y)) (lane a (x + 2) y)))

unfoldable pub iota : List ℕ → ℕ → List ℕ
iota a c = slice_set a 0 (bit_xor (lane a 0 0) c)

unfoldable pub round : List ℕ → ℕ → List ℕ
round a c = iota (chi (pi (rho (theta a)))) c

-- the first n rounds
unfoldable pub rounds : List ℕ → ℕ → List ℕ
rounds a zero = a
rounds a (suc n) = round (rounds a n) (slice_index round_constants n)

unfoldable pub keccak_f : List ℕ → List ℕ
keccak_f a = rounds a 24
