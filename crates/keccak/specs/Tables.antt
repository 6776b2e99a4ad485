-- The tables of Keccak-f[1600], and the rules of FIPS 202 that they come from: a shift register for the round constants, a walk through the lanes for rho.
use Rattle.std.specs.Prelude.{◌≡◌, ℕ, zero, suc, ◌+◌, ◌-◌, ◌*◌, ◌/◌, ◌%◌, ◌^◌, cond, List, [], ◌∷◌, map, replicate, bit_xor, nat_lt, slice_set}
use Rattle.std.specs.List.{range_with_len}

-- what iota adds to lane (0, 0), round by round
abbrev pub round_constants : List ℕ
round_constants =
    0x1 ∷ 0x8082 ∷ 0x800000000000808a ∷ 0x8000000080008000 ∷ 0x808b ∷ 0x80000001 ∷ 0x8000000080008081 ∷ 0x8000000000008009
    ∷ 0x8a ∷ 0x88 ∷ 0x80008009 ∷ 0x8000000a ∷ 0x8000808b ∷ 0x800000000000008b ∷ 0x8000000000008089 ∷ 0x8000000000008003
    ∷ 0x8000000000008002 ∷ 0x8000000000000080 ∷ 0x800a ∷ 0x800000008000000a ∷ 0x8000000080008081 ∷ 0x8000000000008080
    ∷ 0x80000001 ∷ 0x8000000080008008 ∷ []

-- by how much rho rotates each lane; lane (x, y) stands at 5 * y + x
abbrev pub offsets : List ℕ
offsets =
    0 ∷ 1 ∷ 62 ∷ 28 ∷ 27
    ∷ 36 ∷ 44 ∷ 6 ∷ 55 ∷ 20
    ∷ 3 ∷ 10 ∷ 43 ∷ 25 ∷ 39
    ∷ 41 ∷ 45 ∷ 15 ∷ 21 ∷ 8
    ∷ 18 ∷ 2 ∷ 61 ∷ 56 ∷ 14 ∷ []

-- one step of the register of eight bits, R[i] being bit i: a shift up, and where a ninth bit comes out, bits 0, 4, 5 and 6 turn
abbrev pub shifted : ℕ → ℕ
shifted r = cond (nat_lt (2 * r) 256) (2 * r) (bit_xor (2 * r) 0x171)

unfoldable pub register : ℕ → ℕ
register zero = 1
register (suc t) = shifted (register t)

abbrev pub rc : ℕ → ℕ
rc t = register (t % 255) % 2

-- bit 2 ^ j - 1 of the constant of round i is rc (j + 7 * i), and the others are 0
abbrev pub bit : ℕ → ℕ → ℕ
bit i j = rc (j + 7 * i) * 2 ^ (2 ^ j - 1)

unfoldable pub round_constant : ℕ → ℕ
round_constant i = bit i 0 + bit i 1 + bit i 2 + bit i 3 + bit i 4 + bit i 5 + bit i 6

abbrev pub ConstantsByRegister : Type 0
ConstantsByRegister = map round_constant (range_with_len 0 24) ≡ round_constants

-- the walk from (x, y) to (y, 2 * x + 3 * y), with n steps to go and t gone: the lane of step t is rotated by (t + 1) * (t + 2) / 2
unfoldable pub walk : ℕ → ℕ → ℕ → ℕ → List ℕ → List ℕ
walk zero t x y table = table
walk (suc n) t x y table = walk n (t + 1) y ((2 * x + 3 * y) % 5) (slice_set table (5 * y + x) (((t + 1) * (t + 2) / 2) % 64))

abbrev pub OffsetsByWalk : Type 0
OffsetsByWalk = walk 24 0 1 0 (replicate 25 0) ≡ offsets
