-- The sponge of FIPS 202 over Keccak-f[1600], on bytes, at a rate of r bytes; SHAKE256 and SHAKE128 are it at two rates.
use Rattle.std.specs.Prelude.{ℕ, zero, suc, ◌+◌, ◌-◌, ◌*◌, ◌/◌, ◌%◌, ◌^◌, List, ◌∷◌, ◌++◌, length, take, drop, replicate, bit_xor, slice_index, slice_set}
use Rattle.protocol.specs.Streams.{Digest}
use Rattle.keccak.specs.Keccak.{keccak_f}

-- byte k of a state, and lane i of a block: the least byte comes first
unfoldable pub byte_of : List ℕ → ℕ → ℕ
byte_of s k = slice_index s (k / 8) / 2 ^ (8 * (k % 8)) % 256

unfoldable pub lane_of : List ℕ → ℕ → ℕ
lane_of b i =
    slice_index b (8 * i) + slice_index b (8 * i + 1) * 2 ^ 8 + slice_index b (8 * i + 2) * 2 ^ 16 + slice_index b (8 * i + 3) * 2 ^ 24
    + slice_index b (8 * i + 4) * 2 ^ 32 + slice_index b (8 * i + 5) * 2 ^ 40 + slice_index b (8 * i + 6) * 2 ^ 48 + slice_index b (8 * i + 7) * 2 ^ 56

-- the state with the first n lanes of a block added
unfoldable pub added : List ℕ → List ℕ → ℕ → List ℕ
added s b zero = s
added s b (suc n) = let t = added s b n in slice_set t n (bit_xor (slice_index t n) (lane_of b n))

unfoldable pub absorbed : ℕ → List ℕ → List ℕ → List ℕ
absorbed r s b = keccak_f (added s b (r / 8))

-- the last block, from fewer than r bytes: 0x1F is the suffix 1111 and the first 1 of pad10*1, and 0x80 in the last byte is its last 1
abbrev pub suffixed : ℕ → List ℕ → List ℕ
suffixed r m = m ++ 0x1f ∷ replicate (r - 1 - length m) 0

unfoldable pub padded : ℕ → List ℕ → List ℕ
padded r m = slice_set (suffixed r m) (r - 1) (bit_xor (slice_index (suffixed r m) (r - 1)) 0x80)

-- n whole blocks of m are absorbed, and then the rest, padded
unfoldable pub absorbs : ℕ → List ℕ → ℕ → List ℕ → List ℕ
absorbs r s zero m = absorbed r s (padded r m)
absorbs r s (suc n) m = absorbs r (absorbed r s (take r m)) n (drop r m)

-- the state s after all of m was absorbed
unfoldable pub sponge : ℕ → List ℕ → List ℕ → List ℕ
sponge r s m = absorbs r s (length m / r) m

-- the state s after n permutations
unfoldable pub after : List ℕ → ℕ → List ℕ
after s zero = s
after s (suc n) = keccak_f (after s n)

-- byte i of what is squeezed from the state s: r bytes to a permutation
unfoldable pub stream : ℕ → List ℕ → ℕ → ℕ
stream r s i = byte_of (after s (i / r)) (i % r)

unfoldable pub shake : ℕ → Digest
shake r m = stream r (sponge r (replicate 25 0) m)

abbrev pub shake256 : Digest
shake256 = shake 136

abbrev pub shake128 : Digest
shake128 = shake 168
