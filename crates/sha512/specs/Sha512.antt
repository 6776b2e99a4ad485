-- The compression function of SHA-512 (FIPS 180-4), on lists of 64-bit words and a block of 128 bytes.
use Rattle.std.specs.Prelude.{ℕ, zero, suc, ◌+◌, ◌-◌, ◌*◌, ◌/◌, ◌%◌, ◌^◌, cond, List, [], ◌∷◌, ◌++◌, bit_and, bit_or, bit_xor, nat_lt, slice_index}

-- ---- operations on words

abbrev pub add64 : ℕ → ℕ → ℕ
add64 x y = (x + y) % 2 ^ 64

abbrev pub not64 : ℕ → ℕ
not64 x = 2 ^ 64 - 1 - x

-- rotated and shifted to the right by k
abbrev pub rotr : ℕ → ℕ → ℕ
rotr x k = bit_or (x / 2 ^ k) ((x * 2 ^ (64 - k)) % 2 ^ 64)

abbrev pub shr : ℕ → ℕ → ℕ
shr x k = x / 2 ^ k

unfoldable pub ch : ℕ → ℕ → ℕ → ℕ
ch x y z = bit_xor (bit_and x y) (bit_and (not64 x) z)

unfoldable pub maj : ℕ → ℕ → ℕ → ℕ
maj x y z = bit_xor (bit_xor (bit_and x y) (bit_and x z)) (bit_and y z)

unfoldable pub big_sigma0 : ℕ → ℕ
big_sigma0 x = bit_xor (bit_xor (rotr x 28) (rotr x 34)) (rotr x 39)

unfoldable pub big_sigma1 : ℕ → ℕ
big_sigma1 x = bit_xor (bit_xor (rotr x 14) (rotr x 18)) (rotr x 41)

unfoldable pub small_sigma0 : ℕ → ℕ
small_sigma0 x = bit_xor (bit_xor (rotr x 1) (rotr x 8)) (shr x 7)

unfoldable pub small_sigma1 : ℕ → ℕ
small_sigma1 x = bit_xor (bit_xor (rotr x 19) (rotr x 61)) (shr x 6)

-- ---- tables

-- the constants of the 80 rounds
abbrev pub constants : List ℕ
constants =
    0x428a2f98d728ae22 ∷ 0x7137449123ef65cd ∷ 0xb5c0fbcfec4d3b2f ∷ 0xe9b5dba58189dbbc
    ∷ 0x3956c25bf348b538 ∷ 0x59f111f1b605d019 ∷ 0x923f82a4af194f9b ∷ 0xab1c5ed5da6d8118
    ∷ 0xd807aa98a3030242 ∷ 0x12835b0145706fbe ∷ 0x243185be4ee4b28c ∷ 0x550c7dc3d5ffb4e2
    ∷ 0x72be5d74f27b896f ∷ 0x80deb1fe3b1696b1 ∷ 0x9bdc06a725c71235 ∷ 0xc19bf174cf692694
    ∷ 0xe49b69c19ef14ad2 ∷ 0xefbe4786384f25e3 ∷ 0x0fc19dc68b8cd5b5 ∷ 0x240ca1cc77ac9c65
    ∷ 0x2de92c6f592b0275 ∷ 0x4a7484aa6ea6e483 ∷ 0x5cb0a9dcbd41fbd4 ∷ 0x76f988da831153b5
    ∷ 0x983e5152ee66dfab ∷ 0xa831c66d2db43210 ∷ 0xb00327c898fb213f ∷ 0xbf597fc7beef0ee4
    ∷ 0xc6e00bf33da88fc2 ∷ 0xd5a79147930aa725 ∷ 0x06ca6351e003826f ∷ 0x142929670a0e6e70
    ∷ 0x27b70a8546d22ffc ∷ 0x2e1b21385c26c926 ∷ 0x4d2c6dfc5ac42aed ∷ 0x53380d139d95b3df
    ∷ 0x650a73548baf63de ∷ 0x766a0abb3c77b2a8 ∷ 0x81c2c92e47edaee6 ∷ 0x92722c851482353b
    ∷ 0xa2bfe8a14cf10364 ∷ 0xa81a664bbc423001 ∷ 0xc24b8b70d0f89791 ∷ 0xc76c51a30654be30
    ∷ 0xd192e819d6ef5218 ∷ 0xd69906245565a910 ∷ 0xf40e35855771202a ∷ 0x106aa07032bbd1b8
    ∷ 0x19a4c116b8d2d0c8 ∷ 0x1e376c085141ab53 ∷ 0x2748774cdf8eeb99 ∷ 0x34b0bcb5e19b48a8
    ∷ 0x391c0cb3c5c95a63 ∷ 0x4ed8aa4ae3418acb ∷ 0x5b9cca4f7763e373 ∷ 0x682e6ff3d6b2b8a3
    ∷ 0x748f82ee5defb2fc ∷ 0x78a5636f43172f60 ∷ 0x84c87814a1f0ab72 ∷ 0x8cc702081a6439ec
    ∷ 0x90befffa23631e28 ∷ 0xa4506cebde82bde9 ∷ 0xbef9a3f7b2c67915 ∷ 0xc67178f2e372532b
    ∷ 0xca273eceea26619c ∷ 0xd186b8c721c0c207 ∷ 0xeada7dd6cde0eb1e ∷ 0xf57d4f7fee6ed178
    ∷ 0x06f067aa72176fba ∷ 0x0a637dc5a2c898a6 ∷ 0x113f9804bef90dae ∷ 0x1b710b35131c471b
    ∷ 0x28db77f523047d84 ∷ 0x32caab7b40c72493 ∷ 0x3c9ebe0a15c9bebc ∷ 0x431d67c49c100d4c
    ∷ 0x4cc5d4becb3e42b6 ∷ 0x597f299cfc657e2a ∷ 0x5fcb6fab3ad6faec ∷ 0x6c44198c4a475817 ∷ []

-- the words that hashing starts from
abbrev pub initial : List ℕ
initial =
    0x6a09e667f3bcc908 ∷ 0xbb67ae8584caa73b ∷ 0x3c6ef372fe94f82b ∷ 0xa54ff53a5f1d36f1
    ∷ 0x510e527fade682d1 ∷ 0x9b05688c2b3e6c1f ∷ 0x1f83d9abfb41bd6b ∷ 0x5be0cd19137e2179 ∷ []

-- ---- the message schedule

-- word t of a block, high byte first
unfoldable pub block_word : List ℕ → ℕ → ℕ
block_word b t =
    slice_index b (8 * t) * 72057594037927936 + slice_index b (8 * t + 1) * 281474976710656 + slice_index b (8 * t + 2) * 1099511627776
    + slice_index b (8 * t + 3) * 4294967296 + slice_index b (8 * t + 4) * 16777216 + slice_index b (8 * t + 5) * 65536
    + slice_index b (8 * t + 6) * 256 + slice_index b (8 * t + 7)

-- word t of the schedule, from those before it
unfoldable pub next_word : List ℕ → ℕ → ℕ
next_word w t = add64 (add64 (add64 (small_sigma1 (slice_index w (t - 2))) (slice_index w (t - 7))) (small_sigma0 (slice_index w (t - 15)))) (slice_index w (t - 16))

-- the first n words of the schedule
unfoldable pub schedule : List ℕ → ℕ → List ℕ
schedule b zero = []
schedule b (suc n) = let w = schedule b n in w ++ cond (nat_lt n 16) (block_word b n) (next_word w n) ∷ []

-- ---- the rounds, on the working words a to h

abbrev pub sum1 : List ℕ → ℕ → ℕ → ℕ
sum1 v k w = add64 (add64 (add64 (add64 (slice_index v 7) (big_sigma1 (slice_index v 4))) (ch (slice_index v 4) (slice_index v 5) (slice_index v 6))) k) w

abbrev pub sum2 : List ℕ → ℕ
sum2 v = add64 (big_sigma0 (slice_index v 0)) (maj (slice_index v 0) (slice_index v 1) (slice_index v 2))

-- one round, with its constant k and its word w of the schedule
unfoldable pub round : List ℕ → ℕ → ℕ → List ℕ
round v k w =
    add64 (sum1 v k w) (sum2 v) ∷ slice_index v 0 ∷ slice_index v 1 ∷ slice_index v 2
    ∷ add64 (slice_index v 3) (sum1 v k w) ∷ slice_index v 4 ∷ slice_index v 5 ∷ slice_index v 6 ∷ []

-- the first n rounds, with the schedule w
unfoldable pub rounds : List ℕ → List ℕ → ℕ → List ℕ
rounds h w zero = h
rounds h w (suc n) = round (rounds h w n) (slice_index constants n) (slice_index w n)

unfoldable pub sums : List ℕ → List ℕ → List ℕ
sums h v =
    add64 (slice_index h 0) (slice_index v 0) ∷ add64 (slice_index h 1) (slice_index v 1) ∷ add64 (slice_index h 2) (slice_index v 2) ∷ add64 (slice_index h 3) (slice_index v 3)
    ∷ add64 (slice_index h 4) (slice_index v 4) ∷ add64 (slice_index h 5) (slice_index v 5) ∷ add64 (slice_index h 6) (slice_index v 6) ∷ add64 (slice_index h 7) (slice_index v 7) ∷ []

-- the words h after one more block
unfoldable pub compressed : List ℕ → List ℕ → List ℕ
compressed h block = sums h (rounds h (schedule block 80) 80)
