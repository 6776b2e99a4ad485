-- SHA-512 of a text of bytes (FIPS 180-4): padding, blocks, and the 64 bytes of the hash.
use Rattle.std.specs.Prelude.{ℕ, zero, suc, ◌-◌, ◌*◌, ◌/◌, ◌%◌, ◌^◌, List, [], ◌∷◌, ◌++◌, length, take, drop, replicate, slice_index}
use Rattle.protocol.specs.Streams.{first_bytes}
use Rattle.sha512.specs.Sha512.{initial, compressed}

-- a number as sixteen bytes, high byte first
abbrev pub be128 : ℕ → List ℕ
be128 n =
    n / 2 ^ 120 % 256 ∷ n / 2 ^ 112 % 256 ∷ n / 2 ^ 104 % 256 ∷ n / 2 ^ 96 % 256
    ∷ n / 2 ^ 88 % 256 ∷ n / 2 ^ 80 % 256 ∷ n / 2 ^ 72 % 256 ∷ n / 2 ^ 64 % 256
    ∷ n / 2 ^ 56 % 256 ∷ n / 2 ^ 48 % 256 ∷ n / 2 ^ 40 % 256 ∷ n / 2 ^ 32 % 256
    ∷ n / 2 ^ 24 % 256 ∷ n / 2 ^ 16 % 256 ∷ n / 2 ^ 8 % 256 ∷ n % 256 ∷ []

-- how many zero bytes follow the byte 0x80: as few as leave sixteen bytes of a block for the length
abbrev pub zeros : ℕ → ℕ
zeros n = (239 - n % 128) % 128

-- what follows a text of n bytes, up to whole blocks: 0x80, zeros, and the number of its bits
unfoldable pub padding : ℕ → List ℕ
padding n = 0x80 ∷ (replicate (zeros n) 0 ++ be128 (n * 8))

-- the words h after n blocks
unfoldable pub blocks : List ℕ → ℕ → List ℕ → List ℕ
blocks h zero bytes = h
blocks h (suc n) bytes = blocks (compressed h (take 128 bytes)) n (drop 128 bytes)

-- the words h after all whole blocks of the bytes
unfoldable pub absorbed : List ℕ → List ℕ → List ℕ
absorbed h bytes = blocks h (length bytes / 128) bytes

-- the words of the hash of a text
unfoldable pub hash_words : List ℕ → List ℕ
hash_words text = absorbed initial (text ++ padding (length text))

-- byte k of words, high byte first
unfoldable pub byte_of : List ℕ → ℕ → ℕ
byte_of words k = slice_index words (k / 8) / 2 ^ (8 * (7 - k % 8)) % 256

-- the 64 bytes of eight words
abbrev pub word_bytes : List ℕ → List ℕ
word_bytes words = first_bytes (byte_of words) 64

-- the hash of a text
abbrev pub hash : List ℕ → List ℕ
hash text = word_bytes (hash_words text)
