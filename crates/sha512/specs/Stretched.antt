-- SHA-512 stretched to a stream: the hash of the text and a block number, one block after the other.
use Rattle.std.specs.Prelude.{ℕ, ◌/◌, ◌%◌, List, [], ◌∷◌, ◌++◌, slice_index}
use Rattle.protocol.specs.Streams.{Digest}
use Rattle.sha512.specs.Hash.{hash}

-- a number, modulo 2 ^ 32, as four bytes, high byte first
abbrev pub be32 : ℕ → List ℕ
be32 n = n / 16777216 % 256 ∷ n / 65536 % 256 ∷ n / 256 % 256 ∷ n % 256 ∷ []

-- of a text and a position, the byte
unfoldable pub stretched : Digest
stretched text i = slice_index (hash (text ++ be32 (i / 64))) (i % 64)
