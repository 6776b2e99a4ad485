-- What a maker of stretched hashes means, by its hasher, the number of bytes drawn and the block that it keeps.
use Rattle.std.specs.Prelude.{◌≡◌, ℕ, ◌+◌, ◌/◌, ◌%◌, ◌<◌, List, [], ◌++◌, slice_index}
use Rattle.protocol.specs.Streams.{Digest}
use Rattle.sha512.specs.declared.hasher.Hasher.{Hasher}
use Rattle.sha512.specs.Hash.{word_bytes}
use Rattle.sha512.specs.Hashing.{ended}
use Rattle.sha512.specs.Stretched.{be32}

-- block n of the stream, if the bytes x follow and the text ends with them
abbrev pub stream_block : Hasher → List ℕ → ℕ → List ℕ
stream_block s x n = word_bytes (ended s (x ++ be32 n))

-- the stream from a position on, if the bytes x follow and the text ends with them
unfoldable pub stream_from : Hasher → ℕ → Digest
stream_from s drawn x i = slice_index (stream_block s x ((drawn + i) / 64)) ((drawn + i) % 64)

-- the block of which a part was drawn is kept
abbrev pub KeptBlock : Hasher → ℕ → List ℕ → Type 0
KeptBlock s drawn block = 0 < drawn % 64 → block ≡ stream_block s [] (drawn / 64)
