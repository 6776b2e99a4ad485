-- Every byte of a stream is below 256.
use Rattle.std.specs.Prelude.{ℕ, ◌/◌, ◌%◌, ◌*◌, ◌^◌, ◌<◌, List, slice_index}
use Rattle.std.proofs.Common.{lit<}
use Rattle.std.proofs.Math.Nat.{mod-lt}
use Rattle.keccak.specs.Sponge.{byte_of, stream, shake}

pub byte_lt : (s : List ℕ) (k : ℕ) → byte_of s k < 256
unfolding byte_of
byte_lt s k = mod-lt (slice_index s (k / 8) / 2 ^ (8 * (k % 8))) (lit< tt)

pub shake_byte : (r : ℕ) (m : List ℕ) (i : ℕ) → shake r m i < 256
unfolding shake stream
shake_byte r m i = byte_lt _ (i % r)
