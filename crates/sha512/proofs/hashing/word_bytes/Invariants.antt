use Rattle.std.proofs.Common.{◌≡◌, ℕ, ◌*◌, ◌<◌, length, get_or}
use Rattle.sha512.specs.Hash.{byte_of}
use Rattle.sha512.proofs.hashing.word_bytes.Given as goal

abbrev pub invariant-loop-k : goal.invariant-loop-k
invariant-loop-k l = (length l.bytes ≡ 64) × ((j : ℕ) → j < 8 * l.k → get_or l.bytes j 0 ≡ byte_of l.words j)
