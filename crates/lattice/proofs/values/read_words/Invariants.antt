use Rattle.std.proofs.Common.{◌≡◌, ℕ, ◌<◌}
use Rattle.protocol.specs.Streams.{stream_word}
use Rattle.lattice.specs.Lines.{at}
use Rattle.lattice.proofs.values.read_words.Given as goal

abbrev pub invariant-loop-t : goal.invariant-loop-t
invariant-loop-t l = (k : ℕ) → k < l.t → at l.out k ≡ stream_word (at l.bytes) k
