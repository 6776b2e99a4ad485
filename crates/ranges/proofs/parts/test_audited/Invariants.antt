use Rattle.std.proofs.Common.{◌≡◌, ℕ, ◌<◌, false}
use Rattle.protocol.specs.Parameters.{bound}
use Rattle.protocol.specs.Sets.{number}
use Rattle.ranges.specs.Parts.{audited_test}
use Rattle.ranges.proofs.parts.test_audited.Given as goal

abbrev pub invariant-loop-i : goal.invariant-loop-i
invariant-loop-i l = (k : ℕ) → k < l.i → (audited_test l.part.bytes.now l.part.offset (bound (number l.set)) k).fails ≡ false
