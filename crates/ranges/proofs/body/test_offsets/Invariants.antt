use Rattle.std.proofs.Common.{◌≡◌, ℕ, ◌<◌, Ok}
use Rattle.protocol.specs.Book.{offset_range_tests}
use Rattle.protocol.specs.Of.{parameters}
use Rattle.protocol.specs.Tests.{first_failing}
use Rattle.ranges.proofs.body.test_offsets.Given as goal

abbrev pub invariant-loop-e : goal.invariant-loop-e
invariant-loop-e l = (d : ℕ) → d < l.e → first_failing (offset_range_tests l.whole.view.bytes.now (parameters l.whole.view.header) d) (tt {0}) ≡ Ok (tt {0})
