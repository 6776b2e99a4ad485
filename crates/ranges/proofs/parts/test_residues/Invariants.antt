use Rattle.std.proofs.Common.{◌≡◌, ℕ, ◌<◌, false}
use Rattle.ranges.specs.Parts.{residue_test}
use Rattle.ranges.proofs.parts.test_residues.Given as goal

abbrev pub invariant-loop-i : goal.invariant-loop-i
invariant-loop-i l = (k : ℕ) → k < l.i → (residue_test l.part.bytes.now l.part.offset l.q k).fails ≡ false
