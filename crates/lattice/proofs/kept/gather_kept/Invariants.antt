use Rattle.std.proofs.Common.{◌≡◌, ℕ, ◌<◌, length}
use Rattle.protocol.specs.Flags.{kept_index}
use Rattle.lattice.specs.Lines.{at}
use Rattle.lattice.proofs.kept.gather_kept.Given as goal

abbrev pub invariant-loop-m : goal.invariant-loop-m
invariant-loop-m l = (k : ℕ) → k < length l.yielded → at l.out k ≡ at l.values (kept_index l.flags k)
