use Rattle.std.proofs.Common.{◌≡◌, ℕ, ◌+◌, ◌*◌, ◌<◌}
use Rattle.protocol.specs.Parameters.{modulus}
use Rattle.protocol.specs.Residues.{modular}
use Rattle.lattice.specs.Lines.{at}
use Rattle.protocol.specs.Sets.{number}
use Rattle.lattice.specs.Sums.{without}
use Rattle.lattice.proofs.sums.Rows.sum_without.Given as goal

abbrev pub invariant-loop-j : goal.invariant-loop-j
invariant-loop-j l =
    (k : ℕ) → k < l.self.width → at l.sum k ≡ without (modular (modulus (number l.self.set))) l.j l.left_out (λ i. at l.self.rows.now (i * l.self.width + k))
