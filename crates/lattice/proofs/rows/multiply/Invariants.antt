use Rattle.std.proofs.Common.{◌≡◌, ℕ, ◌*◌, ◌<◌}
use Rattle.protocol.specs.Parameters.{modulus}
use Rattle.protocol.specs.Residues.{matrix, product}
use Rattle.keccak.specs.Sponge.{shake128}
use Rattle.lattice.specs.Lines.{at}
use Rattle.protocol.specs.Sets.{number}
use Rattle.lattice.proofs.rows.multiply.Given as goal

abbrev pub invariant-loop-i : goal.invariant-loop-i
invariant-loop-i l =
    (m : ℕ) → m < l.i * l.c →
    at l.out m ≡ product (modulus (number l.set)) l.n l.c (matrix shake128 (modulus (number l.set)) l.seed) (at l.secrets) m
