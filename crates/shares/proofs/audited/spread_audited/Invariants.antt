use Rattle.std.proofs.Common.{◌≡◌, ℕ, ◌<◌, map, get_or, pos}
use Rattle.protocol.specs.Flags.{audited_before}
use Rattle.protocol.specs.Parameters.{modulus}
use Rattle.protocol.specs.Residues.{residue}
use Rattle.protocol.specs.Sampling.{signed}
use Rattle.lattice.specs.Lines.{at}
use Rattle.protocol.specs.Sets.{number}
use Rattle.shares.proofs.audited.spread_audited.Given as goal

abbrev pub invariant-loop-k : goal.invariant-loop-k
invariant-loop-k l =
    (l.next ≡ audited_before l.flags l.k)
    × ((i : ℕ) → i < l.k → at l.values i ≡ residue (modulus (number l.set)) (get_or (map signed l.bytes) (audited_before l.flags i) (pos 0)))
