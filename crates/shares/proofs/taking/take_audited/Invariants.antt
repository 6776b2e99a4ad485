use Rattle.std.proofs.Common.{length}
use Rattle.protocol.specs.Sharing.{parts}
use Rattle.digest.specs.Making.{Took}
use Rattle.lattice.specs.Lines.{at}
use Rattle.shares.specs.Shown.{audited_share}
use Rattle.shares.proofs.taking.take_audited.Given as goal

abbrev pub invariant-loop-flag : goal.invariant-loop-flag
invariant-loop-flag g l =
    Took (parts (length l.yielded) (audited_share l.flags (at l.shares))) (g.D.DigestMaker.means l.initial.maker) (g.D.DigestMaker.means l.maker)
