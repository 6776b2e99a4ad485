use Rattle.protocol.specs.Scheme.{seeds_of}
use Rattle.digest.specs.Short.{short_bytes}
use Rattle.seedtree.proofs.Growing.{Regrowing}
use Rattle.seedtree.proofs.tree.regrow.Given as goal

abbrev pub invariant-loop-t : goal.invariant-loop-t
invariant-loop-t g l =
    Regrowing g.D.DigestMaker.function (short_bytes l.repetition.salt.now) l.repetition.number l.depth l.hidden (seeds_of l.siblings l.depth) l.t l.nodes
