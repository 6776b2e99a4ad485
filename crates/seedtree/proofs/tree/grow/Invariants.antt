use Rattle.std.proofs.Common.{◌*◌}
use Rattle.protocol.specs.Ceremony.{root as root_of}
use Rattle.digest.specs.Short.{short_bytes}
use Rattle.seedtree.proofs.Growing.{TreeTo}
use Rattle.seedtree.proofs.tree.grow.Given as goal

abbrev pub invariant-loop-node : goal.invariant-loop-node
invariant-loop-node g l =
    let F = g.D.DigestMaker.function in
    let salt = short_bytes l.repetition.salt.now in
    TreeTo F salt l.repetition.number (root_of F salt l.master l.repetition.number) (2 * l.node) l.nodes
