use Rattle.digest.specs.Short.{short_bytes}
use Rattle.seedtree.proofs.Growing.{Leveling}
use Rattle.seedtree.proofs.tree.split_level.Given as goal

abbrev pub invariant-loop-node : goal.invariant-loop-node
invariant-loop-node g l = Leveling g.D.DigestMaker.function (short_bytes l.repetition.salt.now) l.repetition.number l.width l.path l.node l.initial.nodes l.nodes
