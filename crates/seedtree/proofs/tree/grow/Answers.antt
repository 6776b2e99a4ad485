use Rattle.std.proofs.Common.{arith, pow_mono}
use Rattle.std.proofs.lemmas.Nat.{pow_pos}
use Rattle.digest.specs.Short.{short_bytes}
use Rattle.seedtree.proofs.Growing.{tree_start, tree_more}
use Rattle.seedtree.proofs.tree.grow.Goals as goal

pub loop-node-init : goal.loop-node-init
loop-node-init g c = tree_start g.D.DigestMaker.function (short_bytes c.args.repetition.salt.now) c.args.repetition.number c.draw_root-root.ensures c.store.ensures

pub loop-node-preserved : goal.loop-node-preserved
loop-node-preserved g c =
    tree_more g.D.DigestMaker.function (short_bytes c.args.repetition.salt.now) c.args.repetition.number c.loop-node.node (omega arith) c.loop-node.invariant c.split.ensures

pub returns : goal.returns
returns g c t i le q = c.loop-node.invariant t i q (omega (arith, pow_mono {i = t} {j = c.args.repetition.header.h} le, pow_pos c.args.repetition.header.h))
