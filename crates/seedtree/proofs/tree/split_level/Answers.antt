use Rattle.std.proofs.Common.{◌+◌, sym, subst, arith}
use Rattle.digest.specs.Short.{short_bytes}
use Rattle.seedtree.proofs.Growing.{Leveling, leveling_more, leveling_past}
use Rattle.seedtree.proofs.tree.split_level.Goals as goal
use Rattle.seedtree.proofs.tree.split_level.Goals.{then-node-path, else-node-path}

pub loop-node-preserved : goal.loop-node-preserved
loop-node-preserved g c =
    let F = g.D.DigestMaker.function in
    let salt = short_bytes c.args.repetition.salt.now in
    let e = c.args.repetition.number in
    let width = c.args.width in
    let path = c.args.path in
    let node = c.loop-node.node in
    let start = c.args.nodes.now in
    elim c.if-node-path.branch [
      | then-node-path w ↦
          subst (Leveling F salt e width path (node + 1) start) (sym w.nodes-is)
          (leveling_more F salt e width path node start c.loop-node.nodes w.split.new.nodes (omega arith) (omega arith) c.loop-node.invariant w.split.ensures)
      | else-node-path w ↦
          subst (Leveling F salt e width path (node + 1) start) (sym w.nodes-is)
          (leveling_past F salt e width path node start c.loop-node.nodes w.if-node-path.false c.loop-node.invariant)
    ]

pub returns : goal.returns
returns g c = record {
  grown = λ k side q r not small. c.loop-node.invariant.0 k side q (omega arith) not small;
  above = c.loop-node.invariant.1;
}
