use Rattle.std.proofs.Common.{◌≡◌, ◌*◌, map, take}
use Rattle.std.specs.List.{range_with_len, flat_map}
use Rattle.seedtree.specs.Words.{seed_in}
use Rattle.seedtree.proofs.Siblings.{sibling_node}
use Rattle.seedtree.proofs.tree.write_siblings.Given as goal

abbrev pub invariant-loop-t : goal.invariant-loop-t
invariant-loop-t l = take (32 * l.t) l.out ≡ flat_map (seed_in l.nodes) (map (sibling_node l.depth l.hidden) (range_with_len 0 l.t))
