use Rattle.std.proofs.Common.{◌≡◌, ℕ, ◌+◌, ◌-◌, ◌*◌, ◌≤◌, List, ◌++◌, map, length, take, sym, ap, ◌∙◌, arith}
use borrow.Rule.Slice.PartMut.{put_mid}
use Rattle.std.specs.List.{range_with_len, flat_map}
use Rattle.std.proofs.lemmas.Slice.{take-put_mid}
use Rattle.seedtree.specs.Words.{seed_in}
use Rattle.seedtree.proofs.Paths.{level_fits, beside_fits, level_wide, next_wide}
use Rattle.seedtree.proofs.Siblings.{sibling_node, joined_counted}
use Rattle.seedtree.proofs.tree.write_siblings.Goals as goal

-- one seed more
pub row_more : (s : ℕ → List ℕ) (f : ℕ → ℕ) (t : ℕ) (old row : List ℕ) → 32 * t + 32 ≤ length old → length row ≡ 32 → row ≡ s (f t) →
    take (32 * t) old ≡ flat_map s (map f (range_with_len 0 t)) →
    take (32 * (t + 1)) (put_mid (32 * t) (32 * t + 32 - 32 * t) old row) ≡ flat_map s (map f (range_with_len 0 (t + 1)))
row_more s f t old row room long is was =
    take-put_mid (32 * t) (32 * t + 32 - 32 * t) old row (32 * (t + 1)) (omega arith) (omega arith) ∙ (λ z. was z ++ is z) ∙ sym (joined_counted s f t)

pub load-seed-requires : goal.load-seed-requires
load-seed-requires c =
    let less = c.loop-t-test.true in
    let wide = level_wide c.loop-t.t less (omega arith) in
    let f = level_fits less (omega arith) c.requires.hidden wide in
    let b = beside_fits less c.requires.hidden wide c.other-beside.ensures in
    omega arith

pub loop-t-preserved : goal.loop-t-preserved
loop-t-preserved c =
    let nodes = c.args.nodes.now in
    let t = c.loop-t.t in
    let next = next_wide t _ (level_wide t c.loop-t-test.true (omega arith)) in
    row_more (seed_in nodes) (sibling_node c.args.header.h c.args.hidden) t c.loop-t.out c.copy_from_slice.new.self (omega arith)
    (ap length c.copy_from_slice.ensures.after ∙ omega arith)
    (c.copy_from_slice.ensures.after ∙ c.load-seed.ensures ∙ (λ z. seed_in nodes (next z + c.other-beside.ensures z)))
    c.loop-t.invariant
