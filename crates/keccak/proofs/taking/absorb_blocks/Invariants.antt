use Rattle.std.proofs.Common.{◌≡◌, ℕ, ◌*◌, List, ◌++◌, drop}
use Rattle.keccak.specs.Sponge.{sponge}
use Rattle.keccak.proofs.taking.absorb_blocks.Given as goal

abbrev pub invariant-loop-block : goal.invariant-loop-block
invariant-loop-block g l = (x : List ℕ) → sponge g.row.RATE l.lanes (drop (l.block-index * g.row.RATE) l.bytes ++ x) ≡ sponge g.row.RATE l.initial.lanes (l.bytes ++ x)
