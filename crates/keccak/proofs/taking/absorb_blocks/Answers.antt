use Rattle.std.proofs.Common.{get_or, ap, ◌∙◌, arith}
use Rattle.keccak.proofs.Absorption.{block_absorbed}
use Rattle.keccak.proofs.taking.absorb_blocks.Goals as goal

pub loop-block-preserved : goal.loop-block-preserved
loop-block-preserved g c = λ x.
    block_absorbed g.row.RATE c.loop-block.lanes c.absorb.new.lanes c.args.bytes.now x c.block-item.result c.loop-block.block-index c.requires.some (omega arith)
    (c.block-item.is ∙ ap (λ bs. get_or bs c.loop-block.block-index c.block-item.result) c.as_chunks.ensures.front) c.absorb.ensures
    ∙ c.loop-block.invariant x
