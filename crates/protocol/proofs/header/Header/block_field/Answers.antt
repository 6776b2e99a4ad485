use Rattle.std.proofs.Common.{◌/◌, sym, arith}
use Rattle.protocol.proofs.Tiling.{block_at_index, past_blocks}
use Rattle.protocol.proofs.header.Header.block_field.Goals as goal

pub returns-then-index-self : goal.returns-then-index-self
returns-then-index-self c = past_blocks c.args.self.tau c.args.index (omega arith)

pub returns-in-0 : goal.returns-in-0
returns-in-0 c = sym (block_at_index c.args.self.tau (c.args.index / 3) 0 c.args.index (omega arith) (omega arith) (omega arith))

pub returns-in-1 : goal.returns-in-1
returns-in-1 c = sym (block_at_index c.args.self.tau (c.args.index / 3) 1 c.args.index (omega arith) (omega arith) (omega arith))

pub returns-in_default : goal.returns-in_default
returns-in_default c = sym (block_at_index c.args.self.tau (c.args.index / 3) 2 c.args.index (omega arith) (omega arith) (omega arith))
