use Rattle.std.proofs.Common.{arith}
use Rattle.opening.proofs.Writing.{put_wrote}
use Rattle.opening.proofs.bytes.put.Goals as goal

pub returns : goal.returns
returns c = put_wrote c.args.at _ c.args.out.now c.copy_from_slice.new.self c.args.bytes.now c.copy_from_slice.ensures.after (omega arith)
