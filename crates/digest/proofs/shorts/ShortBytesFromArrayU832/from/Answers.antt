use Rattle.std.proofs.Common.{arith}
use Rattle.digest.proofs.Held.{held}
use Rattle.digest.proofs.shorts.ShortBytesFromArrayU832.from.Goals as goal

pub returns : goal.returns
returns c = held 32 c.args.bytes c.copy_from_slice.new.self _ (omega arith) c.copy_from_slice.ensures.after
