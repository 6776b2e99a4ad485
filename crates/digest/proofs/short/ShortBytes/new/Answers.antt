use Rattle.std.proofs.Common.{length, refl}
use Rattle.digest.proofs.Held.{held}
use Rattle.digest.proofs.short.ShortBytes.new.Goals as goal

pub returns : goal.returns
returns c = held (length c.args.bytes.now) c.args.bytes.now c.copy_from_slice.new.self _ refl c.copy_from_slice.ensures.after
