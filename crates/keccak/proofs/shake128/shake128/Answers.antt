use Rattle.std.proofs.Common.{length, arith}
use Rattle.keccak.proofs.Makers.{shaken}
use Rattle.keccak.proofs.shake128.shake128.Goals as goal

pub returns : goal.returns
returns c =
    shaken _ c.args.text.now c.squeeze.new.out (length c.args.out.now) c.take_in.new.self c.close.new.self (omega arith)
    c.take_in.ensures c.close.ensures.lanes c.close.ensures.unused c.squeeze.ensures.bytes
