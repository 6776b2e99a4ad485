use Rattle.std.proofs.Common.{◌/◌, ◌%◌, ◌^◌, length, get_or, arith}
use Rattle.std.proofs.lemmas.List.FromFn.{fill_by_all}
use Rattle.protocol.specs.Flags.{unpacked}
use Rattle.challenge.proofs.flags.unpack.Goals as goal

pub returns : goal.returns
unfolding unpacked
returns c =
    fill_by_all (λ k. get_or c.args.bytes.now (k / 8) 0 / 2 ^ (k % 8) % 2) c.loop-k.flags (length c.args.flags.now) 0 (omega arith) (λ k h. c.loop-k.invariant k (omega arith))
