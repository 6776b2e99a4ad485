use Rattle.std.proofs.Common.{◌*◌, length, arith}
use Rattle.std.proofs.lemmas.List.FromFn.{fill_by_all}
use Rattle.protocol.specs.Flags.{bits, packed}
use Rattle.challenge.proofs.flags.pack.Goals as goal

pub returns : goal.returns
unfolding packed
returns c = fill_by_all (λ b. bits c.args.flags.now (8 * b) 8) c.loop-b.out (length c.args.out.now) 0 (omega arith) (λ k h. c.loop-b.invariant k (omega arith))
