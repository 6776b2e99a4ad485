use Rattle.std.proofs.Common.{◌+◌, length, arith}
use Rattle.std.proofs.lemmas.List.FromFn.{fill_by_all}
use Rattle.protocol.specs.Streams.{first_bytes}
use Rattle.challenge_tests.specs.Script.{script}
use Rattle.challenge_tests.proofs.scripted.fill.Goals as goal

pub returns : goal.returns
unfolding first_bytes
returns c =
    fill_by_all (λ i. script c.args.one c.args.two (c.args.from + i)) c.loop-k.out (length c.args.out.now) 0 (omega arith) (λ i h. c.loop-k.invariant i (omega arith))
