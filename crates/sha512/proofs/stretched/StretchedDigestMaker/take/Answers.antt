use Rattle.std.proofs.Common.{arith}
use Rattle.sha512.proofs.Streaming.{state_more}
use Rattle.sha512.proofs.stretched.StretchedDigestMaker.take.Goals as goal

pub returns-clause-effect : goal.returns-clause-effect
returns-clause-effect c =
    state_more c.args.self.now.hasher c.take.new.self c.args.self.now.drawn c.args.bytes.now
    c.take.ensures (omega (arith, c.args.self.now.taken_limit))
