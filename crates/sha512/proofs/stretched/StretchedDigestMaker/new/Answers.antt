use Rattle.std.proofs.Common.{refl}
use Rattle.sha512.proofs.Streaming.{state_new}
use Rattle.sha512.proofs.stretched.StretchedDigestMaker.new.Goals as goal

pub returns : goal.returns
returns c = state_new c.new.result 0 c.new.ensures.words c.new.ensures.total refl
