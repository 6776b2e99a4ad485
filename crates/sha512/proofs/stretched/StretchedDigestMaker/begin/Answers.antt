use Rattle.sha512.proofs.Streaming.{state_new}
use Rattle.sha512.proofs.stretched.StretchedDigestMaker.begin.Goals as goal

pub returns : goal.returns
returns c =
    state_new c.clear.new.self.hasher c.clear.new.self.drawn
    c.clear.ensures.words c.clear.ensures.taken c.clear.ensures.drawn
