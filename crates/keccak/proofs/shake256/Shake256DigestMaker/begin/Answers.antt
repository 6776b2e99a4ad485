use Rattle.keccak.proofs.Makers.{blank_holds}
use Rattle.keccak.proofs.shake256.Shake256DigestMaker.begin.Goals as goal

pub returns : goal.returns
returns c = blank_holds c.clear.new.self c.clear.ensures
