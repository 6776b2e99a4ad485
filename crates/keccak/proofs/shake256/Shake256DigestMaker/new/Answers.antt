use Rattle.keccak.proofs.Makers.{blank_holds}
use Rattle.keccak.proofs.shake256.Shake256DigestMaker.new.Goals as goal

pub returns : goal.returns
returns c = search blank_holds
