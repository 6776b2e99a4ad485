use Rattle.std.proofs.Common.{refl}
use Rattle.sha512.specs.Sha512.{ch}
use Rattle.sha512.proofs.compression.choose.Goals as goal

pub returns : goal.returns
unfolding ch
returns c = refl
