use Rattle.std.proofs.Common.{refl}
use Rattle.sha512.specs.Sha512.{maj}
use Rattle.sha512.proofs.compression.majority.Goals as goal

pub returns : goal.returns
unfolding maj
returns c = refl
