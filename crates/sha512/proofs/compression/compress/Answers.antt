use Rattle.sha512.specs.Sha512.{compressed}
use Rattle.sha512.proofs.compression.compress.Goals as goal

pub returns : goal.returns
unfolding compressed
returns c = cc
