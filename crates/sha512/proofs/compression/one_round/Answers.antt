use Rattle.sha512.specs.Sha512.{round, big_sigma0, big_sigma1}
use Rattle.sha512.proofs.compression.one_round.Goals as goal

pub returns : goal.returns
unfolding round big_sigma0 big_sigma1
returns c = cc
