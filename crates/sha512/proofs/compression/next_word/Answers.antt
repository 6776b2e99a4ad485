use Rattle.sha512.specs.Sha512.{next_word, small_sigma0, small_sigma1}
use Rattle.sha512.proofs.compression.next_word.Goals as goal

pub returns : goal.returns
unfolding next_word small_sigma0 small_sigma1
returns c = cc
