use Rattle.guarantee.proofs.Sampling as proof
use Rattle.guarantee.proofs.samples_within_bound.Goals as goal

pub returns : goal.returns
returns c = proof.sampled_within
