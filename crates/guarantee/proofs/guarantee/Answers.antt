use Rattle.guarantee.proofs.Completing as proof
use Rattle.guarantee.proofs.guarantee.Goals as goal

pub returns : goal.returns
returns c = proof.guarantee
