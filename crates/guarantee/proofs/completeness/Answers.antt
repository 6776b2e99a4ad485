use Rattle.guarantee.proofs.Completing as proof
use Rattle.guarantee.proofs.completeness.Goals as goal

pub returns : goal.returns
returns c = proof.completeness
