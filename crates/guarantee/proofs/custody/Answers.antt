use Rattle.guarantee.proofs.Keeping as proof
use Rattle.guarantee.proofs.custody.Goals as goal

pub returns : goal.returns
returns c = proof.custody
