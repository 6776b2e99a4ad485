use Rattle.instance.proofs.Computed as proof
use Rattle.instance.proofs.refusals_are_ordered.Goals as goal

pub returns : goal.returns
returns c = proof.refusals
