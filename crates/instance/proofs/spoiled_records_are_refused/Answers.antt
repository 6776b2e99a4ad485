use Rattle.instance.proofs.Computed as proof
use Rattle.instance.proofs.spoiled_records_are_refused.Goals as goal

pub returns : goal.returns
returns c = proof.spoiled_refused
