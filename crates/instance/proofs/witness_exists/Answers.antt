use Rattle.instance.proofs.Computed as proof
use Rattle.instance.proofs.witness_exists.Goals as goal

pub returns : goal.returns
returns c = proof.witness
