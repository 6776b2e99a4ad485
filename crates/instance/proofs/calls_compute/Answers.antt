use Rattle.instance.proofs.Computed as proof
use Rattle.instance.proofs.calls_compute.Goals as goal

pub returns : goal.returns
returns c = proof.calls
