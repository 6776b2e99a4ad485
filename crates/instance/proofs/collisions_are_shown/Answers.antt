use Rattle.instance.proofs.Computed as proof
use Rattle.instance.proofs.collisions_are_shown.Goals as goal

pub returns : goal.returns
returns c = proof.collisions
