use Rattle.soundness.proofs.Indices as proof
use Rattle.soundness.proofs.kept_values_are_listed.Goals as goal

pub returns : goal.returns
returns c = proof.lists_ones
