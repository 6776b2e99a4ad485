use Rattle.soundness.proofs.Trees as proof
use Rattle.soundness.proofs.tree_regrows.Goals as goal

pub returns : goal.returns
returns c = proof.regrows
