use Rattle.soundness.proofs.Residues as proof
use Rattle.soundness.proofs.matrix_rule_is_lawful.Goals as goal

pub returns : goal.returns
returns c = proof.matrix_lawful
