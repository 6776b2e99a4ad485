use Rattle.soundness.proofs.Linearity as proof
use Rattle.soundness.proofs.hidden_product_by_linearity.Goals as goal

pub returns : goal.returns
returns c = λ k lawful. proof.image_others lawful
