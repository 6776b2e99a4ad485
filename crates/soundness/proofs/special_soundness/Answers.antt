use Rattle.soundness.proofs.Recovery as proof
use Rattle.soundness.proofs.special_soundness.Goals as goal

pub returns : goal.returns
returns c = λ k lawful. proof.special_soundness k lawful
