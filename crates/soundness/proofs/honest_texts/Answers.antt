use Rattle.soundness.proofs.Honest as proof
use Rattle.soundness.proofs.honest_texts.Goals as goal

pub returns : goal.returns
returns c = λ k lawful. proof.honest_texts k lawful
