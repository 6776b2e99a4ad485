use Rattle.guarantee.proofs.Extracting as proof
use Rattle.guarantee.proofs.extraction.Goals as goal

pub returns : goal.returns
returns c = proof.extraction
