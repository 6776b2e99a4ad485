-- What the parties of a repetition hold, whose leaf seeds stand in a tree in memory.
use Rattle.std.specs.Prelude.{ℕ, ◌+◌, cond, List, ◌==◌}
use Rattle.protocol.specs.Group.{others}
use Rattle.protocol.specs.Parameters.{Parameters, width, parties, modulus}
use Rattle.protocol.specs.Residues.{modular}
use Rattle.protocol.specs.Sharing.{corrected}
use Rattle.protocol.specs.Streams.{Digest, drawn}
use Rattle.protocol.specs.Texts.{leaf_text}
use Rattle.seedtree.specs.Words.{seed_in}
use Rattle.shares.specs.Drawing.{share}
use Rattle.sharing.specs.Parts.{scheme}

-- party j's leaf seed
abbrev pub leaf_in : Parameters → List ℕ → ℕ → List ℕ
leaf_in p nodes j = seed_in nodes (parties p + j)

-- the shares of all parties but one, summed; none is left out where that one is not there
abbrev pub summed : Digest → Parameters → List ℕ → ℕ → List ℕ → ℕ → ℕ → ℕ
summed F p salt e nodes left_out k = others (modular (modulus p.set)) (parties p) left_out (λ j. share F p salt e j (leaf_in p nodes j) k)

-- party j's share of value k, with the offset if it is party 0
abbrev pub held : Digest → Parameters → List ℕ → ℕ → List ℕ → List ℕ → ℕ → ℕ → ℕ
held F p salt e nodes offsets j k = corrected (scheme F p) salt offsets e j (leaf_in p nodes j) k

-- what all parties but one hold of value k, summed
abbrev pub others_held : Digest → Parameters → List ℕ → ℕ → List ℕ → List ℕ → ℕ → ℕ → ℕ
others_held F p salt e nodes offsets left_out k = others (modular (modulus p.set)) (parties p) left_out (λ j. held F p salt e nodes offsets j k)

-- party j's commitment, the hidden one's as it is given
abbrev pub commitment_in : Digest → Parameters → List ℕ → ℕ → List ℕ → ℕ → List ℕ → ℕ → List ℕ
commitment_in F p salt e nodes hidden given j = cond (j == hidden) given (drawn F (leaf_text 4 salt e j (leaf_in p nodes j)) (width p))
