-- The texts that digests are drawn on, but for 6 and 7 (Sharing): one label byte and the fields. Numbers have the low byte first; a
-- repetition and a party have one byte, a node two.
use Rattle.std.specs.Prelude.{ℕ, List, ◌∷◌, ◌++◌}
use Rattle.protocol.specs.Bytes.{le16}
use Rattle.protocol.specs.Streams.{Digest, First, Second}

-- drawn 2·M: the value words
abbrev pub text1 : List ℕ → List ℕ → List ℕ
text1 salt master = 1 ∷ (salt ++ master)

-- drawn 32: the root seed of repetition e
abbrev pub text2 : List ℕ → ℕ → List ℕ → List ℕ
text2 salt e master = 2 ∷ (salt ++ (e ∷ master))

-- drawn 64: the seeds of a node's left and right child
abbrev pub text3 : List ℕ → ℕ → ℕ → List ℕ → List ℕ
text3 salt e node seed = 3 ∷ (salt ++ (e ∷ (le16 node ++ seed)))

-- label 4, drawn w: a party's commitment; label 5, drawn 2·M: its share words
abbrev pub leaf_text : ℕ → List ℕ → ℕ → ℕ → List ℕ → List ℕ
leaf_text label salt e party seed = label ∷ (salt ++ (e ∷ party ∷ seed))

-- G1 and G2 of the derived challenger
abbrev pub text8 : List ℕ → List ℕ → List ℕ
text8 salt d1 = 8 ∷ (salt ++ d1)

abbrev pub text9 : List ℕ → List ℕ → List ℕ → List ℕ
text9 salt d1 d2 = 9 ∷ (salt ++ (d1 ++ d2))

abbrev pub derived_first : Digest → First
derived_first F salt d1 = F (text8 salt d1)

abbrev pub derived_second : Digest → Second
derived_second F salt d1 d2 = F (text9 salt d1 d2)

-- G1 and G2 of the drawn challenger, which holds two station values
abbrev pub text10 : List ℕ → List ℕ
text10 station = 10 ∷ station

abbrev pub text11 : List ℕ → List ℕ
text11 station = 11 ∷ station

abbrev pub drawn_first : Digest → List ℕ → First
drawn_first F station salt d1 = F (text10 station)

abbrev pub drawn_second : Digest → List ℕ → Second
drawn_second F station salt d1 d2 = F (text11 station)
