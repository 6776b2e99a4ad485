-- Value words, the values that they stand for, and values as bytes.
use Rattle.std.specs.Prelude.{ℕ, suc, ◌-◌, ◌/◌, ◌%◌, ◌≤◌, Bool, cond, List, [], ◌∷◌, ℤ, pos, negsuc, neg_ℤ, ◌==◌, nat_lt}

-- how many entries of a table t exceeds
abbrev pub exceeded : List ℕ → ℕ → ℕ
exceeded [] t = 0
exceeded (x ∷ xs) t = cond (nat_lt x t) (suc (exceeded xs t)) (exceeded xs t)

-- bit 0 of a word is the sign, 1 for negative, and the other fifteen bits are t
abbrev pub sampled : List ℕ → ℕ → ℤ
sampled table word = let size = exceeded table (word / 2) in cond (word % 2 == 1) (neg_ℤ (pos size)) (pos size)

-- v lies from -b to b
abbrev pub Within : ℕ → ℤ → Type 0
Within b (pos a) = a ≤ b
Within b (negsuc a) = suc a ≤ b

abbrev pub beyond : ℕ → ℤ → Bool
beyond b (pos a) = nat_lt b a
beyond b (negsuc a) = nat_lt b (suc a)

-- a small number as a byte in two's complement, and the number that such a byte stands for
abbrev pub byte_of : ℤ → ℕ
byte_of (pos a) = a
byte_of (negsuc a) = 255 - a

abbrev pub signed : ℕ → ℤ
signed b = cond (nat_lt b 128) (pos b) (negsuc (255 - b))
