-- The numbers that a header fixes, and those that follow from them.
use Rattle.std.specs.Prelude.{ℕ, ◌+◌, ◌*◌, ◌/◌, ◌^◌, cond, List, [], ◌∷◌, ◌==◌}

pub record Parameters : Type 0 where
  pub version : ℕ
  -- which constants: modulus, bound and sampling table
  pub set : ℕ
  -- rows of S, E and B, and the order of A
  pub n : ℕ
  -- columns of S, E and B
  pub c : ℕ
  -- M, how many values are made
  pub m : ℕ
  -- depth of the seed tree
  pub h : ℕ
  -- τ, repetitions
  pub tau : ℕ
  -- bytes of attributes
  pub a : ℕ

-- bytes of a salt, a commitment and a digest
abbrev pub width : Parameters → ℕ
width p = 32

-- σ, how many values are kept: those of S and of E
abbrev pub sigma : Parameters → ℕ
sigma p = 2 * (p.n * p.c)

-- N, how many parties share each value
abbrev pub parties : Parameters → ℕ
parties p = 2 ^ p.h

-- W, the sixteen-bit numbers that a call works in
abbrev pub work_words : Parameters → ℕ
work_words p = 6 * p.m + 4 * (p.n * p.c) + 64 * parties p

-- the bytes that hold M flags
abbrev pub flag_length : Parameters → ℕ
flag_length p = (p.m + 7) / 8

-- the modulus q of a set
abbrev pub modulus : ℕ → ℕ
modulus set = cond (set == 1) 32768 65536

-- β, the largest size of a value
abbrev pub bound : ℕ → ℕ
bound set = cond (set == 1) 12 (cond (set == 2) 10 6)

-- FrodoKEM's sampling table
abbrev pub table : ℕ → List ℕ
table set =
    cond (set == 1) (4643 ∷ 13363 ∷ 20579 ∷ 25843 ∷ 29227 ∷ 31145 ∷ 32103 ∷ 32525 ∷ 32689 ∷ 32745 ∷ 32762 ∷ 32766 ∷ 32767 ∷ [])
    (cond (set == 2) (5638 ∷ 15915 ∷ 23689 ∷ 28571 ∷ 31116 ∷ 32217 ∷ 32613 ∷ 32731 ∷ 32760 ∷ 32766 ∷ 32767 ∷ [])
    (9142 ∷ 23462 ∷ 30338 ∷ 32361 ∷ 32725 ∷ 32765 ∷ 32767 ∷ []))
