-- What a hasher means.
use Rattle.std.specs.Prelude.{◌≡◌, ℕ, ◌+◌, ◌%◌, ◌^◌, List, ◌++◌, length, take}
use Rattle.sha512.specs.declared.hasher.Hasher.{Hasher}
use Rattle.sha512.specs.Hash.{padding, absorbed}

-- the bytes that wait for a block to be full
abbrev pub waiting : Hasher → List ℕ
waiting s = take (s.total % 128) s.block

-- the words after all whole blocks, if the bytes y follow
unfoldable pub after : Hasher → List ℕ → List ℕ
after s y = absorbed s.words (waiting s ++ y)

-- the words of the hash, if the bytes x follow and the text ends with them
unfoldable pub ended : Hasher → List ℕ → List ℕ
ended s x = after s (x ++ padding (s.total + length x))

-- the hasher s' is s after it took the bytes
pub record HasTaken (bytes : List ℕ) (s s' : Hasher) : Type 0 where
  pub words : (y : List ℕ) → after s' y ≡ after s (bytes ++ y)
  pub total : s'.total ≡ (s.total + length bytes) % 2 ^ 64
