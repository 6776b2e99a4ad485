-- Hexadecimal text: two digits a byte, the high half first.
use Rattle.std.specs.Prelude.{◌≡◌, ℕ, ◌+◌, ◌-◌, ◌*◌, ◌/◌, ◌%◌, ◌<◌, Bool, cond, List, [], ◌∷◌, ◌++◌, length, is_some, Some, None, codes, decimal, Option, nat_lt}
use Rattle.std.specs.Int.{is_in_range}
use Rattle.std.specs.List.{flat_map, prefix_len, AllByRecursion}
use Rattle.hexadecimal.specs.declared.reading.DecodeError.{DecodeError}
use Rattle.hexadecimal.specs.declared.reading.DecodeError.TheVariants.{OddLength, NotADigit, NoMemory}

-- the digit of a number below 16, lower-case, as a character code
abbrev pub digit : ℕ → ℕ
digit v = cond (nat_lt v 10) (48 + v) (87 + v)

-- the two digits of a byte, and those of bytes
abbrev pub digits : ℕ → List ℕ
digits b = digit (b / 16) ∷ digit (b % 16) ∷ []

abbrev pub digits_of : List ℕ → List ℕ
digits_of bs = flat_map digits bs

-- what a character stands for, if it is a digit: 0-9, a-f or A-F
abbrev pub value : ℕ → Option ℕ
value c = cond (is_in_range 48 57 c) (Some (c - 48)) (cond (is_in_range 97 102 c) (Some (c - 87)) (cond (is_in_range 65 70 c) (Some (c - 55)) None))

abbrev pub is_digit : ℕ → Bool
is_digit c = is_some (value c)

-- a byte by its halves, before other bytes
abbrev pub byte_before : Option ℕ → Option ℕ → Option (List ℕ) → Option (List ℕ)
byte_before None l bs = None
byte_before (Some h) None bs = None
byte_before (Some h) (Some l) None = None
byte_before (Some h) (Some l) (Some bs) = Some ((16 * h + l) ∷ bs)

-- the bytes that a text writes; none if a character is no digit, or their number is odd
abbrev pub bytes_of : List ℕ → Option (List ℕ)
bytes_of [] = Some []
bytes_of (c ∷ []) = None
bytes_of (h ∷ l ∷ cs) = byte_before (value h) (value l) (bytes_of cs)

-- what is wrong with a text that writes no bytes: its first character that is no digit, and else its length
abbrev pub error_of : List ℕ → DecodeError
error_of text = cond (nat_lt (prefix_len is_digit text) (length text)) (NotADigit (prefix_len is_digit text)) OddLength

-- a text is refused for e
abbrev pub Refused : List ℕ → DecodeError → Type 0
Refused text e = (bytes_of text ≡ None) × (e ≡ error_of text)

-- what is printed of an error
abbrev pub error_line : DecodeError → List ℕ
error_line OddLength = codes "odd number of digits"
error_line (NotADigit at) = codes "no digit at " ++ decimal at
error_line NoMemory = codes "no memory"

-- reading gives back what was written
abbrev pub ReadsBack : Type 0
ReadsBack = (bs : List ℕ) → AllByRecursion (λ b. b < 256) bs → bytes_of (digits_of bs) ≡ Some bs
