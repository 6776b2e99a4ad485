-- Flags, one for each value, 1 if it is kept: counting them, listing the kept and the audited ones, and flags as bits.
use Rattle.std.specs.Prelude.{◌≡◌, ℕ, zero, suc, ◌+◌, ◌*◌, ◌/◌, ◌%◌, ◌^◌, ◌<◌, cond, List, [], ◌∷◌, ◌++◌, map, length, take, sum_by, ◌==◌, slice_index}
use Rattle.std.specs.Int.Count as count
use Rattle.std.specs.List.{range_with_len}

-- how many values are kept
abbrev pub ones : List ℕ → ℕ
ones [] = 0
ones (b ∷ bs) = cond (b == 1) (suc (ones bs)) (ones bs)

-- the index of the kept value before which i others are kept
abbrev pub kept_index : List ℕ → ℕ → ℕ
kept_index [] i = 0
kept_index (b ∷ bs) zero = cond (b == 1) 0 (suc (kept_index bs zero))
kept_index (b ∷ bs) (suc i) = cond (b == 1) (suc (kept_index bs i)) (suc (kept_index bs (suc i)))

-- how many of the first k values are audited
abbrev pub audited_before : List ℕ → ℕ → ℕ
audited_before flags zero = 0
audited_before flags (suc k) = cond (slice_index flags k == 1) (audited_before flags k) (audited_before flags k + 1)

-- those of the first n values that are audited, in index order
abbrev pub audited_of : {V : Type 0} → List ℕ → (ℕ → V) → ℕ → List V
audited_of flags v zero = []
audited_of flags v (suc k) = cond (slice_index flags k == 1) (audited_of flags v k) (audited_of flags v k ++ (v k ∷ []))

-- eight flags from a place on as one byte, the first as its lowest bit
abbrev pub bits : List ℕ → ℕ → ℕ → ℕ
bits flags at zero = 0
bits flags at (suc n) = slice_index flags at + 2 * bits flags (at + 1) n

-- flags in n bytes; bits past the last flag are 0
unfoldable pub packed : List ℕ → ℕ → List ℕ
packed flags n = map (λ b. bits flags (8 * b) 8) (range_with_len 0 n)

-- m flags from bytes: flag k is bit k mod 8 of byte k div 8
unfoldable pub unpacked : List ℕ → ℕ → List ℕ
unpacked bytes m = map (λ k. slice_index bytes (k / 8) / 2 ^ (k % 8) % 2) (range_with_len 0 m)

-- the bits that are 1, counted byte by byte
abbrev pub bits_set : List ℕ → ℕ
bits_set bytes = sum_by count.ones bytes

-- `kept_index` lists the kept values in index order, each once
pub record ListsKept (flags : List ℕ) : Type 0 where
  pub within : (i : ℕ) → i < ones flags → kept_index flags i < length flags
  pub kept : (i : ℕ) → i < ones flags → slice_index flags (kept_index flags i) ≡ 1
  pub before : (i : ℕ) → i < ones flags → ones (take (kept_index flags i) flags) ≡ i
  pub each : (k : ℕ) → k < length flags → slice_index flags k ≡ 1 → kept_index flags (ones (take k flags)) ≡ k
