-- What a challenger's streams choose: the kept values and the hidden parties.
use Rattle.std.specs.Prelude.{ℕ, zero, suc, ◌+◌, ◌-◌, ◌*◌, ◌%◌, cond, List, map, replicate, ◌==◌, slice_index, slice_set}
use Rattle.std.specs.List.{range_with_len}

-- n bytes of a stream from a place on as a number, the low byte first
abbrev pub little : (ℕ → ℕ) → ℕ → ℕ → ℕ
little s at zero = 0
little s at (suc n) = s at + 256 * little s (at + 1) n

-- value t is kept, or value j if t is kept already
abbrev pub keep : List ℕ → ℕ → ℕ → List ℕ
keep flags j t = slice_set flags (cond (slice_index flags t == 1) j t) 1

-- the flags after the first i of σ draws: draw i goes with j = M - σ + i, and names t = draw mod (j + 1)
abbrev pub picks : (ℕ → ℕ) → ℕ → ℕ → ℕ → List ℕ
picks draw m sigma zero = replicate m 0
picks draw m sigma (suc i) = let j = m - sigma + i in keep (picks draw m sigma i) j (draw i % (j + 1))

-- M flags, 1 if kept, from eight bytes of the stream a draw
unfoldable pub selected : (ℕ → ℕ) → ℕ → ℕ → List ℕ
selected s m sigma = picks (λ i. little s (8 * i) 8) m sigma sigma

-- one byte of the stream for each repetition, mod N
unfoldable pub hidden_parties : (ℕ → ℕ) → ℕ → ℕ → List ℕ
hidden_parties s n tau = map (λ e. s e % n) (range_with_len 0 tau)
