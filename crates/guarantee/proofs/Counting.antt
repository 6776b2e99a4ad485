-- The ones of flags are the bits of their bytes.
use Rattle.std.proofs.Common.{◌≡◌, ℕ, zero, suc, ◌+◌, ◌-◌, ◌*◌, ◌/◌, ◌%◌, ◌<◌, ◌≤◌, List, map, length, get_or, take, sum_by, sym, refl, ap, ◌∙◌, inl, inr, add-one, arith}
use lib.Count as count
use Rattle.std.specs.List.{range_with_len}
use Rattle.std.proofs.lemmas.List.{take_all, get_or_past}
use Rattle.std.proofs.lemmas.List.FromFn.{sum_by-map-range_with_len_more}
use Rattle.std.proofs.lemmas.Bool.{cases_eq}
use Rattle.soundness.proofs.Indices.{ones_more_yes, ones_more_no}
use Rattle.protocol.specs.Flags.{bits, packed, ones, bits_set}

-- the sum of the first k flags
upto : List ℕ → ℕ → ℕ
upto f zero = 0
upto f (suc k) = upto f k + get_or f k 0

count_none : count.ones 0 ≡ 0
unfolding count.ones count.ones_in
count_none = refl

module _ (f : List ℕ) (small : (k : ℕ) → get_or f k 0 < 2) where
  count_bits : (at n : ℕ) → count.ones (bits f at n) + upto f at ≡ upto f (at + n)
  unfolding upto
  count_bits at zero =
      let none = count_none in
      let same : upto f at ≡ upto f (at + 0) = ap (upto f) (let z : at ≡ at + 0 = omega arith in z) in
      omega arith
  count_bits at (suc n) =
      let b = bits f (at + 1) n in
      let g : get_or f at 0 < 2 = small at in
      let one : count.ones (get_or f at 0 + 2 * b) ≡ (get_or f at 0 + 2 * b) % 2 + count.ones ((get_or f at 0 + 2 * b) / 2) = count.ones_step (get_or f at 0 + 2 * b) in
      let low : (get_or f at 0 + 2 * b) % 2 ≡ get_or f at 0 = omega arith in
      let half : count.ones ((get_or f at 0 + 2 * b) / 2) ≡ count.ones b = ap count.ones (let z : (get_or f at 0 + 2 * b) / 2 ≡ b = omega arith in z) in
      let next : upto f (at + 1) ≡ upto f at + get_or f at 0 = ap (upto f) (add-one at) in
      let rest : count.ones b + upto f (at + 1) ≡ upto f (at + 1 + n) = count_bits (at + 1) n in
      let same : upto f (at + 1 + n) ≡ upto f (at + suc n) = ap (upto f) (let z : at + 1 + n ≡ at + suc n = omega arith in z) in
      omega arith

  sum_bytes : (n : ℕ) → sum_by count.ones (map (λ b. bits f (8 * b) 8) (range_with_len 0 n)) ≡ upto f (8 * n)
  unfolding upto
  sum_bytes zero = refl
  sum_bytes (suc n) =
      let before : sum_by count.ones (map (λ b. bits f (8 * b) 8) (range_with_len 0 n)) ≡ upto f (8 * n) = sum_bytes n in
      let more : count.ones (bits f (8 * n) 8) + upto f (8 * n) ≡ upto f (8 * n + 8) = count_bits (8 * n) 8 in
      ap (λ k. sum_by count.ones (map (λ b. bits f (8 * b) 8) (range_with_len 0 k))) (sym (add-one n))
      ∙ sum_by-map-range_with_len_more count.ones (λ b. bits f (8 * b) 8) 0 n n (omega arith)
      ∙ (let z : sum_by count.ones (map (λ b. bits f (8 * b) 8) (range_with_len 0 n)) + count.ones (bits f (8 * n) 8) ≡ upto f (8 * n + 8) = omega arith in z)
      ∙ ap (upto f) (let z : 8 * n + 8 ≡ 8 * suc n = omega arith in z)

  upto_take : (k : ℕ) → k ≤ length f → upto f k ≡ ones (take k f)
  unfolding upto
  upto_take zero h = refl
  upto_take (suc k) h =
      let before : upto f k ≡ ones (take k f) = upto_take k (omega arith) in
      let g : get_or f k 0 < 2 = small k in
      elim (cases_eq (get_or f k 0) 1) [
        | inl is ↦
            let v : ones (take (suc k) f) ≡ ones (take k f) + 1 = ap (λ n. ones (take n f)) (sym (add-one k)) ∙ ones_more_yes f k (omega arith) is in omega arith
        | inr not ↦
            let v : ones (take (suc k) f) ≡ ones (take k f) = ap (λ n. ones (take n f)) (sym (add-one k)) ∙ ones_more_no f k (omega arith) not in
            let z : get_or f k 0 ≡ 0 = omega arith in omega arith
      ]

  upto_past : (d : ℕ) → upto f (length f + d) ≡ upto f (length f)
  unfolding upto
  upto_past zero = ap (upto f) (let z : length f + 0 ≡ length f = omega arith in z)
  upto_past (suc d) =
      ap (upto f) (let z : length f + suc d ≡ suc (length f + d) = omega arith in z)
      ∙ (let g : get_or f (length f + d) 0 ≡ 0 = get_or_past f (length f + d) 0 (omega arith) in let r = upto_past d in
      let z : upto f (length f + d) + get_or f (length f + d) 0 ≡ upto f (length f) = omega arith in z)

pub ones_packed : (f : List ℕ) (n : ℕ) → ((k : ℕ) → get_or f k 0 < 2) → length f ≤ 8 * n → bits_set (packed f n) ≡ ones f
unfolding packed
ones_packed f n small room =
    sum_bytes f small n
    ∙ ap (upto f) (let z : 8 * n ≡ length f + (8 * n - length f) = omega arith in z)
    ∙ upto_past f small (8 * n - length f)
    ∙ upto_take f small (length f) (omega arith)
    ∙ ap ones (take_all (length f) f (omega arith))
