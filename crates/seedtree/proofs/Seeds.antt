-- Seeds in words, two bytes a word.
use Rattle.std.proofs.Common.{◌≡◌, ℕ, ◌+◌, ◌-◌, ◌*◌, ◌<◌, ◌≤◌, ◌⊎◌, List, [], ◌∷◌, ◌++◌, length, get_or, take, drop, set, sym, ap, ◌∙◌, inl, inr, arith}
use Rattle.std.specs.List.{flat_map}
use borrow.Rule.Slice.PartMut.{put_mid}
use Rattle.std.proofs.lemmas.List.{append_assoc, flat_map_more, drop-take, length-set, take_more, take_more_set}
use Rattle.std.proofs.lemmas.Slice.{take-put_mid_below, between-put_mid, drop-put_mid}
use Rattle.std.proofs.lemmas.Bool.{cases_lt}
use Rattle.protocol.specs.Bytes.{part, le16}
use Rattle.protocol.proofs.Heads.{two_bytes}
use Rattle.seedtree.specs.Words.{seed_in, Stored}

-- two more bytes, read and written
take-two : (xs : List ℕ) (i : ℕ) → 2 * i + 1 < length xs → take (2 * (i + 1)) xs ≡ take (2 * i) xs ++ (get_or xs (2 * i) 0 ∷ get_or xs (2 * i + 1) 0 ∷ [])
take-two xs i h =
    ap (λ n. take n xs) (let e : 2 * (i + 1) ≡ 2 * i + 1 + 1 = omega arith in e)
    ∙ take_more xs (2 * i + 1) 0 h
    ∙ ap (λ ys. ys ++ get_or xs (2 * i + 1) 0 ∷ []) (take_more xs (2 * i) 0 (omega arith))
    ∙ append_assoc (take (2 * i) xs) (get_or xs (2 * i) 0 ∷ []) (get_or xs (2 * i + 1) 0 ∷ [])

set_two : (xs : List ℕ) (i a b : ℕ) → 2 * i + 1 < length xs → take (2 * (i + 1)) (set (set xs (2 * i) a) (2 * i + 1) b) ≡ take (2 * i) xs ++ (a ∷ b ∷ [])
set_two xs i a b h =
    ap (λ n. take n (set (set xs (2 * i) a) (2 * i + 1) b)) (let e : 2 * (i + 1) ≡ 2 * i + 1 + 1 = omega arith in e)
    ∙ take_more_set (set xs (2 * i) a) (2 * i + 1) b (simp length-set h)
    ∙ ap (λ ys. ys ++ b ∷ []) (take_more_set xs (2 * i) a (omega arith))
    ∙ append_assoc (take (2 * i) xs) (a ∷ []) (b ∷ [])

-- the bytes of one word more
pub loaded_more : (row seed : List ℕ) (i : ℕ) (pair : List ℕ) → i < length row → 2 * i + 1 < length seed → pair ≡ le16 (get_or row i 0) →
    take (2 * i) seed ≡ flat_map le16 (take i row) → take (2 * (i + 1)) (set (set seed (2 * i) (get_or pair 0 0)) (2 * i + 1) (get_or pair 1 0)) ≡ flat_map le16 (take (i + 1) row)
loaded_more row seed i pair h room is was =
    set_two seed i (get_or pair 0 0) (get_or pair 1 0) room
    ∙ (λ z. was z ++ (get_or (is z) 0 0 ∷ get_or (is z) 1 0 ∷ []))
    ∙ flat_map_more le16 [] (take i row) (get_or row i 0)
    ∙ ap (flat_map le16) (sym (take_more row i 0 h))

-- the word of two bytes more
pub stored_more : (row seed : List ℕ) (i word : ℕ) → i < length row → 2 * i + 1 < length seed → ((k : ℕ) → get_or seed k 0 < 256) →
    word ≡ get_or seed (2 * i) 0 + get_or seed (2 * i + 1) 0 * 256 → flat_map le16 (take i row) ≡ take (2 * i) seed →
    flat_map le16 (take (i + 1) (set row i word)) ≡ take (2 * (i + 1)) seed
stored_more row seed i word h room small is was =
    ap (flat_map le16) (take_more_set row i word h)
    ∙ sym (flat_map_more le16 [] (take i row) word)
    ∙ (λ z. was z ++ two z)
    ∙ sym (take-two seed i room)
  where
    two : le16 word ≡ get_or seed (2 * i) 0 ∷ get_or seed (2 * i + 1) 0 ∷ []
    two = ap le16 (let e : word ≡ get_or seed (2 * i) 0 + 256 * get_or seed (2 * i + 1) 0 = omega arith in e) ∙ two_bytes (get_or seed (2 * i) 0) (get_or seed (2 * i + 1) 0) (small (2 * i)) (small (2 * i + 1))

-- the words of one seed are written, and no other seed is
pub stored_row : (words row seed : List ℕ) (k : ℕ) → 16 * k + 16 ≤ length words → length row ≡ 16 → flat_map le16 row ≡ seed →
    Stored k seed words (put_mid (16 * k) (16 * k + 16 - 16 * k) words row)
unfolding seed_in
stored_row words row seed k room long is = record {
  here =
      ap (λ n. flat_map le16 (take n (drop (16 * k) new))) (let n : 16 ≡ 16 * k + 16 - 16 * k = omega arith in n)
      ∙ ap (flat_map le16) (between-put_mid (16 * k) (16 * k + 16 - 16 * k) words row (16 * k + 16) (omega arith) (omega arith))
      ∙ is;
  elsewhere = λ j not. ap (flat_map le16) (same j not (cases_lt j k));
}
  where
    new : List ℕ
    new = put_mid (16 * k) (16 * k + 16 - 16 * k) words row

    same : (j : ℕ) → (j ≡ k → ⊥) → (j < k) ⊎ (k ≤ j) → part new (16 * j) 16 ≡ part words (16 * j) 16
    same j not (inl before) =
        sym (drop-take (16 * j) 16 new)
        ∙ ap (drop (16 * j)) (take-put_mid_below (16 * k) (16 * k + 16 - 16 * k) words row (16 * j + 16) (omega arith) (omega arith))
        ∙ drop-take (16 * j) 16 words
    same j not (inr behind) = ap (take 16) (drop-put_mid (16 * k) (16 * k + 16 - 16 * k) words row (16 * j) (omega arith) (omega arith) (omega arith))
