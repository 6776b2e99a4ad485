-- How the words of a hasher change as bytes come in.
use Rattle.std.proofs.Common.{◌≡◌, ℕ, suc, ◌+◌, ◌-◌, ◌/◌, ◌%◌, ◌^◌, ◌<◌, ◌≤◌, List, [], ◌∷◌, ◌++◌, length, take, drop, get_or, sym, refl, ap, ap₂, ◌∙◌, append_assoc, arith, length-append, length-take}
use borrow.Rule.Slice.PartMut.{put_mid}
use Rattle.std.specs.List.{concat}
use Rattle.std.proofs.lemmas.List.Concat.{concat_is}
use Rattle.std.proofs.lemmas.Simd.{length-chunk, chunk-drop}
use Rattle.std.proofs.lemmas.List.{take_at, drop_at, take_rest, take_more, take-append-drop, drop-drop, drop_all, append-nil, flat_map_more}
use Rattle.std.proofs.lemmas.Slice.{take-put_mid}
use Rattle.sha512.specs.Sha512.{compressed}
use Rattle.sha512.specs.declared.hasher.Hasher.{Hasher}
use Rattle.sha512.specs.Hash.{blocks, absorbed}
use Rattle.sha512.specs.Hashing.{after, HasTaken}

pub absorbed_none : (h : List ℕ) → absorbed h [] ≡ h
unfolding absorbed blocks
absorbed_none h = refl

pub absorbed_block : (h b x : List ℕ) → length b ≡ 128 → absorbed h (b ++ x) ≡ absorbed (compressed h b) x
unfolding absorbed blocks
absorbed_block h b x long =
    let e : length (b ++ x) / 128 ≡ suc (length x / 128) = simp length-append (omega arith) in
    ap (λ n. blocks h n (b ++ x)) e
    ∙ ap₂ (λ p q. blocks (compressed h p) (length x / 128) q) (take_at b x 128 long) (drop_at b x 128 long)

-- ---- bytes that a block has room for

module _ (h block bytes ys : List ℕ) (total f k : ℕ) (at : f ≡ total % 128) (long : length block ≡ 128) (same : ys ≡ bytes) where
  -- the block does not become full
  pub few_held : f + length bytes < 128 → (y : List ℕ)
      → absorbed h (take ((total + length bytes) % 2 ^ 64 % 128) (put_mid f k block ys) ++ y) ≡ absorbed h (take (total % 128) block ++ (bytes ++ y))
  few_held lt y =
      let e : (total + length bytes) % 2 ^ 64 % 128 ≡ f + length ys = omega (arith, ap length same) in
      let held : take ((total + length bytes) % 2 ^ 64 % 128) (put_mid f k block ys) ≡ take f block ++ ys = take-put_mid f k block ys _ e (omega arith) in
      ap (λ z. absorbed h (z ++ y)) (held ∙ ap₂ (λ n z. take n block ++ z) at same)
      ∙ ap (absorbed h) (append_assoc (take (total % 128) block) bytes y)

  whole_block : f + length bytes ≡ 128 → k ≡ length bytes → put_mid f k block ys ≡ take (total % 128) block ++ bytes
  whole_block full n =
      ap (λ z. take f block ++ (ys ++ z)) (drop-drop k f block ∙ drop_all (f + k) block (omega arith))
      ∙ ap (λ z. take f block ++ z) (append-nil ys ∙ same) ∙ ap (λ n. take n block ++ bytes) at

  -- the block becomes full
  pub few_filled : (h' : List ℕ) → f + length bytes ≡ 128 → k ≡ length bytes → h' ≡ compressed h (put_mid f k block ys)
      → (y : List ℕ) → absorbed h' (take ((total + length bytes) % 2 ^ 64 % 128) (put_mid f k block ys) ++ y) ≡ absorbed h (take (total % 128) block ++ (bytes ++ y))
  few_filled h' full n is y =
      let l : length (put_mid f k block ys) ≡ 128 =
      ap length (whole_block full n) ∙ simp (length-append, length-take) (omega arith) in
      let e : (total + length bytes) % 2 ^ 64 % 128 ≡ 0 = omega arith in
      ap (λ n. absorbed h' (take n (put_mid f k block ys) ++ y)) e ∙ ap (λ z. absorbed z y) is
      ∙ sym (absorbed_block h (put_mid f k block ys) y l)
      ∙ ap (λ z. absorbed h (z ++ y)) (whole_block full n)
      ∙ ap (absorbed h) (append_assoc (take (total % 128) block) bytes y)

-- ---- blocks straight from a slice, and one part after the other

pub taken_block : (s s' : Hasher) (block : List ℕ) → s.total % 128 ≡ 0 → length block ≡ 128 → s'.words ≡ compressed s.words block
    → s'.total ≡ (s.total + 128) % 2 ^ 64 → HasTaken block s s'
unfolding after
taken_block s s' block none long words total =
    let none' : s'.total % 128 ≡ 0 = omega arith in
    record {
      words = λ y.
          ap₂ (λ h n. absorbed h (take n s'.block ++ y)) words none' ∙ sym (absorbed_block s.words block y long)
          ∙ ap (λ n. absorbed s.words (take n s.block ++ (block ++ y))) (sym none);
      total = total ∙ ap (λ (n : ℕ). (s.total + n) % 2 ^ 64) (sym long);
    }

pub taken_more : (x y : List ℕ) (s t u : Hasher) → HasTaken x s t → HasTaken y t u → HasTaken (x ++ y) s u
taken_more x y s t u a b = record {
  words = λ z. b.words z ∙ a.words (y ++ z) ∙ ap (after s) (sym (append_assoc x y z));
  total = omega (arith, a.total, b.total, length-append x y);
}

pub concat_more : (xss : List (List ℕ)) (i : ℕ) (d : List ℕ) → i < length xss → concat (take (i + 1) xss) ≡ concat (take i xss) ++ get_or xss i d
concat_more xss i d below =
    ap concat (take_more xss i d below) ∙ concat_is (take i xss ++ get_or xss i d ∷ [])
    ∙ sym (flat_map_more (λ x. x) [] (take i xss) (get_or xss i d)) ∙ ap (λ z. z ++ get_or xss i d) (sym (concat_is (take i xss)))

-- ---- blocks and parts of a slice, by their offsets

-- one block more
pub block_taken : (h bytes y : List ℕ) (i : ℕ) → i + 128 ≤ length bytes
    → absorbed (compressed h (take 128 (drop i bytes))) (drop (i + 128) bytes ++ y) ≡ absorbed h (drop i bytes ++ y)
block_taken h bytes y i le =
    sym (absorbed_block h (take 128 (drop i bytes)) (drop (i + 128) bytes ++ y) (length-chunk i 128 bytes le))
    ∙ ap (absorbed h) (sym (append_assoc (take 128 (drop i bytes)) (drop (i + 128) bytes) y) ∙ ap (λ z. z ++ y) (sym (chunk-drop i 128 bytes)))

-- a slice in three parts
module _ (bytes : List ℕ) (a b : ℕ) (le : a ≤ b) where
  pub three_parts : (y : List ℕ)
      → take (a - 0) bytes ++ (take (b - a) (drop a bytes) ++ (take (length bytes - b) (drop b bytes) ++ y)) ≡ bytes ++ y
  three_parts y =
      let first : a - 0 ≡ a = omega arith in
      let second : a + (b - a) ≡ b = omega arith in
      ap₂ (λ n z. take n bytes ++ (take (b - a) (drop a bytes) ++ (z ++ y))) first
      (take_rest bytes b ∙ ap (λ n. drop n bytes) (sym second) ∙ sym (drop-drop (b - a) a bytes))
      ∙ ap (λ z. take a bytes ++ z) (sym (append_assoc (take (b - a) (drop a bytes)) (drop (b - a) (drop a bytes)) y) ∙ ap (λ z. z ++ y) (take-append-drop (b - a) (drop a bytes)))
      ∙ sym (append_assoc (take a bytes) (drop a bytes) y) ∙ ap (λ z. z ++ y) (take-append-drop a bytes)

  -- their lengths, counted modulo 2 ^ 64
  pub three_lengths : (t t1 t2 t3 : ℕ) → b ≤ length bytes → t1 ≡ (t + length (take (a - 0) bytes)) % 2 ^ 64
      → t2 ≡ (t1 + length (take (b - a) (drop a bytes))) % 2 ^ 64 → t3 ≡ (t2 + length (take (length bytes - b) (drop b bytes))) % 2 ^ 64
      → t3 ≡ (t + length bytes) % 2 ^ 64
  three_lengths t t1 t2 t3 end e1 e2 e3 =
      let l1 : length (take (a - 0) bytes) ≡ a = simp length-take (omega arith) in
      let l2 : length (take (b - a) (drop a bytes)) ≡ b - a = length-chunk a (b - a) bytes (omega arith) in
      let l3 : length (take (length bytes - b) (drop b bytes)) ≡ length bytes - b = length-chunk b (length bytes - b) bytes (omega arith) in
      omega arith
