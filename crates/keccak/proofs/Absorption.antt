-- How the state that a sponge ends in is kept as it takes a text by blocks.
use Rattle.std.proofs.Common.{◌≡◌, ℕ, suc, ◌+◌, ◌-◌, ◌*◌, ◌/◌, ◌^◌, ◌<◌, lit<, add-zero, ◌≤◌, List, [], ◌∷◌, ◌++◌, length, get_or, take, drop, set, replicate, sym, ap, ◌∙◌, ap₂, append_assoc, add-one, arith, length-append, length-set}
use native.Mathlib.Nat.{add-div_left, div-eq_of_lt, div-mul-le_self, mul-le-mul_right}
use lib.Bits.{bit_xor}
use lib.Seq.{paste}
use borrow.Rule.Slice.PartMut.{put_mid}
use Rattle.std.proofs.lemmas.List.Edits.{take-paste}
use Rattle.std.proofs.lemmas.Simd.{length-chunk, chunk-drop}
use Rattle.std.specs.Int.{w64, from_le_bytes}
use Rattle.std.specs.Simd.{first_chunks}
use Rattle.std.proofs.lemmas.List.{get_or-take, get_or-drop, take_at, drop_at, take_all, take_more_set, drop_all, append-nil, length-take-le, length-drop}
use Rattle.digest.proofs.Chunks.{chunk_at}
use Rattle.keccak.specs.Sponge.{lane_of, absorbed, absorbs, suffixed, padded, sponge}

-- byte k of word i of a block
word_byte : (n : ℕ) (b : List ℕ) (i k : ℕ) → i < n → k < 8 → get_or (get_or (first_chunks 8 n b) i []) k 0 ≡ get_or b (8 * i + k) 0
word_byte n b i k h l =
    let e : i * 8 + k ≡ 8 * i + k = omega arith in
    ap (λ w. get_or w k 0) (chunk_at 8 n b i [] h) ∙ get_or-take 8 (drop (i * 8) b) k 0 l ∙ get_or-drop (i * 8) b k 0 ∙ ap (λ j. get_or b j 0) e

-- word i of a block, as a number, is lane i
pub word_lane : (n : ℕ) (b : List ℕ) (i x : ℕ) → i < n → x ≡ from_le_bytes w64 (get_or (first_chunks 8 n b) i []) → x ≡ lane_of b i
unfolding lane_of
word_lane n b i x h is =
    let byte = word_byte n b i in
    let e : get_or b (8 * i + 0) 0 ≡ get_or b (8 * i) 0 = ap (λ j. get_or b j 0) (add-zero (8 * i)) in
    is ∙ (λ z. (byte 0 h (lit< tt) ∙ e) z + byte 1 h (lit< tt) z * 2 ^ 8 + byte 2 h (lit< tt) z * 2 ^ 16 + byte 3 h (lit< tt) z * 2 ^ 24
    + byte 4 h (lit< tt) z * 2 ^ 32 + byte 5 h (lit< tt) z * 2 ^ 40 + byte 6 h (lit< tt) z * 2 ^ 48 + byte 7 h (lit< tt) z * 2 ^ 56)

-- a whole block first
pub whole : (r : ℕ) (s b x : List ℕ) → 0 < r → length b ≡ r → sponge r s (b ++ x) ≡ sponge r (absorbed r s b) x
unfolding sponge absorbs
whole r s b x some h =
    let e : length (b ++ x) / r ≡ suc (length x / r) =
    ap (λ n. n / r) (length-append b x ∙ ap (λ n. n + length x) h) ∙ add-div_left (length x) some ∙ add-one (length x / r) in
    ap (λ k. absorbs r s k (b ++ x)) e ∙ ap₂ (λ p q. absorbs r (absorbed r s p) (length x / r) q) (take_at b x r h) (drop_at b x r h)

-- block i of the bytes, absorbed straight from them
pub block_absorbed : (r : ℕ) (s t bytes x b : List ℕ) (i : ℕ) → 0 < r → i < length bytes / r
    → b ≡ get_or (first_chunks r (length bytes / r) bytes) i b → t ≡ absorbed r s b
    → sponge r t (drop ((i + 1) * r) bytes ++ x) ≡ sponge r s (drop (i * r) bytes ++ x)
block_absorbed r s t bytes x b i some h is taken =
    let up : i + 1 ≤ length bytes / r = omega arith in
    let le : i * r + r ≤ length bytes = omega (arith, mul-le-mul_right r up, div-mul-le_self (length bytes) r) in
    let e : (i + 1) * r ≡ i * r + r = omega arith in
    let here : b ≡ take r (drop (i * r) bytes) = is ∙ chunk_at r (length bytes / r) bytes i b h in
    let rest : List ℕ = drop (i * r + r) bytes in
    ap₂ (λ u n. sponge r u (drop n bytes ++ x)) taken e
    ∙ sym (whole r s b (rest ++ x) some (ap length here ∙ length-chunk (i * r) r bytes le))
    ∙ ap (sponge r s) (sym (append_assoc b rest x) ∙ ap (λ z. z ++ x) (ap (λ z. z ++ rest) here ∙ sym (chunk-drop (i * r) r bytes)))

-- the bytes that wait, after more were put behind them
pub waiting : (block bytes : List ℕ) (at : ℕ) → at ≤ length block → take (at + length bytes) (paste block at bytes (length bytes)) ≡ take at block ++ bytes
waiting block bytes at le =
    take-paste block at bytes (length bytes) le (omega arith) ∙ ap (λ z. take at block ++ z) (take_all (length bytes) bytes (omega arith))

-- the bytes that fill the block are absorbed with it, then whole blocks, and the rest waits
pub many_taken : (r : ℕ) (s t u block head rest last full final bytes x : List ℕ) (filled : ℕ)
    → 0 < r → length block ≡ r → filled + length head ≡ r → bytes ≡ head ++ rest
    → full ≡ paste block filled head (length head) → length full ≡ r → t ≡ absorbed r s full
    → ((y : List ℕ) → sponge r u (last ++ y) ≡ sponge r t (rest ++ y)) → final ≡ paste full 0 last (length last)
    → sponge r u (take (length last) final ++ x) ≡ sponge r s (take filled block ++ (bytes ++ x))
many_taken r s t u block head rest last full final bytes x filled some wide fills parts is_full long taken blocks is_final =
    let z : 0 + length last ≡ length last = omega arith in
    let w : take (length last) final ≡ last = ap (λ k. take k final) (sym z) ∙ ap (take (0 + length last)) is_final ∙ waiting full last 0 (omega arith) in
    let f : full ≡ take filled block ++ head =
    sym (take_all r full (omega arith)) ∙ ap (take r) is_full ∙ ap (λ k. take k (paste block filled head (length head))) (sym fills) ∙ waiting block head filled (omega arith) in
    ap (λ v. sponge r u (v ++ x)) w ∙ blocks x ∙ ap (λ v. sponge r v (rest ++ x)) taken
    ∙ sym (whole r s full (rest ++ x) some long)
    ∙ ap (λ v. sponge r s (v ++ (rest ++ x))) f
    ∙ ap (sponge r s) (append_assoc (take filled block) head (rest ++ x) ∙ ap (λ v. take filled block ++ v) (sym (append_assoc head rest x) ∙ ap (λ v. v ++ x) (sym parts)))

-- ---- the last block

-- the block, with 31 and then zeros written behind the bytes that wait
pub filled_up : (r : ℕ) (block zeros : List ℕ) (n k : ℕ) → n < r → length block ≡ r → k ≡ r - (n + 1) → zeros ≡ replicate k 0
    → put_mid (n + 1) k (set block n 31) zeros ≡ suffixed r (take n block)
filled_up r block zeros n k h long is e =
    let xs : List ℕ = set block n 31 in
    let l : length xs ≡ length block = length-set block n 31 in
    let none : drop k (drop (n + 1) xs) ≡ [] = drop_all k (drop (n + 1) xs) (omega (arith, length-drop (n + 1) xs)) in
    let j : k ≡ r - 1 - length (take n block) = omega (arith, length-take-le n block (omega arith)) in
    let tail : zeros ++ drop k (drop (n + 1) xs) ≡ replicate (r - 1 - length (take n block)) 0 =
    ap (λ v. zeros ++ v) none ∙ append-nil zeros ∙ e ∙ ap (λ m. replicate m 0) j in
    ap₂ (λ u v. u ++ v) (take_more_set block n 31 (omega arith)) tail
    ∙ append_assoc (take n block) (31 ∷ []) (replicate (r - 1 - length (take n block)) 0)

-- fewer bytes than a block are padded and absorbed
last_absorbed : (r : ℕ) (s m : List ℕ) → length m < r → absorbed r s (padded r m) ≡ sponge r s m
unfolding sponge absorbs
last_absorbed r s m h = let e : length m / r ≡ 0 = div-eq_of_lt h in ap (λ k. absorbs r s k m) (sym e)

-- the bytes that wait are padded and absorbed
pub closed : (r : ℕ) (s t block b : List ℕ) (n : ℕ) → n < r → length block ≡ r → b ≡ suffixed r (take n block)
    → t ≡ absorbed r s (set b (r - 1) (bit_xor (get_or b (r - 1) 0) 128)) → t ≡ sponge r s (take n block ++ [])
unfolding padded
closed r s t block b n lt long e taken =
    let held : List ℕ = take n block in
    taken ∙ ap (λ z. absorbed r s (set z (r - 1) (bit_xor (get_or z (r - 1) 0) 128))) e
    ∙ last_absorbed r s held (omega (arith, length-take-le n block (omega arith))) ∙ ap (sponge r s) (sym (append-nil held))
