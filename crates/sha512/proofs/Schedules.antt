-- The message schedule, word by word.
use Rattle.std.proofs.Common.{◌≡◌, ℕ, ◌+◌, ◌-◌, ◌*◌, ◌<◌, ◌≤◌, cond, ltb, List, [], ◌∷◌, ◌++◌, length, take, drop, get_or, set, sym, ap, ◌∙◌, add-one, arith}
use Rattle.std.specs.Int.{from_be_bytes, w64}
use Rattle.std.proofs.lemmas.Bool.{cond_below, cond_above}
use Rattle.std.proofs.lemmas.List.{get_or-take, get_or-drop, take_more_set}
use Rattle.sha512.specs.Sha512.{block_word, next_word, schedule}

byte : (b : List ℕ) (t i j : ℕ) → i < 8 → t * 8 + i ≡ j → get_or (take 8 (drop (t * 8) b)) i 0 ≡ get_or b j 0
byte b t i j below at = get_or-take 8 (drop (t * 8) b) i 0 below ∙ get_or-drop (t * 8) b i 0 ∙ ap (λ k. get_or b k 0) at

pub block_word_is : (b : List ℕ) (t : ℕ) → from_be_bytes w64 (take 8 (drop (t * 8) b)) ≡ block_word b t
unfolding block_word
block_word_is b t =
    let b0 = byte b t 0 (8 * t) (omega arith) (omega arith) in
    let b1 = byte b t 1 (8 * t + 1) (omega arith) (omega arith) in
    let b2 = byte b t 2 (8 * t + 2) (omega arith) (omega arith) in
    let b3 = byte b t 3 (8 * t + 3) (omega arith) (omega arith) in
    let b4 = byte b t 4 (8 * t + 4) (omega arith) (omega arith) in
    let b5 = byte b t 5 (8 * t + 5) (omega arith) (omega arith) in
    let b6 = byte b t 6 (8 * t + 6) (omega arith) (omega arith) in
    let b7 = byte b t 7 (8 * t + 7) (omega arith) (omega arith) in
    rw (b0, b1, b2, b3, b4, b5, b6, b7)

next_take : (w : List ℕ) (n : ℕ) → 16 ≤ n → next_word (take n w) n ≡ next_word w n
unfolding next_word
next_take w n h =
    let a : n - 2 < n = omega arith in
    let b : n - 7 < n = omega arith in
    let c : n - 15 < n = omega arith in
    let d : n - 16 < n = omega arith in
    rw (get_or-take n w (n - 2) 0 a, get_or-take n w (n - 7) 0 b, get_or-take n w (n - 15) 0 c, get_or-take n w (n - 16) 0 d)

more : (b w : List ℕ) (n x : ℕ) → n < length w → take n w ≡ schedule b n → x ≡ cond (ltb n 16) (block_word b n) (next_word (take n w) n)
    → take (n + 1) (set w n x) ≡ schedule b (n + 1)
unfolding schedule
more b w n x lt inv is =
    let f : List ℕ → List ℕ = λ u. u ++ cond (ltb n 16) (block_word b n) (next_word u n) ∷ [] in
    take_more_set w n x lt ∙ ap (λ y. take n w ++ y ∷ []) is ∙ ap f inv ∙ ap (schedule b) (sym (add-one n))

-- a word of the block, and a word made of those before it
pub schedule_block : (b w : List ℕ) (n x : ℕ) → n < length w → n < 16 → take n w ≡ schedule b n → x ≡ block_word b n
    → take (n + 1) (set w n x) ≡ schedule b (n + 1)
schedule_block b w n x lt low inv is = more b w n x lt inv (is ∙ cond_below n 16 (block_word b n) (next_word (take n w) n) low)

pub schedule_next : (b w : List ℕ) (n x : ℕ) → n < length w → 16 ≤ n → take n w ≡ schedule b n → x ≡ next_word w n
    → take (n + 1) (set w n x) ≡ schedule b (n + 1)
schedule_next b w n x lt high inv is =
    more b w n x lt inv (cond_above n 16 (block_word b n) (next_word (take n w) n) x high (is ∙ sym (next_take w n high)))
