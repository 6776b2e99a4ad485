-- Lanes, and the sums of columns, by the places that the rounds read.
use Rattle.std.proofs.Common.{◌≡◌, ℕ, ◌+◌, ◌*◌, ◌%◌, ◌<◌, List, get_or, ap, ◌∙◌, arith}
use Rattle.std.specs.Prelude.{bit_xor}
use Rattle.keccak.specs.Keccak.{lane, parity}

-- a lane by its place
pub lane_at : (a : List ℕ) (x y : ℕ) → x < 5 → y < 5 → get_or a (5 * y + x) 0 ≡ lane a x y
lane_at a x y lx ly = let e : 5 * y + x ≡ 5 * (y % 5) + x % 5 = omega arith in ap (λ k. get_or a k 0) e

-- the sum of a column
pub column_sum : (a : List ℕ) (x s : ℕ) → x < 5
    → s ≡ bit_xor (bit_xor (bit_xor (bit_xor (get_or a x 0) (get_or a (x + 5) 0)) (get_or a (x + 10) 0)) (get_or a (x + 15) 0)) (get_or a (x + 20) 0)
    → s ≡ parity a x
column_sum a x s h is =
    let at0 : x ≡ 5 * 0 + x % 5 = omega arith in
    let at1 : x + 5 ≡ 5 * 1 + x % 5 = omega arith in
    let at2 : x + 10 ≡ 5 * 2 + x % 5 = omega arith in
    let at3 : x + 15 ≡ 5 * 3 + x % 5 = omega arith in
    let at4 : x + 20 ≡ 5 * 4 + x % 5 = omega arith in
    is ∙ (λ z. bit_xor (bit_xor (bit_xor (bit_xor (get_or a (at0 z) 0) (get_or a (at1 z) 0)) (get_or a (at2 z) 0)) (get_or a (at3 z) 0)) (get_or a (at4 z) 0))

-- columns are counted modulo 5
pub same_column : (a : List ℕ) (x : ℕ) → parity a (x % 5) ≡ parity a x
same_column a x = let e : x % 5 % 5 ≡ x % 5 = omega arith in
    ap (λ m. bit_xor (bit_xor (bit_xor (bit_xor (get_or a (5 * 0 + m) 0) (get_or a (5 * 1 + m) 0)) (get_or a (5 * 2 + m) 0)) (get_or a (5 * 3 + m) 0)) (get_or a (5 * 4 + m) 0)) e
