-- A selection, draw by draw.
use Rattle.std.proofs.Common.{◌≡◌, ℕ, suc, ◌+◌, ◌-◌, ◌*◌, ◌%◌, ◌<◌, ◌≤◌, List, length, get_or, ap, ◌∙◌, zero-add, arith}
use Rattle.std.proofs.lemmas.List.FromFn.{fill_by_all, length-map-range_with_len, get_or-map-range_with_len}
use Rattle.protocol.specs.Streams.{first_bytes}
use Rattle.protocol.specs.Selection.{little, keep, picks, selected, hidden_parties}

-- byte k of what was read, which stands at the place p of the stream
pub byte_is : (s : ℕ → ℕ) (at n : ℕ) (bytes : List ℕ) → bytes ≡ first_bytes (λ i. s (at + i)) n → (k p : ℕ) → k < n → at + k ≡ p → get_or bytes k 0 ≡ s p
unfolding first_bytes
byte_is s at n bytes e k p less place =
    ap (λ b. get_or b k 0) e ∙ get_or-map-range_with_len (λ i. s (at + i)) 0 n k k 0 less (omega arith) ∙ ap s place

-- the eight bytes read are the number
pub number_is : (s : ℕ → ℕ) (at x : ℕ) (bytes : List ℕ) → bytes ≡ first_bytes (λ i. s (at + i)) 8 →
    x ≡ get_or bytes 0 0 + get_or bytes 1 0 * 256 + get_or bytes 2 0 * 65536 + get_or bytes 3 0 * 16777216 + get_or bytes 4 0 * 4294967296
    + get_or bytes 5 0 * 1099511627776 + get_or bytes 6 0 * 281474976710656 + get_or bytes 7 0 * 72057594037927936 →
    x ≡ little s at 8
number_is s at x bytes e h =
    let b = byte_is s at 8 bytes e in
    omega (
      arith,
      h,
      b 0 (at) (omega arith) (omega arith),
      b 1 (at + 1) (omega arith) (omega arith),
      b 2 (at + 1 + 1) (omega arith) (omega arith),
      b 3 (at + 1 + 1 + 1) (omega arith) (omega arith),
      b 4 (at + 1 + 1 + 1 + 1) (omega arith) (omega arith),
      b 5 (at + 1 + 1 + 1 + 1 + 1) (omega arith) (omega arith),
      b 6 (at + 1 + 1 + 1 + 1 + 1 + 1) (omega arith) (omega arith),
      b 7 (at + 1 + 1 + 1 + 1 + 1 + 1 + 1) (omega arith) (omega arith),
    )

-- one draw more, for value j
pub picks_more : (draw : ℕ → ℕ) (m sigma j x : ℕ) (flags : List ℕ) → m - sigma ≤ j → flags ≡ picks draw m sigma (j - (m - sigma)) → x ≡ draw (j - (m - sigma)) →
    keep flags j (x % (j + 1)) ≡ picks draw m sigma (j + 1 - (m - sigma))
picks_more draw m sigma j x flags low e d =
    let at : j ≡ m - sigma + (j - (m - sigma)) = omega arith in
    let more : suc (j - (m - sigma)) ≡ j + 1 - (m - sigma) = omega arith in
    (λ z. keep (e z) (at z) (d z % (at z + 1))) ∙ ap (picks draw m sigma) more

-- all draws: the selection
pub picks_all : (s : ℕ → ℕ) (m sigma k : ℕ) (flags : List ℕ) → flags ≡ picks (λ i. little s (8 * i) 8) m sigma k → k ≡ sigma → flags ≡ selected s m sigma
unfolding selected
picks_all s m sigma k flags e h = e ∙ ap (picks (λ i. little s (8 * i) 8) m sigma) h

-- the bytes of the second answer, reduced, are the hidden parties
pub hidden_is : (s : ℕ → ℕ) (n tau : ℕ) (drawn out : List ℕ) → drawn ≡ first_bytes (λ i. s (0 + i)) tau → length out ≡ tau →
    ((k : ℕ) → k < length drawn → get_or out k 0 ≡ get_or drawn k 0 % n) → out ≡ hidden_parties s n tau
unfolding first_bytes hidden_parties
hidden_is s n tau drawn out e long each =
    fill_by_all (λ k. s k % n) out tau 0 long
    (λ k less. each k (let m = ap length e ∙ length-map-range_with_len (λ i. s (0 + i)) 0 tau in omega arith)
    ∙ ap (λ b. b % n) (byte_is s 0 tau drawn e k k less (zero-add k)))
