-- A header's bytes and its numbers give each other back.
use Rattle.std.proofs.Common.{◌≡◌, ℕ, ◌+◌, ◌*◌, ◌/◌, ◌%◌, ◌<◌, ◌≤◌, List, [], ◌∷◌, map, length, get_or, take, sym, ap, ◌∙◌, arith, length-take}
use Rattle.std.specs.List.{range_with_len}
use Rattle.std.proofs.lemmas.List.FromFn.{fill_by_all}
use Rattle.std.proofs.lemmas.List.{get_or-take}
use Rattle.protocol.specs.Bytes.{le16}
use Rattle.protocol.specs.Header.{parameters_of, header_bytes}

pub two_bytes : (b c : ℕ) → b < 256 → c < 256 → le16 (b + 256 * c) ≡ b ∷ c ∷ []
two_bytes b c hb hc =
    let low : (b + 256 * c) % 256 ≡ b = omega arith in
    let upper : (b + 256 * c) / 256 ≡ c = omega arith in
    let below : c % 256 ≡ c = omega arith in
    let high : (b + 256 * c) / 256 % 256 ≡ c = ap (λ t. t % 256) upper ∙ below in
    cc

spelled : (bytes : List ℕ) (n : ℕ) → n ≤ length bytes → take n bytes ≡ map (λ k. get_or bytes k 0) (range_with_len 0 n)
spelled bytes n h = fill_by_all (λ k. get_or bytes k 0) (take n bytes) n 0 (length-take n bytes ∙ omega arith) (λ k less. get_or-take n bytes k 0 less)

pub read_back : (bytes : List ℕ) → 15 ≤ length bytes → ((i : ℕ) → get_or bytes i 0 < 256) →
    get_or bytes 0 0 ≡ 75 → get_or bytes 1 0 ≡ 80 → get_or bytes 2 0 ≡ 80 → header_bytes (parameters_of bytes) ≡ take 15 bytes
read_back bytes long small k p q =
    let at : ℕ → ℕ = λ i. get_or bytes i 0 in
    let version = two_bytes (at 3) (at 4) (small 3) (small 4) in
    let n = two_bytes (at 6) (at 7) (small 6) (small 7) in
    let m = two_bytes (at 9) (at 10) (small 9) (small 10) in
    let a = two_bytes (at 13) (at 14) (small 13) (small 14) in
    let all = spelled bytes 15 long in
    let same : header_bytes (parameters_of bytes) ≡ map at (range_with_len 0 15) = cc in
    same ∙ sym all
