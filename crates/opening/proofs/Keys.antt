-- What is written of a key.
use Rattle.std.proofs.Common.{◌≡◌, ℕ, ◌-◌, ◌*◌, ◌≤◌, List, ◌++◌, map, length, take, drop, ap, ◌∙◌, arith}
use Rattle.std.specs.List.{range_with_len, flat_map}
use Rattle.std.proofs.lemmas.List.FromFn.{length-map-range_with_len, take-map-range_with_len}
use Rattle.std.proofs.lemmas.List.{length-append}
use Rattle.protocol.specs.Book.{wrote}
use Rattle.protocol.specs.Bytes.{le16}
use Rattle.protocol.specs.Flags.{kept_index}
use Rattle.protocol.specs.Parameters.{Parameters}
use Rattle.lattice.specs.Lines.{at}
use Rattle.shares.specs.Shown.{product_of}
use Rattle.shares.proofs.Rows.{length-coded}
use Rattle.opening.specs.Keys.{secret_words, public_words, key_text}
use Rattle.opening.proofs.Writing.{wrote_both, wrote_front}

-- S is the first half of the kept values
pub secret_first : (p : Parameters) (flags values kept : List ℕ) (n k : ℕ) → kept ≡ map (λ m. at values (kept_index flags m)) (range_with_len 0 k) →
    n ≡ p.n * p.c → n ≤ k → take (n - 0) (drop 0 kept) ≡ secret_words p flags values
secret_first p flags values kept n k is e few =
    let f : ℕ → ℕ = λ m. at values (kept_index flags m) in
    (λ i. take (n - 0) (is i))
    ∙ take-map-range_with_len f 0 k (n - 0) (omega arith)
    ∙ ap (λ m. map f (range_with_len 0 m)) (let z : n - 0 ≡ p.n * p.c = omega arith in z)

module _ (p : Parameters) (seed_a flags values : List ℕ) where
  pub length-secret : length (flat_map le16 (secret_words p flags values)) ≡ 2 * (p.n * p.c)
  length-secret = omega (arith, length-coded (secret_words p flags values), length-map-range_with_len (λ m. at values (kept_index flags m)) 0 (p.n * p.c))

  pub length-public : length (flat_map le16 (public_words p seed_a flags values)) ≡ 2 * (p.n * p.c)
  length-public = omega (arith, length-coded (public_words p seed_a flags values), length-map-range_with_len (product_of p seed_a flags (at values)) 0 (p.n * p.c))

  -- S at the front, B behind it
  pub wrote_key : (next : ℕ) (old was out : List ℕ) → next ≡ 2 * (p.n * p.c) → was ≡ wrote 0 (flat_map le16 (secret_words p flags values)) old →
      out ≡ wrote next (flat_map le16 (public_words p seed_a flags values)) was → out ≡ key_text p seed_a flags values ++ drop (4 * (p.n * p.c)) old
  unfolding key_text
  wrote_key next old was out is first second =
      let s = flat_map le16 (secret_words p flags values) in
      let b = flat_map le16 (public_words p seed_a flags values) in
      second
      ∙ ap (wrote next b) first
      ∙ wrote_both 0 next s b old (omega (arith, length-secret)) (omega arith)
      ∙ wrote_front (4 * (p.n * p.c)) (s ++ b) old (omega (arith, length-append s b, length-secret, length-public))
