-- How long a repetition's part of a text is at most.
use Rattle.std.proofs.Common.{◌≡◌, ℕ, ◌+◌, ◌*◌, ◌≤◌, List, [], length, arith, pow_mono}
use Rattle.std.specs.List.{flat_map}
use Rattle.std.proofs.lemmas.List.FromFn.{length-map-range_with_len}
use Rattle.std.proofs.lemmas.List.{length-append}
use Rattle.protocol.specs.Bytes.{le16}
use Rattle.protocol.specs.Parameters.{Parameters, parties}
use Rattle.protocol.specs.Prover.{offsets, honest_part}
use Rattle.protocol.specs.Sharing.{parts, corrected}
use Rattle.protocol.specs.Streams.{Digest, first_bytes}
use Rattle.digest.proofs.Taking.{length-parts_most}
use Rattle.shares.specs.Shown.{most_shown, shown}
use Rattle.shares.proofs.Products.{shown_most}
use Rattle.shares.proofs.Rows.{length-coded}
use Rattle.sharing.specs.Parts.{scheme, holder, holder_commitments, holder_shares, most_committed}

few_parties : (p : Parameters) → p.h ≤ 8 → parties p ≤ 256
few_parties p h = pow_mono {i = p.h} {j = 8} h

module _ (F : Digest) (p : Parameters) (salt master : List ℕ) (depth : p.h ≤ 8) (few : 2 * (p.n * p.c) + 1 ≤ p.m) (most : p.m ≤ 32768) where
  commitments_most : (e : ℕ) → length (holder_commitments F p salt master e) ≤ most_committed
  unfolding holder_commitments first_bytes
  commitments_most e =
      let s = scheme F p in
      let k = holder F p salt master [] [] in
      let f : ℕ → List ℕ = λ j. s.commit salt e j (k.seed e j) in
      let long : length (offsets s k e) ≡ p.m = length-map-range_with_len _ 0 p.m in
      omega (
        arith,
        length-append (parts (parties p) f) (flat_map le16 (offsets s k e)),
        length-parts_most (parties p) 32 f (λ j. let all : 32 ≤ 32 = omega arith in all),
        length-coded (offsets s k e),
        few_parties p depth,
      )

  shares_most : (seed_a flags : List ℕ) (e : ℕ) → length (holder_shares F p salt master seed_a flags e) ≤ 256 * most_shown
  unfolding holder_shares shown
  shares_most seed_a flags e =
      let s = scheme F p in
      let k = holder F p salt master seed_a flags in
      omega (arith, length-parts_most (parties p) most_shown (honest_part s k e) (λ j. shown_most p seed_a flags (corrected s salt (offsets s k e) e j (k.seed e j)) few most), few_parties p depth)

  pub all_commitments_most : (n : ℕ) → length (parts n (holder_commitments F p salt master)) ≤ most_committed * n
  all_commitments_most n = length-parts_most n most_committed (holder_commitments F p salt master) commitments_most

  pub all_shares_most : (seed_a flags : List ℕ) (n : ℕ) → length (parts n (holder_shares F p salt master seed_a flags)) ≤ 256 * most_shown * n
  all_shares_most seed_a flags n = length-parts_most n (256 * most_shown) (holder_shares F p salt master seed_a flags) (shares_most seed_a flags)
