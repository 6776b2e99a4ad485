-- The fields of a checked record, from its bytes.
use Rattle.std.proofs.Common.{◌≡◌, ℕ, zero, suc, ◌+◌, ◌-◌, ◌*◌, ◌/◌, ◌%◌, ◌^◌, ◌<◌, ◌≤◌, false, eqb, List, [], length, get_or, take, drop, ℤ, pos, negsuc, sym, refl, ap, ◌∙◌, subst, inl, inr, add-one, arith}
use Rattle.std.specs.List.{range_with_len, flat_map, AllByRecursion}
use Rattle.std.proofs.lemmas.List.{get_or-take, get_or-drop, get_or-map, take_all}
use Rattle.std.proofs.ByRecursion.{All-from_get_or}
use Rattle.std.proofs.lemmas.List.FromFn.{get_or-map-range_with_len, length-map-range_with_len}
use Rattle.std.proofs.lemmas.Bool.{leb-false, ltb-false, cond-true, cond-false, cond_both, cases_Bool, cases_eq, eqb-true, ne_eqb, eqb-false}
use Rattle.std.proofs.lemmas.Nat.{mul-le}
use Rattle.protocol.specs.Parameters.{Parameters}
use Rattle.guarantee.proofs.Passing.{Passes, front, each_test, each_of}
use Rattle.guarantee.proofs.Keeping.{WellFormed}
use Rattle.soundness.proofs.Fitting.{length_part, read_fits}
use Rattle.soundness.proofs.Indices.{ones_more_yes, ones_more_no}
use Rattle.protocol.specs.Book.{body_tests, key_range_tests, audited_range_tests, offset_range_tests}
use Rattle.protocol.specs.Bytes.{word, part}
use Rattle.protocol.specs.Entry.{Entry, setting_of, transcript}
use Rattle.protocol.specs.Flags.{ones, audited_before}
use Rattle.protocol.specs.Guarantee.{audited_value}
use Rattle.protocol.specs.Header.{parameters_of}
use Rattle.protocol.specs.Layout.{block_length}
use Rattle.protocol.specs.Parameters.{modulus, bound, sigma}
use Rattle.protocol.specs.Texts.{text3}
use Rattle.protocol.specs.Sampling.{Within, beyond, signed}
use Rattle.protocol.specs.Scheme.{words, seeds_of, transcript_of}
use Rattle.protocol.specs.Sharing.{Fits, value_at}
use Rattle.protocol.specs.Streams.{Digest, first_bytes}
use Rattle.protocol.specs.Tree.{child, regrown, above}
use Rattle.guarantee.proofs.Offsets.{audited_at, block_at, key_at, offsets_at}

pub get_d_part : (r : List ℕ) (at n i : ℕ) → i < n → get_or (part r at n) i 0 ≡ get_or r (at + i) 0
get_d_part r at n i h = get_or-take n (drop at r) i 0 h ∙ get_or-drop at r i 0

pub words_at : (r : List ℕ) (at n k : ℕ) → k < n → get_or (words (part r at (2 * n)) n) k 0 ≡ word r (at + 2 * k)
words_at r at n k h =
    get_or-map-range_with_len _ 0 n k k 0 h (omega arith)
    ∙ (λ i. get_d_part r at (2 * n) (2 * k) (omega arith) i + 256 * (get_d_part r at (2 * n) (2 * k + 1) (omega arith) ∙ ap (λ z. get_or r z 0) (let z : at + (2 * k + 1) ≡ at + 2 * k + 1 = omega arith in z)) i)

-- the flags that are not 1, and those that are
unset_take : (flags : List ℕ) (k : ℕ) → k ≤ length flags → audited_before flags k + ones (take k flags) ≡ k
unset_take flags zero h = refl
unset_take flags (suc k) h =
    let before : audited_before flags k + ones (take k flags) ≡ k = unset_take flags k (omega arith) in
    elim (cases_Bool (eqb (get_or flags k 0) 1)) [
      | inl t ↦
          let u : audited_before flags (suc k) ≡ audited_before flags k = cond-true _ _ _ t in
          let v : ones (take (suc k) flags) ≡ ones (take k flags) + 1 = ap (λ n. ones (take n flags)) (sym (add-one k)) ∙ ones_more_yes flags k (omega arith) (eqb-true _ 1 t) in
          omega arith
      | inr t ↦
          let u : audited_before flags (suc k) ≡ audited_before flags k + 1 = cond-false _ _ _ t in
          let v : ones (take (suc k) flags) ≡ ones (take k flags) = ap (λ n. ones (take n flags)) (sym (add-one k)) ∙ ones_more_no flags k (omega arith) (eqb-false _ 1 t) in
          omega arith
    ]

pub unset_all : (flags : List ℕ) (m : ℕ) → length flags ≡ m → audited_before flags m + ones flags ≡ m
unset_all flags m h = ap (λ f. audited_before flags m + ones f) (sym (take_all m flags (omega arith))) ∙ unset_take flags m (omega arith)

pub unset_below : (flags : List ℕ) (k n : ℕ) → k < n → eqb (get_or flags k 0) 1 ≡ false → audited_before flags k < audited_before flags n
unset_below flags k zero q e = absurd (omega arith)
unset_below flags k (suc n) q e =
    elim (cases_eq k n) [
      | inl is ↦
          let u : audited_before flags (suc n) ≡ audited_before flags n + 1 = cond-false _ _ _ (ap (λ z. eqb (get_or flags z 0) 1) (sym is) ∙ e) in
          let v : audited_before flags k ≡ audited_before flags n = ap (audited_before flags) is in omega arith
      | inr not ↦
          let b : audited_before flags k < audited_before flags n = unset_below flags k n (omega arith) e in
          elim (cases_Bool (eqb (get_or flags n 0) 1)) [
            | inl t ↦ let u : audited_before flags (suc n) ≡ audited_before flags n = cond-true _ _ _ t in omega arith
            | inr t ↦ let u : audited_before flags (suc n) ≡ audited_before flags n + 1 = cond-false _ _ _ t in omega arith
          ]
    ]

pub within_from : (b : ℕ) (v : ℤ) → beyond b v ≡ false → Within b v
within_from b (pos a) e = ltb-false b a e
within_from b (negsuc a) e = ltb-false b (suc a) e

module _ (F X : Digest) (a : Entry) (c : WellFormed a) where
  abbrev r : List ℕ
  r = a.bytes

  abbrev x : Parameters
  x = parameters_of a.bytes

  tests : Passes (key_range_tests r x) × Passes (audited_range_tests r x) × Passes (flat_map (offset_range_tests r x) (range_with_len 0 x.tau))
  unfolding body_tests
  tests =
      let one = front (λ t. t.fails ≡ false) (key_range_tests r x) _ c.body in
      let two = front (λ t. t.fails ≡ false) (audited_range_tests r x) _ one.1 in
      (one.0, two.0, two.1)

  pub key_below : (i : ℕ) → i < x.n * x.c → word r (key_at x + 2 * i) < modulus x.set
  key_below i q = leb-false _ _ (each_test _ (x.n * x.c) tests.0 i q)

  pub offset_below : (e k : ℕ) → e < x.tau → k < x.m → word r (offsets_at x e + 2 * k) < modulus x.set
  offset_below e k q t = leb-false _ _ (each_test _ x.m (each_of (offset_range_tests r x) x.tau tests.2 e q) k t)

  pub audited_small : (i : ℕ) → i < x.m - sigma x → Within (bound x.set) (signed (get_or r (audited_at x + i) 0))
  audited_small i q = within_from _ _ (each_test _ (x.m - sigma x) tests.1 i q)

  pub key_is : (i : ℕ) → i < x.n * x.c → get_or (transcript F a).key i 0 ≡ word r (key_at x + 2 * i)
  unfolding transcript_of
  key_is i q = words_at r (key_at x) (x.n * x.c) i q

  pub offset_is : (e k : ℕ) → k < x.m → get_or ((transcript F a).offsets e) k 0 ≡ word r (offsets_at x e + 2 * k)
  unfolding transcript_of
  offset_is e k q = words_at r (offsets_at x e) x.m k q

  small_key : AllByRecursion (λ b. b < modulus x.set) (transcript F a).key
  unfolding transcript_of
  small_key = All-from_get_or (λ b. b < modulus x.set) (transcript F a).key 0
      (λ i q. let i<n : i < x.n * x.c = subst (λ n. i < n) (length-map-range_with_len _ 0 (x.n * x.c)) q in subst (λ z. z < modulus x.set) (sym (key_is i i<n)) (key_below i i<n))

  small_offsets : (e : ℕ) → e < x.tau → AllByRecursion (λ b. b < modulus x.set) ((transcript F a).offsets e)
  unfolding transcript_of
  small_offsets e t = All-from_get_or (λ b. b < modulus x.set) ((transcript F a).offsets e) 0
      (λ i q. let i<n : i < x.m = subst (λ n. i < n) (length-map-range_with_len _ 0 x.m) q in subst (λ z. z < modulus x.set) (sym (offset_is e i i<n)) (offset_below e i t i<n))

  pub fits : Fits (setting_of F X r) (transcript F a)
  fits = read_fits F X x (take 15 r) r a.hidden a.flags (record {
    bytes = c.long;
    enough = let z = c.facts.m_low in omega arith;
    flag_count = c.flags_long;
    chosen = c.flags_many;
    hidden_small = c.hidden;
    key_small = small_key;
    offsets_small = small_offsets;
  })

  -- the audited value of index k, in the record's bytes
  pub audited_is : (k : ℕ) → k < x.m → get_or a.flags k 0 ≡ 0 →
      (value_at (setting_of F X r) (transcript F a) k ≡ audited_value a k) × Within (bound x.set) (audited_value a k)
  unfolding transcript_of
  audited_is k q h =
      let i = audited_before a.flags k in
      let n = x.m - sigma x in
      let out : eqb (get_or a.flags k 0) 1 ≡ false = ne_eqb _ 1 (λ o. omega arith) in
      let less : i < audited_before a.flags x.m = unset_below a.flags k x.m q out in
      let all : audited_before a.flags x.m + ones a.flags ≡ x.m = unset_all a.flags x.m c.flags_long in
      let many : ones a.flags ≡ sigma x = c.flags_many in
      let i<n : i < n = omega arith in
      let end : audited_at x + n ≤ length r = let l = c.long in omega arith in (
        get_or-map signed (part r (audited_at x) n) i 0 (pos 0) (omega (arith, length_part r (audited_at x) n end))
            ∙ ap signed (get_d_part r (audited_at x) n i i<n),
        audited_small i i<n,
      )

  -- every seed that is regrown has 32 bytes
  length-child : (salt : List ℕ) (e node side : ℕ) (seed : List ℕ) → side < 2 → length (child F salt e node side seed) ≡ 32
  unfolding first_bytes
  length-child salt e node side seed h = length_part _ (32 * side) 32 (omega (arith, length-map-range_with_len (F (text3 salt e node seed)) 0 64))

  length-given : (e t : ℕ) → e < x.tau → t < x.h → length (get_or (seeds_of (part r (block_at x e + 32) (32 * x.h)) x.h) t []) ≡ 32
  length-given e t q h =
      let more : (e + 1) * block_length x ≤ x.tau * block_length x = mul-le (e + 1) (block_length x) x.tau (block_length x) (omega arith) (omega arith) in
      let end : block_at x e + 32 + 32 * x.h ≤ length r = let l = c.long in omega arith in
      let bs = part r (block_at x e + 32) (32 * x.h) in
      let long : length bs ≡ 32 * x.h = length_part r (block_at x e + 32) (32 * x.h) end in
      ap length (get_or-map-range_with_len (λ k. part bs (32 * k) 32) 0 x.h t t [] h (omega arith)) ∙ length_part bs (32 * t) 32 (omega arith)

  length-regrown : (e hidden t i : ℕ) → e < x.tau → 1 ≤ t → t ≤ x.h →
      length (regrown (child F (part r 31 32) e) x.h hidden (seeds_of (part r (block_at x e + 32) (32 * x.h)) x.h) t i) ≡ 32
  length-regrown e hidden zero i q low high = absurd (omega arith)
  length-regrown e hidden (suc t) i q low high =
      let given = seeds_of (part r (block_at x e + 32) (32 * x.h)) x.h in
      let seed = regrown (child F (part r 31 32) e) x.h hidden given t (i / 2) in
      cond_both (eqb (i / 2) (above x.h hidden t)) (get_or given t []) (child F (part r 31 32) e (2 ^ t + i / 2) (i % 2) seed) (λ z. length z ≡ 32)
      (λ _. length-given e t q (omega arith)) (λ _. length-child (part r 31 32) e (2 ^ t + i / 2) (i % 2) seed (omega arith))

  pub length-seed : (e j : ℕ) → e < x.tau → length ((transcript F a).seed e j) ≡ 32
  unfolding transcript_of
  length-seed e j q = length-regrown e (get_or a.hidden e 0) x.h j q c.facts.h_low (omega arith)
