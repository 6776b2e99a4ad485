-- The record that open writes, read back.
use Rattle.std.proofs.Common.{◌≡◌, ℕ, zero, suc, ◌+◌, ◌-◌, ◌*◌, ◌/◌, ◌%◌, ◌^◌, ◌<◌, ◌≤◌, List, [], ◌∷◌, ◌++◌, map, length, get_or, take, drop, ℤ, pos, sym, refl, ap, ◌∙◌, subst, mod-lt, add-one, arith, length-append}
use Rattle.std.specs.List.{range_with_len, flat_map, AllByRecursion}
use Rattle.std.proofs.lemmas.List.{length-map, drop-drop, drop_at, take_at, take_all, get_or-map}
use Rattle.std.proofs.ByRecursion.{All-get_or, All-weaker}
use Rattle.std.proofs.lemmas.List.FromFn.{get_or-map-range_with_len, length-map-range_with_len, fill_by_all}
use Rattle.std.proofs.lemmas.Bool.{cond-false, ne_eqb, lt-leb}
use Rattle.std.proofs.lemmas.Nat.{pow_pos}
use Rattle.protocol.specs.Parameters.{Parameters}
use Rattle.guarantee.proofs.Passing.{Passes, all_tests, all_of, append_passes}
use Rattle.guarantee.proofs.Choosing.{Picked, selected_picked, hidden_below}
use Rattle.guarantee.proofs.Heads.{Facts, facts}
use Rattle.guarantee.proofs.Reading.{get_d_part, words_at, unset_all}
use Rattle.guarantee.proofs.Lengths.{length-coded}
use Rattle.guarantee.proofs.Sampling.{sampled_within, bound_small, signed_bytes, not_beyond, length-left_out, all_left_out}
use Rattle.guarantee.proofs.Likeness.{Alike, same_six, same_seven}
use Rattle.soundness.proofs.Trees.{regrows}
use Rattle.soundness.proofs.Positions.{length-parts_of, parts_at}
use Rattle.soundness.proofs.Scheme.{setting_sound, completes, modulus_some, modulus_small}
use Rattle.soundness.proofs.Fitting.{length_part}
use Rattle.protocol.specs.Book.{body_tests, key_range_tests, audited_range_tests, offset_range_tests}
use Rattle.protocol.specs.Bytes.{word, part}
use Rattle.protocol.specs.Ceremony.{Keyed, root, text_six, text_seven, opening, hides, block, before_key, record_bytes}
use Rattle.protocol.specs.Entry.{setting_of}
use Rattle.protocol.specs.Flags.{audited_of}
use Rattle.protocol.specs.Header.{parameters_of, header_tests}
use Rattle.protocol.specs.Layout.{record_length, block_length}
use Rattle.protocol.specs.Parameters.{modulus, bound, sigma, parties}
use Rattle.protocol.specs.Prover.{Secret, Shaped, offsets, key, honest6, opened}
use Rattle.protocol.specs.Residues.{modular}
use Rattle.protocol.specs.Sampling.{byte_of, Within, signed}
use Rattle.protocol.specs.Scheme.{words, seeds_of, transcript_of}
use Rattle.protocol.specs.Sharing.{Setting, Transcript, Fits, parts, text6, text7}
use Rattle.protocol.specs.Streams.{Digest, First, Second, GivesBytes, first_bytes}
use Rattle.protocol.specs.Texts.{leaf_text, text3}
use Rattle.protocol.specs.Tree.{seed_at, siblings, regrown, beside, above, child}
use Rattle.guarantee.proofs.Offsets.{audited_at, block_at, key_at, offsets_at}

-- a ceremony that has a key
pub record Ready (k : Keyed) : Type 0 where
  pub header : length k.header ≡ 15
  pub tests : Passes (header_tests k.header)
  pub salt : length k.salt ≡ 32
  pub d1 : length k.d1 ≡ 32
  pub seed_a : length k.seed_a ≡ 16
  pub d2 : length k.d2 ≡ 32

drop_past : {X : Type 0} (a b : List X) (n m : ℕ) → length a ≡ n → drop (n + m) (a ++ b) ≡ drop m b
drop_past a b n m h = sym (drop-drop m n (a ++ b)) ∙ ap (drop m) (drop_at a b n h)

skip : (u v : List ℕ) (n at m : ℕ) → length u ≡ n → part (u ++ v) (n + at) m ≡ part v at m
skip u v n at m h = ap (take m) (drop_past u v n at h)

word_joined : (q : ℕ) (xs : List ℕ) (k : ℕ) → AllByRecursion (λ b. b < 65536) xs → k < length xs → word (flat_map (modular q).code xs) (2 * k) ≡ get_or xs k 0
word_joined q [] k small h = absurd (omega arith)
word_joined q (x ∷ xs) zero (small, rest) h = let z : x % 256 + 256 * (x / 256 % 256) ≡ x = omega arith in z
word_joined q (x ∷ xs) (suc k) (small, rest) h =
    ap (λ n. word (flat_map (modular q).code (x ∷ xs)) n) (let z : 2 * suc k ≡ suc (suc (2 * k)) = omega arith in z)
    ∙ ap (λ n. get_or (flat_map (modular q).code xs) (2 * k) 0 + 256 * get_or (flat_map (modular q).code (x ∷ xs)) n 0) (let z : suc (suc (2 * k)) + 1 ≡ suc (suc (2 * k + 1)) = omega arith in z)
    ∙ word_joined q xs k rest (omega arith)

words_joined : (q : ℕ) (xs : List ℕ) (n : ℕ) → AllByRecursion (λ b. b < 65536) xs → length xs ≡ n → words (flat_map (modular q).code xs) n ≡ xs
words_joined q xs n small h = sym (fill_by_all _ xs n 0 h (λ k r. sym (word_joined q xs k small (omega arith))))

-- entries in normal form have two bytes
normal_small : (q : ℕ) → 0 < q → q ≤ 65536 → (xs : List ℕ) → AllByRecursion (λ b. b % q ≡ b) xs → AllByRecursion (λ b. b < 65536) xs
normal_small q some most xs h = All-weaker (λ b. b % q ≡ b) (λ b. b < 65536) (λ b e. let less : b % q < q = mod-lt b some in omega arith) xs h

module _ (F X : Digest) (bytes : GivesBytes F) (G1 : First) (G2 : Second) (k : Keyed) (attributes : List ℕ) (ready : Ready k)
    (attributes-long : length attributes ≡ (parameters_of k.header).a) where
  abbrev x : Parameters
  x = parameters_of k.header

  abbrev q : ℕ
  q = modulus x.set

  abbrev s : Setting ℕ
  s = setting_of F X k.header

  abbrev p : Secret
  p = opening F X G1 G2 k attributes

  abbrev r : List ℕ
  r = record_bytes F X G1 G2 k attributes

  abbrev hidden : ℕ → ℕ
  hidden e = get_or (hides F X G1 G2 k attributes) e 0

  abbrev values : List ℤ
  values = audited_of p.flags p.values x.m

  abbrev coded : List ℕ
  coded = flat_map (modular q).code (key s p)

  abbrev audited : List ℕ
  audited = map byte_of values

  abbrev blocks : List ℕ
  blocks = parts x.tau (block F X G1 G2 k attributes)

  known : Facts k.header
  known = facts k.header ready.tests

  some : 0 < q
  some = modulus_some x.set

  picked : Picked p.flags x.m (sigma x) (sigma x)
  picked = selected_picked (G1 k.salt k.d1) x.m (sigma x) (let z = known.m_low in omega arith)

  within : (e : ℕ) → e < x.tau → hidden e < parties x
  within e h = hidden_below (G2 k.salt k.d1 k.d2) (parties x) x.tau e (pow_pos x.h) h

  pub shaped : Shaped s p
  shaped = record {
    salt = ready.salt;
    d1 = ready.d1;
    attributes = attributes-long;
    seed_a = ready.seed_a;
    flags = picked.long;
    chosen = picked.many;
  }

  fits_honest : Fits s (opened s p hidden (λ e j. []))
  fits_honest = (completes F X x (take 15 k.header) p shaped hidden within (λ e j. [])).2

  key_small : AllByRecursion (λ b. b < 65536) (key s p)
  unfolding opened
  key_small = normal_small q some (modulus_small x.set) (key s p) fits_honest.key_least

  offsets_small : (e : ℕ) → e < x.tau → AllByRecursion (λ b. b < 65536) (offsets s p e)
  unfolding opened
  offsets_small e h = normal_small q some (modulus_small x.set) (offsets s p e) (fits_honest.offsets_least e h)

  key_long : length (key s p) ≡ x.n * x.c
  key_long = length-map-range_with_len _ 0 (x.n * x.c)

  coded_long : length coded ≡ 2 * (x.n * x.c)
  coded_long = let a = length-coded q (key s p) in let b = key_long in omega arith

  values_long : length values ≡ x.m - sigma x
  values_long =
      let a = length-left_out p.flags p.values x.m in
      let b = unset_all p.flags x.m picked.long in
      let c = picked.many in
      omega arith

  audited_long : length audited ≡ x.m - sigma x
  audited_long = length-map values byte_of ∙ values_long

  values_within : AllByRecursion (Within (bound x.set)) values
  values_within = all_left_out p.flags p.values (Within (bound x.set))
      (λ i. let w = F (1 ∷ (k.salt ++ k.master)) in
      sampled_within x.set (w (2 * i) + 256 * w (2 * i + 1)) (omega (arith, bytes (1 ∷ (k.salt ++ k.master)) (2 * i), bytes (1 ∷ (k.salt ++ k.master)) (2 * i + 1)))) x.m

  -- the tree
  abbrev top : ℕ → List ℕ
  top e = root F k.salt k.master e

  abbrev listed : ℕ → List (List ℕ)
  listed e = siblings (child F k.salt e) (top e) x.h (hidden e)

  length-child : (e node side : ℕ) (seed : List ℕ) → side < 2 → length (child F k.salt e node side seed) ≡ 32
  unfolding first_bytes
  length-child e node side seed h = length_part _ (32 * side) 32 (omega (arith, length-map-range_with_len (F (text3 k.salt e node seed)) 0 64))

  length-sibling : (e t : ℕ) → t < x.h → length (get_or (listed e) t []) ≡ 32
  length-sibling e t h =
      let i = beside (above x.h (hidden e) (t + 1)) in
      ap length (get_or-map-range_with_len (λ t. seed_at (child F k.salt e) (top e) (t + 1) (beside (above x.h (hidden e) (t + 1)))) 0 x.h t t [] h (omega arith))
      ∙ ap (λ n. length (seed_at (child F k.salt e) (top e) n i)) (add-one t)
      ∙ length-child e (2 ^ t + i / 2) (i % 2) (seed_at (child F k.salt e) (top e) t (i / 2)) (omega arith)

  abbrev commitment_bytes : ℕ → List ℕ
  commitment_bytes e = s.commit k.salt e (hidden e) (p.seed e (hidden e))

  abbrev sibling_bytes : ℕ → List ℕ
  sibling_bytes e = parts x.h (λ t. get_or (listed e) t [])

  abbrev offset_bytes : ℕ → List ℕ
  offset_bytes e = flat_map (modular q).code (offsets s p e)

  commitment_long : (e : ℕ) → length (commitment_bytes e) ≡ 32
  unfolding first_bytes
  commitment_long e = length-map-range_with_len (F (leaf_text 4 k.salt e (hidden e) (p.seed e (hidden e)))) 0 32

  sibling_long : (e : ℕ) → length (sibling_bytes e) ≡ 32 * x.h
  sibling_long e = length-parts_of x.h 32 (λ t. get_or (listed e) t []) (λ t h. length-sibling e t h) ∙ (let z : x.h * 32 ≡ 32 * x.h = omega arith in z)

  offsets_long : (e : ℕ) → length (offsets s p e) ≡ x.m
  offsets_long e = length-map-range_with_len _ 0 x.m

  offset_long : (e : ℕ) → length (offset_bytes e) ≡ 2 * x.m
  offset_long e = let a = length-coded q (offsets s p e) in let b = offsets_long e in omega arith

  block_long : (e : ℕ) → length (block F X G1 G2 k attributes e) ≡ block_length x
  block_long e =
      let a = length-append (commitment_bytes e) (sibling_bytes e ++ offset_bytes e) in
      let b = length-append (sibling_bytes e) (offset_bytes e) in
      let c = commitment_long e in let d = sibling_long e in let f = offset_long e in
      omega arith

  blocks_long : length blocks ≡ x.tau * block_length x
  blocks_long = length-parts_of x.tau (block_length x) (block F X G1 G2 k attributes) (λ e _. block_long e)

  abbrev behind_key : List ℕ
  behind_key = audited ++ blocks

  abbrev behind_attributes : List ℕ
  behind_attributes = coded ++ behind_key

  abbrev behind_d2 : List ℕ
  behind_d2 = attributes ++ behind_attributes

  pub r_long : length r ≡ record_length x
  unfolding record_bytes
  r_long =
      let a = length-append k.header (k.seed_a ++ (k.salt ++ (k.d1 ++ (k.d2 ++ behind_d2)))) in
      let b = length-append k.seed_a (k.salt ++ (k.d1 ++ (k.d2 ++ behind_d2))) in
      let c = length-append k.salt (k.d1 ++ (k.d2 ++ behind_d2)) in
      let d = length-append k.d1 (k.d2 ++ behind_d2) in
      let e = length-append k.d2 behind_d2 in
      let f = length-append attributes behind_attributes in
      let g = length-append coded behind_key in
      let h = length-append audited blocks in
      let i = ready.header in let j = ready.seed_a in let l = ready.salt in let m = ready.d1 in let n = ready.d2 in
      let o = coded_long in let t = audited_long in let u = blocks_long in
      omega arith

  pub header_part : take 15 r ≡ k.header
  unfolding record_bytes
  header_part = take_at k.header _ 15 ready.header

  at_15 : (at n : ℕ) → part r (15 + at) n ≡ part (k.seed_a ++ (k.salt ++ (k.d1 ++ (k.d2 ++ behind_d2)))) at n
  unfolding record_bytes
  at_15 at n = skip k.header _ 15 at n ready.header

  at_31 : (at n : ℕ) → part r (31 + at) n ≡ part (k.salt ++ (k.d1 ++ (k.d2 ++ behind_d2))) at n
  at_31 at n = ap (λ z. part r z n) (let z : 31 + at ≡ 15 + (16 + at) = omega arith in z) ∙ at_15 (16 + at) n ∙ skip k.seed_a _ 16 at n ready.seed_a

  at_63 : (at n : ℕ) → part r (63 + at) n ≡ part (k.d1 ++ (k.d2 ++ behind_d2)) at n
  at_63 at n = ap (λ z. part r z n) (let z : 63 + at ≡ 31 + (32 + at) = omega arith in z) ∙ at_31 (32 + at) n ∙ skip k.salt _ 32 at n ready.salt

  at_95 : (at n : ℕ) → part r (95 + at) n ≡ part (k.d2 ++ behind_d2) at n
  at_95 at n = ap (λ z. part r z n) (let z : 95 + at ≡ 63 + (32 + at) = omega arith in z) ∙ at_63 (32 + at) n ∙ skip k.d1 _ 32 at n ready.d1

  at_127 : (at n : ℕ) → part r (127 + at) n ≡ part behind_d2 at n
  at_127 at n = ap (λ z. part r z n) (let z : 127 + at ≡ 95 + (32 + at) = omega arith in z) ∙ at_95 (32 + at) n ∙ skip k.d2 _ 32 at n ready.d2

  at_key : (at n : ℕ) → part r (key_at x + at) n ≡ part behind_attributes at n
  at_key at n = ap (λ z. part r z n) (let z : key_at x + at ≡ 127 + (x.a + at) = omega arith in z) ∙ at_127 (x.a + at) n ∙ skip attributes _ x.a at n attributes-long

  at_audited : (at n : ℕ) → part r (audited_at x + at) n ≡ part behind_key at n
  at_audited at n = ap (λ z. part r z n) (let z : audited_at x + at ≡ key_at x + (sigma x + at) = omega arith in z) ∙ at_key (sigma x + at) n ∙ skip coded _ (sigma x) at n coded_long

  at_blocks : (at n : ℕ) → part r (audited_at x + (x.m - sigma x) + at) n ≡ part blocks at n
  at_blocks at n =
      ap (λ z. part r z n) (let z : audited_at x + (x.m - sigma x) + at ≡ audited_at x + ((x.m - sigma x) + at) = omega arith in z)
      ∙ at_audited ((x.m - sigma x) + at) n ∙ skip audited _ (x.m - sigma x) at n audited_long

  at_block : (e d n : ℕ) → e < x.tau → d + n ≤ block_length x → part r (block_at x e + d) n ≡ part (block F X G1 G2 k attributes e) d n
  at_block e d n h room =
      ap (λ z. part r z n) (let z : block_at x e + d ≡ audited_at x + (x.m - sigma x) + (e * block_length x + d) = omega arith in z)
      ∙ at_blocks (e * block_length x + d) n
      ∙ parts_at x.tau (block_length x) (block F X G1 G2 k attributes) (λ i _. block_long i) e d n h room

  pub salt_part : part r 31 32 ≡ k.salt
  salt_part = at_31 0 32 ∙ take_at k.salt _ 32 ready.salt

  pub d1_part : part r 63 32 ≡ k.d1
  d1_part = at_63 0 32 ∙ take_at k.d1 _ 32 ready.d1

  pub d2_part : part r 95 32 ≡ k.d2
  d2_part = at_95 0 32 ∙ take_at k.d2 _ 32 ready.d2

  seed_a_part : part r 15 16 ≡ k.seed_a
  seed_a_part = at_15 0 16 ∙ take_at k.seed_a _ 16 ready.seed_a

  attributes_part : part r 127 x.a ≡ attributes
  attributes_part = at_127 0 x.a ∙ take_at attributes _ x.a attributes-long

  key_part : words (part r (key_at x) (2 * (x.n * x.c))) (x.n * x.c) ≡ key s p
  key_part =
      ap (λ z. words z (x.n * x.c))
      (ap (λ z. part r z (2 * (x.n * x.c))) (let z : key_at x ≡ key_at x + 0 = omega arith in z) ∙ at_key 0 (2 * (x.n * x.c)) ∙ take_at coded behind_key (2 * (x.n * x.c)) coded_long)
      ∙ words_joined q (key s p) (x.n * x.c) key_small key_long

  audited_part : part r (audited_at x) (x.m - sigma x) ≡ audited
  audited_part =
      ap (λ z. part r z (x.m - sigma x)) (let z : audited_at x ≡ audited_at x + 0 = omega arith in z) ∙ at_audited 0 (x.m - sigma x) ∙ take_at audited blocks (x.m - sigma x) audited_long

  values_part : map signed (part r (audited_at x) (x.m - sigma x)) ≡ values
  values_part = ap (map signed) audited_part ∙ signed_bytes (bound x.set) values (bound_small x.set) values_within

  sealed_part : (e : ℕ) → e < x.tau → part r (block_at x e) 32 ≡ commitment_bytes e
  sealed_part e h =
      ap (λ z. part r z 32) (let z : block_at x e ≡ block_at x e + 0 = omega arith in z) ∙ at_block e 0 32 h (omega arith)
      ∙ take_at (commitment_bytes e) _ 32 (commitment_long e)

  sibling_part : (e : ℕ) → e < x.tau → part r (block_at x e + 32) (32 * x.h) ≡ sibling_bytes e
  sibling_part e h =
      at_block e 32 (32 * x.h) h (omega arith)
      ∙ skip (commitment_bytes e) (sibling_bytes e ++ offset_bytes e) 32 0 (32 * x.h) (commitment_long e)
      ∙ take_at (sibling_bytes e) (offset_bytes e) (32 * x.h) (sibling_long e)

  offsets_part : (e : ℕ) → e < x.tau → words (part r (offsets_at x e) (2 * x.m)) x.m ≡ offsets s p e
  offsets_part e h =
      ap (λ z. words z x.m)
      (ap (λ z. part r z (2 * x.m)) (let z : offsets_at x e ≡ block_at x e + (32 + (32 * x.h + 0)) = omega arith in z)
      ∙ at_block e (32 + (32 * x.h + 0)) (2 * x.m) h (omega arith)
      ∙ skip (commitment_bytes e) (sibling_bytes e ++ offset_bytes e) 32 (32 * x.h + 0) (2 * x.m) (commitment_long e)
      ∙ skip (sibling_bytes e) (offset_bytes e) (32 * x.h) 0 (2 * x.m) (sibling_long e)
      ∙ take_all (2 * x.m) (offset_bytes e) (let z = offset_long e in omega arith))
      ∙ words_joined q (offsets s p e) x.m (offsets_small e h) (offsets_long e)

  given_part : (e : ℕ) → e < x.tau → seeds_of (part r (block_at x e + 32) (32 * x.h)) x.h ≡ listed e
  given_part e h =
      ap (λ z. seeds_of z x.h) (sibling_part e h)
      ∙ sym (fill_by_all _ (listed e) x.h [] (length-map-range_with_len _ 0 x.h) (λ t l. sym (
      ap (λ z. part (sibling_bytes e) z 32) (let z : 32 * t ≡ t * 32 + 0 = omega arith in z)
      ∙ parts_at x.h 32 (λ t. get_or (listed e) t []) (λ i u. length-sibling e i u) t 0 32 l (omega arith)
      ∙ take_all 32 (get_or (listed e) t []) (let z = length-sibling e t l in omega arith))))

  -- what the record says to one who has the answers
  abbrev y : Transcript ℕ
  y = transcript_of F x r (hides F X G1 G2 k attributes) p.flags

  abbrev true_entry : Transcript ℕ
  true_entry = opened s p hidden (λ e j. [])

  alike : Alike s y true_entry
  unfolding transcript_of opened
  alike = record {
    salt = salt_part;
    d1 = d1_part;
    attributes = attributes_part;
    seed_a = seed_a_part;
    flags = refl;
    key = key_part;
    audited = values_part;
    hidden = λ e h. refl;
    hidden_commitment = sealed_part;
    offsets = offsets_part;
    seed = λ e j h l not.
        (λ i. regrown (child F (salt_part i) e) x.h (hidden e) (given_part e h i) x.h j)
        ∙ regrows (child F k.salt e) (top e) x.h (hidden e) (within e h) j l not
        ∙ sym (cond-false _ _ _ (ne_eqb j (hidden e) not));
  }

  pub six_honest : text6 s y ≡ text_six F X k.header k.salt k.master attributes
  unfolding honest6
  six_honest = same_six (setting_sound F X x (take 15 k.header)) y true_entry alike
      ∙ (completes F X x (take 15 k.header) p shaped hidden within (λ e j. [])).0

  pub seven_honest : text7 s y ≡ text_seven F X G1 (before_key F X G1 G2 k attributes) attributes k.seed_a
  seven_honest = same_seven (setting_sound F X x (take 15 k.header)) y true_entry alike
      ∙ (completes F X x (take 15 k.header) p shaped hidden within (λ e j. [])).1

  key_entry : (i : ℕ) → i < x.n * x.c → word r (key_at x + 2 * i) < q
  key_entry i h =
      subst (λ z. z < q)
      (sym (get_or-map-range_with_len _ 0 (x.n * x.c) i i 0 h (omega arith)) ∙ ap (λ z. get_or z i 0) (sym key_part) ∙ words_at r (key_at x) (x.n * x.c) i h)
      (mod-lt _ some)

  offset_entry : (e i : ℕ) → e < x.tau → i < x.m → word r (offsets_at x e + 2 * i) < q
  offset_entry e i h l =
      subst (λ z. z < q)
      (sym (get_or-map-range_with_len _ 0 x.m i i 0 l (omega arith)) ∙ ap (λ z. get_or z i 0) (sym (offsets_part e h)) ∙ words_at r (offsets_at x e) x.m i l)
      (mod-lt _ some)

  audited_entry : (i : ℕ) → i < x.m - sigma x → Within (bound x.set) (signed (get_or r (audited_at x + i) 0))
  audited_entry i h =
      subst (Within (bound x.set))
      (ap (λ z. get_or z i (pos 0)) (sym values_part)
      ∙ get_or-map signed (part r (audited_at x) (x.m - sigma x)) i 0 (pos 0) (let z = ap length audited_part ∙ audited_long in omega arith)
      ∙ ap signed (get_d_part r (audited_at x) (x.m - sigma x) i h))
      (All-get_or (Within (bound x.set)) values i (pos 0) (let z = values_long in omega arith) values_within)

  pub body_passes : Passes (body_tests r x)
  unfolding body_tests
  body_passes = append_passes (key_range_tests r x) (audited_range_tests r x ++ flat_map (offset_range_tests r x) (range_with_len 0 x.tau))
      (all_tests _ (x.n * x.c) (λ i h. lt-leb q (word r (key_at x + 2 * i)) (key_entry i h)))
      (append_passes (audited_range_tests r x) (flat_map (offset_range_tests r x) (range_with_len 0 x.tau))
      (all_tests _ (x.m - sigma x) (λ i h. not_beyond (bound x.set) (signed (get_or r (audited_at x + i) 0)) (audited_entry i h)))
      (all_of (offset_range_tests r x) x.tau (λ e h. all_tests _ x.m (λ i l. lt-leb q (word r (offsets_at x e + 2 * i)) (offset_entry e i h l)))))
