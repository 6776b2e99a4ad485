-- Two entries of one commitment give a collision or the secret.
use Rattle.std.proofs.Common.{◌≡◌, ℕ, zero, suc, ◌+◌, ◌-◌, ◌*◌, ◌/◌, ◌%◌, ◌<◌, ◌≤◌, false, not, eqb, List, [], ◌∷◌, ◌++◌, length, get_or, take, drop, Ok, Result, sym, refl, ap, ◌∙◌, subst, inl, inr, mod-lt, arith, length-append, length-drop}
use Rattle.std.specs.List.{common_prefix_len, AllByRecursion}
use Rattle.std.specs.Str.{bytes_eq}
use Rattle.std.proofs.lemmas.List.{get_or-take, length-take-le, take-take, drop-take, drop-drop, drop_at, take_all, drop-append-le, take-append-le}
use Rattle.std.proofs.ByRecursion.{All-get_or}
use Rattle.std.proofs.lemmas.Slice.Eq.{bytes_eq-Decides}
use Rattle.std.proofs.lemmas.Bool.{cond-true, cond-false, cond_both, cases_Bool, le-ltb, lt-leb, ne_eqb, or_from, not_from_true}
use Rattle.std.proofs.lemmas.Nat.{mul-le, mul-add-lt}
use Rattle.protocol.specs.declared.fault.Fault.{Fault}
use Rattle.protocol.specs.Parameters.{Parameters}
use Rattle.guarantee.proofs.Passing.{Passes, passed}
use Rattle.guarantee.proofs.Books.{holds_held}
use Rattle.guarantee.proofs.Keeping.{WellFormed, Checked, kept}
use Rattle.guarantee.proofs.Reading.{get_d_part, fits, key_is, offset_is, audited_is, length-seed}
use Rattle.guarantee.proofs.Lengths.{length-six, length-seven, differ, not_same}
use Rattle.soundness.proofs.Sums.{total_same}
use Rattle.soundness.proofs.Residues.{modular_lawful}
use Rattle.soundness.proofs.Indices.{lists_ones}
use Rattle.soundness.proofs.Parts.{same_append}
use Rattle.soundness.proofs.Fields.{Agree, agree}
use Rattle.soundness.proofs.Scheme as scheme
use Rattle.soundness.proofs.Scheme.{Reveals, modulus_some, modulus_small}
use Rattle.soundness.proofs.Positions.{length-parts_of, parts_at, commitments_listed}
use Rattle.protocol.specs.Book.{no_entry, entries_of, missing_test, pair_tests, digest_tests, compared, recovered_bytes, common_part, recovered_length, recovers}
use Rattle.protocol.specs.Bytes.{word, part}
use Rattle.protocol.specs.Entry.{Entry, transcript, setting_of, rebuilt6, rebuilt7, salt_of, d1_of, d2_of}
use Rattle.protocol.specs.Extractor.{joint_seeds, value_of}
use Rattle.protocol.specs.Flags.{kept_index}
use Rattle.protocol.specs.Group.{total}
use Rattle.protocol.specs.Guarantee.{Collision, Opens, Extraction, seed_in, value_in}
use Rattle.protocol.specs.Header.{parameters_of}
use Rattle.protocol.specs.Parameters.{modulus, sigma, parties, work_words}
use Rattle.protocol.specs.Residues.{matrix, modular, residue, residue_in, dot}
use Rattle.protocol.specs.Scheme.{setting, transcript_of}
use Rattle.protocol.specs.Sharing.{Fits, parts, text6, text7}
use Rattle.protocol.specs.Streams.{Digest, drawn}
use Rattle.protocol.specs.Tests.{Test, first_failing, after}
use Rattle.protocol.specs.Texts.{leaf_text}
use Rattle.guarantee.proofs.Offsets.{offsets_at}
use Rattle.soundness.proofs.Fitting.{length_part}

pub after_passed : {X Y : Type 0} (ts : List Test) (x : X) (next : X → Result Y Fault) → Passes ts → after (first_failing ts x) next ≡ next x
after_passed ts x next p = ap (λ r. after r next) (passed ts x p)

pub not_differ : (xs ys : List ℕ) → xs ≡ ys → not (bytes_eq xs ys) ≡ false
not_differ xs ys e = not_from_true (bytes_eq xs ys) ((bytes_eq-Decides xs ys).1 e)

-- a header is told by fifteen bytes
pub header_take : (r : List ℕ) → parameters_of r ≡ parameters_of (take 15 r)
header_take r = λ i. record {
  version = back 3 (omega arith) i + 256 * back 4 (omega arith) i;
  set = back 5 (omega arith) i;
  n = back 6 (omega arith) i + 256 * back 7 (omega arith) i;
  c = back 8 (omega arith) i;
  m = back 9 (omega arith) i + 256 * back 10 (omega arith) i;
  h = back 11 (omega arith) i;
  tau = back 12 (omega arith) i;
  a = back 13 (omega arith) i + 256 * back 14 (omega arith) i;
}
  where
    back : (k : ℕ) → k < 15 → get_or r k 0 ≡ get_or (take 15 r) k 0
    back k h = sym (get_or-take 15 r k 0 h)

dot_same : (n : ℕ) (a s u : ℕ → ℕ) → ((t : ℕ) → t < n → s t ≡ u t) → dot n a s ≡ dot n a u
dot_same zero a s u e = refl
dot_same (suc n) a s u e = λ i. dot_same n a s u (λ t q. e t (omega arith)) i + a n * e n (omega arith) i

word_of_part : (r : List ℕ) (at : ℕ) → word (part r at 2) 0 ≡ word r at
word_of_part r at = λ i. (get_d_part r at 2 0 (omega arith) ∙ ap (λ z. get_or r z 0) (let z : at + 0 ≡ at = omega arith in z)) i + 256 * get_d_part r at 2 1 (omega arith) i

drop_past : {X : Type 0} (a b : List X) (n m : ℕ) → length a ≡ n → drop (n + m) (a ++ b) ≡ drop m b
drop_past a b n m h = sym (drop-drop m n (a ++ b)) ∙ ap (drop m) (drop_at a b n h)

-- what was written is read back
module _ (n m : ℕ) (q : ℕ) (seeds : ℕ → List ℕ) (values : ℕ → ℕ) (long : (j : ℕ) → j < n → length (seeds j) ≡ 32)
    (small : (k : ℕ) → k < m → values k < 65536) where
  abbrev out : List ℕ
  out = parts n seeds ++ parts m (λ k. (modular q).code (values k))

  first_long : length (parts n seeds) ≡ n * 32
  first_long = length-parts_of n 32 seeds long

  pub out_long : length out ≡ 32 * n + 2 * m
  out_long =
      let a = length-append (parts n seeds) (parts m (λ k. (modular q).code (values k))) in
      let b = first_long in
      let c : length (parts m (λ k. (modular q).code (values k))) ≡ m * 2 = length-parts_of m 2 _ (λ k t. refl) in
      omega arith

  pub seed_back : (j : ℕ) → j < n → seed_in out j ≡ seeds j
  seed_back j h =
      let room : (j + 1) * 32 ≤ n * 32 = mul-le (j + 1) 32 n 32 (omega arith) (omega arith) in
      let l = first_long in
      ap (take 32) (drop-append-le (j * 32) (parts n seeds) _ (omega arith))
      ∙ take-append-le 32 (drop (j * 32) (parts n seeds)) _ (omega (arith, length-drop (j * 32) (parts n seeds)))
      ∙ ap (λ k. take 32 (drop k (parts n seeds))) (let z : j * 32 ≡ j * 32 + 0 = omega arith in z)
      ∙ parts_at n 32 seeds long j 0 32 h (omega arith)
      ∙ take_all 32 (seeds j) (let z = long j h in omega arith)

  pub value_back : (k : ℕ) → k < m → word out (n * 32 + k * 2) ≡ values k
  value_back k h =
      sym (word_of_part out (n * 32 + k * 2))
      ∙ ap (λ z. word z 0)
      (ap (take 2) (drop_past (parts n seeds) (parts m (λ k. (modular q).code (values k))) (n * 32) (k * 2) first_long)
      ∙ ap (λ z. take 2 (drop z (parts m (λ k. (modular q).code (values k))))) (let z : k * 2 ≡ k * 2 + 0 = omega arith in z)
      ∙ parts_at m 2 (λ k. (modular q).code (values k)) (λ i t. refl) k 0 2 h (omega arith))
      ∙ (let v = values k in let below = small k h in let z : v % 256 + 256 * (v / 256 % 256) ≡ v = omega arith in z)

-- share k of a leaf seed
abbrev share_of : Digest → ℕ → List ℕ → ℕ → ℕ → List ℕ → ℕ → ℕ
share_of F q salt e j seed = residue_in q (F (leaf_text 5 salt e j seed))

module _ (F X : Digest) (a : Entry) (c : WellFormed a) (e : ℕ) (q : e < (parameters_of a.bytes).tau) where
  abbrev x : Parameters
  x = parameters_of a.bytes

  header_long : length (take 15 a.bytes) ≡ 15
  header_long = length-take-le 15 a.bytes c.facts.long

  place_below : (m : ℕ) → m < sigma x → kept_index a.flags m < x.m
  place_below m h =
      let o = c.flags_many in
      let l = c.flags_long in
      let b : kept_index a.flags m < length a.flags = (lists_ones a.flags).within m (omega arith) in omega arith

  -- seeds and values that agree open as much
  opens_same : (seeds seeds' : ℕ → List ℕ) (values values' : ℕ → ℕ) → ((j : ℕ) → j < parties x → seeds' j ≡ seeds j) → ((k : ℕ) → k < x.m → values' k ≡ values k) →
      Opens F X a e seeds values → Opens F X a e seeds' values'
  opens_same seeds seeds' values values' ss vs o = record {
    commitments = λ j r. ap (λ z. drawn F (leaf_text 4 (salt_of a.bytes) e j z) 32) (ss j r) ∙ o.commitments j r;
    sums = λ k r. vs k r ∙ o.sums k r
        ∙ ap (λ t. (word a.bytes (offsets_at x e + 2 * k) + t) % modulus x.set)
        (total_same (modular_lawful (modulus x.set) (modulus_some x.set) (modulus_small x.set)) (parties x) _ _ (λ j t. ap (λ z. share_of F (modulus x.set) (salt_of a.bytes) e j z k) (sym (ss j t))));
    audited = λ k r h. (vs k r ∙ (o.audited k r h).0, (o.audited k r h).1);
    key = λ i l r t.
        o.key i l r t
        ∙ (λ d. (dot_same x.n (matrix X (modulus x.set) (part a.bytes 15 16) i)
        (λ u. values (kept_index a.flags (u * x.c + l))) (λ u. values' (kept_index a.flags (u * x.c + l)))
        (λ u v. sym (vs (kept_index a.flags (u * x.c + l)) (place_below (u * x.c + l) (omega (arith, mul-add-lt u x.c l x.n v t))))) d
        + sym (vs (kept_index a.flags (x.n * x.c + (i * x.c + l))) (place_below (x.n * x.c + (i * x.c + l)) (omega (arith, mul-add-lt i x.c l x.n r t)))) d) % modulus x.set);
  }

  opens_from : (seeds : ℕ → List ℕ) (values : ℕ → ℕ) → Reveals F X x (take 15 a.bytes) (transcript F a) seeds values e →
      ((k : ℕ) → k < x.m → values k ≡ (word a.bytes (offsets_at x e + 2 * k) + total (modular (modulus x.set)) (parties x) (λ j. share_of F (modulus x.set) (salt_of a.bytes) e j (seeds j) k)) % modulus x.set) →
      Opens F X a e seeds values
  unfolding transcript_of
  opens_from seeds values s sums = record {
    commitments = λ j r.
        s.commitments j r
        ∙ sym (commitments_listed F X x (take 15 a.bytes) header_long (transcript F a) (fits F X a c) e j q r);
    sums = sums;
    audited = λ k r h. let w = audited_is F X a c k r h in (s.audited k r h ∙ ap (residue (modulus x.set)) w.0, w.1);
    key = λ i l r t. sym (key_is F X a c (i * x.c + l) (omega (arith, mul-add-lt i x.c l x.n r t))) ∙ s.key i l r t;
  }

-- what equal common parts tell
module _ (F X : Digest) (a b : Entry) (ca : Checked F X a) (cb : Checked F X b) (same : common_part a ≡ common_part b) where
  cut : (take 15 a.bytes ≡ take 15 b.bytes) × (part a.bytes 31 96 ≡ part b.bytes 31 96)
  cut = same_append (take 15 a.bytes) _ (take 15 b.bytes) _
      (length-take-le 15 a.bytes ca.well_formed.facts.long ∙ sym (length-take-le 15 b.bytes cb.well_formed.facts.long)) same

  heads : parameters_of a.bytes ≡ parameters_of b.bytes
  heads = header_take a.bytes ∙ ap parameters_of cut.0 ∙ sym (header_take b.bytes)

  -- a part of the common part
  inner : (r : List ℕ) (at n : ℕ) → at + n ≤ 96 → part (part r 31 96) at n ≡ part r (31 + at) n
  inner r at n h =
      ap (λ z. take n (drop at (take z (drop 31 r)))) (let z : 96 ≡ at + (96 - at) = omega arith in z)
      ∙ ap (take n) (drop-take at (96 - at) (drop 31 r))
      ∙ take-take n (96 - at) (drop at (drop 31 r)) (omega arith)
      ∙ ap (take n) (drop-drop at 31 r)

  parts_same : (at n : ℕ) → at + n ≤ 96 → part a.bytes (31 + at) n ≡ part b.bytes (31 + at) n
  parts_same at n h = sym (inner a.bytes at n h) ∙ ap (λ z. part z at n) cut.1 ∙ inner b.bytes at n h

  d1_same : d1_of a.bytes ≡ d1_of b.bytes
  d1_same = parts_same 32 32 (omega arith)

  d2_same : d2_of a.bytes ≡ d2_of b.bytes
  d2_same = parts_same 64 32 (omega arith)

  same_setting : setting_of F X b.bytes ≡ setting_of F X a.bytes
  same_setting = λ i. setting F X (sym heads i) (sym cut.0 i)

  fits_there : Fits (setting_of F X a.bytes) (transcript F b)
  fits_there = subst (λ s. Fits s (transcript F b)) same_setting (fits F X b cb.well_formed)

  abbrev z : Parameters
  z = parameters_of a.bytes

  abbrev front : List ℕ
  front = take 15 a.bytes

  six_there : text6 (setting_of F X a.bytes) (transcript F b) ≡ rebuilt6 F X b
  six_there = ap (λ s. text6 s (transcript F b)) (sym same_setting)

  seven_there : text7 (setting_of F X a.bytes) (transcript F b) ≡ rebuilt7 F X b
  seven_there = ap (λ s. text7 s (transcript F b)) (sym same_setting)

  six_long : length (rebuilt6 F X a) ≡ length (rebuilt6 F X b)
  six_long = length-six F X z front (transcript F a) (fits F X a ca.well_formed) ∙ sym (length-six F X z front (transcript F b) fits_there) ∙ ap length six_there

  seven_long : length (rebuilt7 F X a) ≡ length (rebuilt7 F X b)
  seven_long = length-seven F X z front (transcript F a) (fits F X a ca.well_formed) ∙ sym (length-seven F X z front (transcript F b) fits_there) ∙ ap length seven_there

  collides : (t u digest : List ℕ) → length digest ≡ 32 → length t ≡ length u → bytes_eq t u ≡ false → drawn F t 32 ≡ digest → drawn F u 32 ≡ digest →
      Collision F t u (common_prefix_len eqb t u) digest
  collides t u digest w l n p r =
      let d = differ t u l (not_same t u n) in
      record { before = d.before; inside = (d.inside, subst (λ n. common_prefix_len eqb t u < n) l d.inside); here = d.here; digests = (ap (drawn F t) w ∙ p, ap (drawn F u) w ∙ r) }

  digest_long : (at : ℕ) → at + 32 ≤ 127 → length (part a.bytes at 32) ≡ 32
  digest_long at h = length_part a.bytes at 32 (let l = ca.well_formed.long in omega arith)

  collides6 : bytes_eq (rebuilt6 F X a) (rebuilt6 F X b) ≡ false → Collision F (rebuilt6 F X a) (rebuilt6 F X b) (common_prefix_len eqb (rebuilt6 F X a) (rebuilt6 F X b)) (d1_of a.bytes)
  collides6 n = collides (rebuilt6 F X a) (rebuilt6 F X b) (d1_of a.bytes) (digest_long 63 (omega arith)) six_long n ca.first (cb.first ∙ sym d1_same)

  collides7 : bytes_eq (rebuilt7 F X a) (rebuilt7 F X b) ≡ false → Collision F (rebuilt7 F X a) (rebuilt7 F X b) (common_prefix_len eqb (rebuilt7 F X a) (rebuilt7 F X b)) (d2_of a.bytes)
  collides7 n = collides (rebuilt7 F X a) (rebuilt7 F X b) (d2_of a.bytes) (digest_long 95 (omega arith)) seven_long n ca.second (cb.second ∙ sym d2_same)

  module _ (e : ℕ) (q : e < (parameters_of a.bytes).tau) (apart : get_or a.hidden e 0 ≡ get_or b.hidden e 0 → ⊥)
      (six : rebuilt6 F X a ≡ rebuilt6 F X b) (seven : rebuilt7 F X a ≡ rebuilt7 F X b) where
    abbrev seeds : ℕ → List ℕ
    seeds = joint_seeds (transcript F a) (transcript F b) e

    abbrev values : ℕ → ℕ
    values = value_of (setting_of F X a.bytes) (transcript F a) seeds e

    q_there : e < (parameters_of b.bytes).tau
    q_there = subst (λ x. e < x.tau) heads q

    six_here : rebuilt6 F X a ≡ text6 (setting_of F X a.bytes) (transcript F b)
    six_here = six ∙ sym six_there

    seven_here : rebuilt7 F X a ≡ text7 (setting_of F X a.bytes) (transcript F b)
    seven_here = seven ∙ sym seven_there

    shown : Reveals F X z front (transcript F a) seeds values e × Reveals F X z front (transcript F b) seeds values e
    unfolding transcript_of
    shown = scheme.recovers F X z front (transcript F a) (transcript F b) (fits F X a ca.well_formed) fits_there six_here seven_here e q apart

    shown_there : Reveals F X (parameters_of b.bytes) (take 15 b.bytes) (transcript F b) seeds values e
    shown_there =
        subst (λ f. Reveals F X (parameters_of b.bytes) f (transcript F b) seeds values e) cut.0
        (subst (λ x. Reveals F X x front (transcript F b) seeds values e) heads shown.1)

    alike : Agree (setting_of F X a.bytes) (transcript F a) (transcript F b) e
    alike = agree (scheme.setting_sound F X z front) (transcript F a) (transcript F b) (fits F X a ca.well_formed) fits_there six_here seven_here e q

    abbrev sum_by : ℕ → Parameters → List ℕ → ℕ → ℕ
    sum_by k x salt o = (o + total (modular (modulus x.set)) (parties x) (λ j. share_of F (modulus x.set) salt e j (seeds j) k)) % modulus x.set

    sums_here : (k : ℕ) → k < (parameters_of a.bytes).m → values k ≡ sum_by k (parameters_of a.bytes) (salt_of a.bytes) (word a.bytes (offsets_at (parameters_of a.bytes) e + 2 * k))
    unfolding value_of transcript_of
    sums_here k r = ap (sum_by k (parameters_of a.bytes) (salt_of a.bytes)) (offset_is F X a ca.well_formed e k r)

    sums_there : (k : ℕ) → k < (parameters_of b.bytes).m → values k ≡ sum_by k (parameters_of b.bytes) (salt_of b.bytes) (word b.bytes (offsets_at (parameters_of b.bytes) e + 2 * k))
    unfolding value_of transcript_of
    sums_there k r =
        (λ i. sum_by k (heads i) (alike.salt i) (get_or (alike.offsets i) k 0))
        ∙ ap (sum_by k (parameters_of b.bytes) (salt_of b.bytes)) (offset_is F X b cb.well_formed e k r)

    seed_long : (j : ℕ) → length (seeds j) ≡ 32
    unfolding joint_seeds
    seed_long j = cond_both (eqb j ((transcript F a).hidden e)) ((transcript F b).seed e j) ((transcript F a).seed e j) (λ s. length s ≡ 32) (λ _. length-seed F X b cb.well_formed e j q_there) (λ _. length-seed F X a ca.well_formed e j q)

    value_small : (k : ℕ) → values k < 65536
    unfolding value_of
    value_small k =
        let q = modulus (parameters_of a.bytes).set in
        let less : values k < q = mod-lt _ (modulus_some (parameters_of a.bytes).set) in
        let most : q ≤ 65536 = modulus_small (parameters_of a.bytes).set in
        omega arith

    abbrev wrote : List ℕ
    wrote = recovered_bytes F X a b e

    wrote_long : length wrote ≡ recovered_length (parameters_of a.bytes)
    unfolding recovered_bytes
    wrote_long = out_long (parties (parameters_of a.bytes)) (parameters_of a.bytes).m (modulus (parameters_of a.bytes).set) seeds values (λ j _. seed_long j) (λ k _. value_small k)

    seeds_back : (j : ℕ) → j < parties (parameters_of a.bytes) → seed_in wrote j ≡ seeds j
    unfolding recovered_bytes
    seeds_back = seed_back (parties (parameters_of a.bytes)) (parameters_of a.bytes).m (modulus (parameters_of a.bytes).set) seeds values (λ j _. seed_long j) (λ k _. value_small k)

    values_back : (k : ℕ) → k < (parameters_of a.bytes).m → value_in (parameters_of a.bytes) wrote k ≡ values k
    unfolding recovered_bytes
    values_back = value_back (parties (parameters_of a.bytes)) (parameters_of a.bytes).m (modulus (parameters_of a.bytes).set) seeds values (λ j _. seed_long j) (λ k _. value_small k)

    opens_here : Opens F X a e (seed_in wrote) (value_in (parameters_of a.bytes) wrote)
    opens_here = opens_same F X a ca.well_formed e q seeds (seed_in wrote) values (value_in (parameters_of a.bytes) wrote) seeds_back values_back
        (opens_from F X a ca.well_formed e q seeds values shown.0 sums_here)

    opens_there : Opens F X b e (seed_in wrote) (value_in (parameters_of a.bytes) wrote)
    opens_there = opens_same F X b cb.well_formed e q_there seeds (seed_in wrote) values (value_in (parameters_of a.bytes) wrote)
        (λ j r. seeds_back j (subst (λ x. j < parties x) (sym heads) r)) (λ k r. values_back k (subst (λ x. k < x.m) (sym heads) r))
        (opens_from F X b cb.well_formed e q_there seeds values shown_there sums_there)

digests_pass : (F X : Digest) (a : Entry) → Checked F X a → Passes (digest_tests F X a)
digests_pass F X a c = (not_differ _ _ c.first, (not_differ _ _ c.second, tt))

pub extraction : (F X : Digest) → Extraction F X
extraction F X hs s run i j e work room hi hj same q apart enough out-room =
    let a = get_or (entries_of s) i no_entry in
    let b = get_or (entries_of s) j no_entry in
    let x = parameters_of a.bytes in
    let k = kept F X hs s run in
    let is : entries_of s ≡ hs = holds_held hs s k.holds in
    let n : s.count ≡ length hs = k.holds.count in
    let each : AllByRecursion (Checked F X) (entries_of s) = subst (AllByRecursion (Checked F X)) (sym is) k.each in
    let m : length (entries_of s) ≡ s.count = ap length is ∙ sym n in
    let ca : Checked F X a = All-get_or (Checked F X) (entries_of s) i no_entry (omega arith) each in
    let cb : Checked F X b = All-get_or (Checked F X) (entries_of s) j no_entry (omega arith) each in
    let there : Passes (missing_test s i ∷ missing_test s j ∷ []) = (lt-leb s.count i hi, (lt-leb s.count j hj, tt)) in
    let pair : Passes (pair_tests a b e work room) =
    (not_differ _ _ same, (or_from _ _ (lt-leb x.tau e q) (ne_eqb _ _ apart), (le-ltb work (2 * work_words x) enough, (le-ltb room (recovered_length x) out-room, tt)))) in
    let answers : recovers F X s i j e work room ≡ Ok (compared F X a b e) =
    after_passed (missing_test s i ∷ missing_test s j ∷ []) (tt {0}) _ there
    ∙ after_passed (pair_tests a b e work room) (tt {0}) _ pair
    ∙ after_passed (digest_tests F X a) (tt {0}) _ (digests_pass F X a ca)
    ∙ passed (digest_tests F X b) (compared F X a b e) (digests_pass F X b cb) in
    elim (cases_Bool (bytes_eq (rebuilt6 F X a) (rebuilt6 F X b))) [
      | inr six ↦ inl (common_prefix_len eqb (rebuilt6 F X a) (rebuilt6 F X b), answers ∙ ap Ok (cond-false _ _ _ six), collides6 F X a b ca cb same six)
      | inl six ↦
          elim (cases_Bool (bytes_eq (rebuilt7 F X a) (rebuilt7 F X b))) [
            | inr seven ↦ inr (inl (common_prefix_len eqb (rebuilt7 F X a) (rebuilt7 F X b), answers ∙ ap Ok (cond-true _ _ _ six ∙ cond-false _ _ _ seven), collides7 F X a b ca cb same seven))
            | inl seven ↦
                let p = (bytes_eq-Decides (rebuilt6 F X a) (rebuilt6 F X b)).0 six in
                let r = (bytes_eq-Decides (rebuilt7 F X a) (rebuilt7 F X b)).0 seven in
                inr (inr (
                  recovered_bytes F X a b e,
                  answers ∙ ap Ok (cond-true _ _ _ six ∙ cond-true _ _ _ seven),
                  wrote_long F X a b ca cb same e q apart p r,
                  opens_here F X a b ca cb same e q apart p r,
                  opens_there F X a b ca cb same e q apart p r,
                ))
          ]
    ]
