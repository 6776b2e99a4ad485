-- What open writes, lodge accepts with open's answers.
use Rattle.std.proofs.Common.{◌≡◌, ℕ, ◌+◌, ◌*◌, ◌<◌, ◌≤◌, not, ◌&&◌, eqb, List, [], ◌∷◌, ◌++◌, length, get_or, take, Ok, sym, ap, ◌∙◌, subst, arith}
use Rattle.std.proofs.lemmas.List.{get_or-take, take_all}
use Rattle.std.proofs.lemmas.List.FromFn.{length-map-range_with_len}
use Rattle.std.proofs.lemmas.Bool.{le-ltb, not-false, eqb-true, eq-eqb, not_from_true}
use Rattle.protocol.specs.Parameters.{Parameters}
use Rattle.guarantee.proofs.Passing.{Passes, accepted, passed, after_ok}
use Rattle.guarantee.proofs.Books.{holds_held}
use Rattle.guarantee.proofs.Heads.{bare_passes}
use Rattle.guarantee.proofs.Keeping.{same_when, kept, custody}
use Rattle.guarantee.proofs.Extracting.{after_passed, not_differ, header_take, extraction}
use Rattle.guarantee.proofs.Opening.{Ready, r_long, header_part, salt_part, d1_part, d2_part, six_honest, seven_honest, body_passes}
use Rattle.protocol.specs.Book.{State, appended, lodges, room_tests, body_tests, digest_tests}
use Rattle.protocol.specs.Ceremony.{Committed, Keyed, key_tests, with_d2, open_tests, memory_test, text_six, text_seven, opening, hides, before_key, record_bytes}
use Rattle.protocol.specs.Entry.{transcript, setting_of, chosen, rebuilt6, rebuilt7, salt_of, d1_of, d2_of}
use Rattle.protocol.specs.Guarantee.{Completeness, Guarantee}
use Rattle.protocol.specs.Header.{parameters_of, header_tests, bare_tests, limits, length_test, checks_header, reads_record}
use Rattle.protocol.specs.Layout.{record_length, entry_length}
use Rattle.protocol.specs.Parameters.{width, sigma, parties, work_words}
use Rattle.protocol.specs.Runs.{Commits, Keys, lodged, committed, key_refused, keyed, open_refused, opened}
use Rattle.protocol.specs.Scheme.{setting, transcript_of}
use Rattle.protocol.specs.Selection.{selected, hidden_parties}
use Rattle.protocol.specs.Sharing.{text6, text7}
use Rattle.protocol.specs.Streams.{Digest, First, Second, GivesBytes, first_bytes, drawn}
use Rattle.protocol.specs.Tests.{first_failing, after}

drawn_long : (F : Digest) (text : List ℕ) (n : ℕ) → length (drawn F text n) ≡ n
unfolding first_bytes
drawn_long F text n = length-map-range_with_len (F text) 0 n

record Sworn (c : Committed) : Type 0 where
  header : length c.header ≡ 15
  tests : Passes (header_tests c.header)
  salt : length c.salt ≡ 32
  d1 : length c.d1 ≡ 32

sworn : (F X : Digest) (c : Committed) → Commits F X c → Sworn c
sworn F X c (committed header salt master attributes work hl sl ml p) =
    let x = parameters_of header in
    let one = after_ok (checks_header header) _ c p in
    let heads = accepted (bare_tests header) x one.0 one.1 in
    let given : Parameters → Committed = λ y. record { header = header; salt = salt; master = master; d1 = drawn F (text_six F X header salt master attributes) (width y) } in
    let made : Committed = given x in
    let then = subst (λ y. first_failing (length_test (length attributes) y.a ∷ memory_test work (work_words y) ∷ []) (given y) ≡ Ok c) (sym heads.1) one.2 in
    let rest = accepted (length_test (length attributes) x.a ∷ memory_test work (work_words x) ∷ []) made c then in
    let here : Sworn made = record { header = hl; tests = bare_passes header hl heads.0; salt = sl; d1 = drawn_long F (text_six F X header salt master attributes) 32 } in
    subst Sworn rest.1 here
sworn F X c (key_refused before G1 attributes seed_a work room f p) = sworn F X c before

ready : (F X : Digest) (k : Keyed) → Keys F X k → Ready k
ready F X k (keyed {c} before G1 attributes seed_a work room long p) =
    let w = sworn F X c before in
    let rest = accepted (key_tests F X G1 c attributes seed_a work room) (with_d2 F X G1 c attributes seed_a) k p in
    subst Ready rest.1 (record { header = w.header; tests = w.tests; salt = w.salt; d1 = w.d1; seed_a = long; d2 = drawn_long F (text_seven F X G1 c attributes seed_a) 32 })
ready F X k (open_refused before G1 G2 attributes work room f p) = ready F X k before

-- the tests of a header look at fifteen bytes, and at whether there are more
longer_passes : (header r : List ℕ) → length header ≡ 15 → take 15 r ≡ header → 15 ≤ length r → Passes (header_tests header) → Passes (header_tests r)
longer_passes header r hl is long (short, (mark, (version, rest))) = (
  le-ltb (length r) 15 long,
  (
    (λ i. not (eqb (back 0 (omega arith) i) 75 && (eqb (back 1 (omega arith) i) 80 && eqb (back 2 (omega arith) i) 80))) ∙ mark,
    (
      (λ i. not (eqb (back 3 (omega arith) i + 256 * back 4 (omega arith) i) 1)) ∙ version,
      subst (λ x. Passes (limits x)) (sym heads) rest,
    ),
  ),
)
  where
    back : (k : ℕ) → k < 15 → get_or r k 0 ≡ get_or header k 0
    back k h = sym (get_or-take 15 r k 0 h) ∙ ap (λ z. get_or z k 0) is

    heads : parameters_of r ≡ parameters_of header
    heads = header_take r ∙ ap parameters_of is

module _ (F X : Digest) (bytes : GivesBytes F) (G1 : First) (G2 : Second) (k : Keyed) (attributes : List ℕ) (ok : Ready k)
    (attributes-long : length attributes ≡ (parameters_of k.header).a)
    (first-met : drawn F (text_six F X k.header k.salt k.master attributes) 32 ≡ k.d1)
    (second-met : drawn F (text_seven F X G1 (before_key F X G1 G2 k attributes) attributes k.seed_a) 32 ≡ k.d2)
    (H1 : First) (H2 : Second) (one : H1 k.salt k.d1 ≡ G1 k.salt k.d1) (two : H2 k.salt k.d1 k.d2 ≡ G2 k.salt k.d1 k.d2) where
  abbrev x : Parameters
  x = parameters_of k.header

  abbrev r : List ℕ
  r = record_bytes F X G1 G2 k attributes

  is_header : take 15 r ≡ k.header
  is_header = header_part F X bytes G1 G2 k attributes ok attributes-long

  pub heads : parameters_of r ≡ x
  heads = header_take r ∙ ap parameters_of is_header

  long : length r ≡ record_length x
  long = r_long F X bytes G1 G2 k attributes ok attributes-long

  salt_is : salt_of r ≡ k.salt
  salt_is = salt_part F X bytes G1 G2 k attributes ok attributes-long

  d1_is : d1_of r ≡ k.d1
  d1_is = d1_part F X bytes G1 G2 k attributes ok attributes-long

  d2_is : d2_of r ≡ k.d2
  d2_is = d2_part F X bytes G1 G2 k attributes ok attributes-long

  reads_ok : reads_record r ≡ Ok (parameters_of r)
  reads_ok =
      after_passed (header_tests r) (parameters_of r) _ (longer_passes k.header r ok.header is_header (omega (arith, long)) ok.tests)
      ∙ passed (length_test (length r) (record_length (parameters_of r)) ∷ []) (parameters_of r)
      (not_from_true _ (eq-eqb (length r) (record_length (parameters_of r)) (long ∙ ap record_length (sym heads))), tt)

  hides_is : (chosen H1 H2 r).hidden ≡ hides F X G1 G2 k attributes
  hides_is =
      (λ i. hidden_parties (H2 (salt_is i) (d1_is i) (d2_is i)) (parties (heads i)) (heads i).tau)
      ∙ ap (λ s. hidden_parties s (parties x) x.tau) two

  flags_is : (chosen H1 H2 r).flags ≡ (opening F X G1 G2 k attributes).flags
  flags_is = (λ i. selected (H1 (salt_is i) (d1_is i)) (heads i).m (sigma (heads i))) ∙ ap (λ s. selected s x.m (sigma x)) one

  fifteen : take 15 r ≡ take 15 k.header
  fifteen = is_header ∙ sym (take_all 15 k.header (let z = ok.header in omega arith))

  same_setting : setting_of F X r ≡ setting_of F X k.header
  same_setting = λ i. setting F X (heads i) (fifteen i)

  same_transcript : transcript F (chosen H1 H2 r) ≡ transcript_of F x r (hides F X G1 G2 k attributes) (opening F X G1 G2 k attributes).flags
  same_transcript = λ i. transcript_of F (heads i) r (hides_is i) (flags_is i)

  first_ok : drawn F (rebuilt6 F X (chosen H1 H2 r)) 32 ≡ d1_of r
  first_ok =
      (λ i. drawn F (text6 (same_setting i) (same_transcript i)) 32)
      ∙ ap (λ t. drawn F t 32) (six_honest F X bytes G1 G2 k attributes ok attributes-long)
      ∙ first-met ∙ sym d1_is

  second_ok : drawn F (rebuilt7 F X (chosen H1 H2 r)) 32 ≡ d2_of r
  second_ok =
      (λ i. drawn F (text7 (same_setting i) (same_transcript i)) 32)
      ∙ ap (λ t. drawn F t 32) (seven_honest F X bytes G1 G2 k attributes ok attributes-long)
      ∙ second-met ∙ sym d2_is

  pub lodge_accepts : (s : State) (work : ℕ) → work_words (parameters_of r) ≤ work → s.used + entry_length (parameters_of r) ≤ length s.memory → lodges F X H1 H2 s r work ≡ Ok s.count
  lodge_accepts s work enough room =
      ap (λ z. after z (λ x. after (first_failing (room_tests s x work) (tt {0})) (λ _. after (first_failing (body_tests r x) (tt {0})) (λ _. first_failing (digest_tests F X (chosen H1 H2 r)) s.count)))) reads_ok
      ∙ after_passed (room_tests s (parameters_of r) work) (tt {0}) _ (le-ltb work _ enough, (le-ltb _ _ room, tt))
      ∙ after_passed (body_tests r (parameters_of r)) (tt {0}) _ (subst (λ y. Passes (body_tests r y)) (sym heads) (body_passes F X bytes G1 G2 k attributes ok attributes-long))
      ∙ passed (digest_tests F X (chosen H1 H2 r)) s.count (not_differ _ _ first_ok, (not_differ _ _ second_ok, tt))

pub completeness : (F X : Digest) → GivesBytes F → Completeness F X
completeness F X bytes hs s run k G1 G2 _ (opened before G1' G2' attributes open_work open_room n p) H1 H2 one two work enough room =
    let tests = (accepted (open_tests F X G1 G2 k attributes open_work open_room) (record_length (parameters_of k.header)) n p).0 in
    let accepts = lodge_accepts F X bytes G1 G2 k attributes (ready F X k before)
    (eqb-true _ _ (not-false _ tests.0)) (same_when _ _ tests.1.1.1.0) (same_when _ _ tests.1.1.1.1.0) H1 H2 one two s work enough room in
    let r = record_bytes F X G1 G2 k attributes in
    let more = kept F X (hs ++ chosen H1 H2 r ∷ []) (appended s (chosen H1 H2 r)) (lodged run H1 H2 r work s.count accepts) in
    let old = kept F X hs s run in
    (accepts, holds_held _ _ more.holds ∙ ap (λ z. z ++ chosen H1 H2 r ∷ []) (sym (holds_held hs s old.holds)))

pub guarantee : Guarantee
guarantee F X bytes = record { custody = custody F X; completeness = completeness F X bytes; extraction = extraction F X }
