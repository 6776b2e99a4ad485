-- What is known of a well-formed entry, and what makes one.
use Rattle.std.proofs.Common.{◌≡◌, ℕ, ◌<◌, true, false, not, eqb, ltb, List, [], ◌∷◌, ◌++◌, length, get_or, Decides, refl, inl, inr, arith}
use Rattle.std.specs.List.{AllByRecursion}
use Rattle.std.proofs.ByRecursion.{All-get_or, All-from_get_or, All-push, All-weaker, Decides-by_and}
use Rattle.std.proofs.lemmas.List.{get_or_past}
use Rattle.std.proofs.lemmas.Bool.{and_parts, and_from, cases_lt, eq-eqb, eqb-true, not-true, not_from_false}
use Rattle.std.proofs.lemmas.Bool.Decides.{Decides-ltb}
use Rattle.protocol.specs.Book.{well_formed, all_well_formed, passes, all_below, body_tests}
use Rattle.protocol.specs.Entry.{Entry}
use Rattle.protocol.specs.Flags.{ones}
use Rattle.protocol.specs.Header.{parameters_of, header_tests}
use Rattle.protocol.specs.Layout.{record_length}
use Rattle.protocol.specs.Parameters.{sigma, parties}
use Rattle.protocol.specs.Tests.{Test}
use Rattle.guarantee.proofs.Books.{Told}
use Rattle.guarantee.proofs.Heads.{facts}
use Rattle.guarantee.proofs.Keeping.{WellFormed, well_formed_told}
use Rattle.guarantee.proofs.Passing.{Passes}

passes_decides : (ts : List Test) → Decides (passes ts) (Passes ts)
passes_decides = Decides-by_and (λ t. not t.fails) (λ t. t.fails ≡ false) passes (λ t. (not-true t.fails, not_from_false t.fails)) refl (λ _ _. refl)

below_decides : (n : ℕ) (ks : List ℕ) → Decides (all_below n ks) (AllByRecursion (λ k. k < n) ks)
below_decides n = Decides-by_and (λ k. ltb k n) (λ k. k < n) (all_below n) (λ k. Decides-ltb k n) refl (λ _ _. refl)

-- flags that are 0 or 1, and 0 past the last
flags_tell : (flags : List ℕ) → AllByRecursion (λ k. k < 2) flags → (k : ℕ) → get_or flags k 0 < 2
flags_tell flags all k =
    elim (cases_lt k (length flags)) [
      | inl h ↦ All-get_or (λ n. n < 2) flags k 0 h all
      | inr h ↦ let past = get_or_past flags k 0 h in omega arith
    ]

pub formed : (a : Entry) → well_formed a ≡ true → WellFormed a
unfolding well_formed
formed a e =
    let p = parameters_of a.bytes in
    let one = and_parts (passes (header_tests a.bytes)) _ e in
    let two = and_parts (eqb (length a.bytes) (record_length p)) _ one.1 in
    let three = and_parts (eqb (length a.hidden) p.tau) _ two.1 in
    let four = and_parts (all_below (parties p) a.hidden) _ three.1 in
    let five = and_parts (eqb (length a.flags) p.m) _ four.1 in
    let six = and_parts (all_below 2 a.flags) _ five.1 in
    let seven = and_parts (eqb (ones a.flags) (sigma p)) _ six.1 in
    let repetitions : length a.hidden ≡ p.tau = eqb-true _ _ three.0 in
    record {
      facts = facts a.bytes ((passes_decides (header_tests a.bytes)).0 one.0);
      long = eqb-true _ _ two.0;
      hidden_long = repetitions;
      hidden = λ e q. All-get_or (λ n. n < parties p) a.hidden e 0 (omega arith) ((below_decides (parties p) a.hidden).0 four.0);
      flags_long = eqb-true _ _ five.0;
      flag = flags_tell a.flags ((below_decides 2 a.flags).0 six.0);
      flags_many = eqb-true _ _ seven.0;
      body = (passes_decides (body_tests a.bytes p)).0 seven.1;
    }

-- the header at the front of its record is accepted
pub heads : (a : Entry) → well_formed a ≡ true → Passes (header_tests a.bytes)
unfolding well_formed
heads a e = (passes_decides (header_tests a.bytes)).0 (and_parts (passes (header_tests a.bytes)) _ e).0

-- for a call that has tested an entry
pub well_formed_from : (a : Entry) → Passes (header_tests a.bytes) → WellFormed a → well_formed a ≡ true
unfolding well_formed
well_formed_from a heads form =
    let p = parameters_of a.bytes in
    and_from _ _ ((passes_decides (header_tests a.bytes)).1 heads)
    (and_from _ _ (eq-eqb _ _ form.long)
    (and_from _ _ (eq-eqb _ _ form.hidden_long)
    (and_from _ _ ((below_decides (parties p) a.hidden).1 (All-from_get_or (λ n. n < parties p) a.hidden 0 (λ e q. form.hidden e (let l = form.hidden_long in omega arith))))
    (and_from _ _ (eq-eqb _ _ form.flags_long)
    (and_from _ _ ((below_decides 2 a.flags).1 (All-from_get_or (λ n. n < 2) a.flags 0 (λ k q. form.flag k)))
    (and_from _ _ (eq-eqb _ _ form.flags_many) ((passes_decides (body_tests a.bytes p)).1 form.body)))))))

pub told : (a : Entry) → well_formed a ≡ true → Told a
told a e = well_formed_told a (formed a e)

each_decides : (hs : List Entry) → Decides (all_well_formed hs) (AllByRecursion (λ a. well_formed a ≡ true) hs)
each_decides = Decides-by_and well_formed (λ a. well_formed a ≡ true) all_well_formed (λ a. (λ e. e, λ e. e)) refl (λ _ _. refl)

pub all_told : (hs : List Entry) → all_well_formed hs ≡ true → AllByRecursion Told hs
all_told hs e = All-weaker (λ a. well_formed a ≡ true) Told told hs ((each_decides hs).0 e)

pub formed_at : (hs : List Entry) (k : ℕ) (d : Entry) → all_well_formed hs ≡ true → k < length hs → well_formed (get_or hs k d) ≡ true
formed_at hs k d e h = All-get_or (λ a. well_formed a ≡ true) hs k d h ((each_decides hs).0 e)

pub formed_push : (hs : List Entry) (a : Entry) → all_well_formed hs ≡ true → well_formed a ≡ true → all_well_formed (hs ++ a ∷ []) ≡ true
formed_push hs a all here = (each_decides (hs ++ a ∷ [])).1 (All-push (λ b. well_formed b ≡ true) hs a ((each_decides hs).0 all) here)
