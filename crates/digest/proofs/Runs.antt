-- What a run of calls on a maker comes to.
use Rattle.std.proofs.Common.{◌≡◌, ℕ, zero, suc, ◌+◌, ◌<◌, ◌≤◌, Bool, true, false, cond, ltb, List, [], ◌∷◌, ◌++◌, length, get_or, take, is_ok, Ok, Err, Result, sym, refl, ap, ◌∙◌, subst, arith, Bor, MatchResult}
use mathlib.Core.Path.{fun_ext}
use Rattle.std.proofs.lemmas.List.{append_assoc, append-nil, length-append, take_more, take_all}
use Rattle.std.proofs.lemmas.Bool.{le-ltb, lt-ltb, ltb-true, ltb-false}
use Rattle.protocol.specs.declared.fault.Fault.{Fault}
use Rattle.protocol.specs.declared.fault.Fault.TheVariants.{Turn, PastLimit}
use Rattle.protocol.specs.Streams.{Digest}
use Rattle.protocol.specs.Tests.{first_failing}
use Rattle.digest.specs.Parts.{text_of}
use Rattle.digest.specs.Making.{Making, limit, takes, limit_test, Took, Holding}

module _ {F : Digest} {text : List ℕ} {m : Making} (h : Holding F text m) where
  pub holding_more : {y : List ℕ} {m' : Making} → Took y m m' → Holding F (text ++ y) m'
  holding_more {y} k = record {
    taken = omega (arith, k.taken, h.taken, length-append text y);
    drawn = k.drawn ∙ h.drawn;
    rule_is = λ x i. k.rule_is x i ∙ h.rule_is (y ++ x) i ∙ ap (λ z. F z i) (sym (append_assoc text y x));
  }

  -- what it would give now is the stream of the text
  pub holding_stream : m.rule [] ≡ F text
  holding_stream = fun_ext (λ i. h.rule_is [] i ∙ ap (λ z. F z i) (append-nil text))

  -- a take is refused only past the limit
  pub holding_takes : (n : ℕ) → takes m n ≡ first_failing (limit_test (length text + n) ∷ []) (tt {0})
  holding_takes n = λ i. cond (ltb 0 (h.drawn i)) (Err Turn) (cond (ltb limit (h.taken i + n)) (Err PastLimit) (Ok (tt {0})))

-- a take that the limit allows, on a maker that holds a text: it is not refused, and the maker then holds more
pub taken_ok : (r : Result (Unit {0}) Fault) {F : Digest} {text : List ℕ} {m : Making} (m' : Making) (y : List ℕ)
    → Holding F text m → length text + length y ≤ limit → r ≡ takes m (length y) → MatchResult r (λ _. Took y m m') (λ _. m' ≡ m)
    → (is_ok r ≡ true) × Holding F (text ++ y) m'
taken_ok (Ok u) m' y h le a k = (refl, holding_more h k)
taken_ok (Err f) {F} {text} {m} m' y h le a k =
    let e : Err f ≡ Ok (tt {0}) = a ∙ holding_takes h (length y) ∙ ap (λ b. cond b (Err PastLimit) (Ok (tt {0}))) (le-ltb limit (length text + length y) le) in
    let z : ◌≡◌ {A = ℕ} 0 1 = cc in absurd (omega arith)

-- the text of the parts so far, and of one more
pub text_more : (parts : List (Bor (List ℕ))) (i : ℕ) (d : Bor (List ℕ)) → i < length parts →
    text_of (take (i + 1) parts) ≡ text_of (take i parts) ++ (get_or parts i d).now
text_more parts i d less =
    ap text_of (take_more parts i d less)
    ∙ (joined_both (take i parts) (get_or parts i d ∷ []) ∙ ap (λ x. text_of (take i parts) ++ x) (append-nil (get_or parts i d).now))
  where
    joined_both : (xs ys : List (Bor (List ℕ))) → text_of (xs ++ ys) ≡ text_of xs ++ text_of ys
    joined_both [] ys = refl
    joined_both (x ∷ xs) ys = ap (λ t. x.now ++ t) (joined_both xs ys) ∙ sym (append_assoc x.now (text_of xs) (text_of ys))

-- parts so far are no longer than all of them
pub text_front : (parts : List (Bor (List ℕ))) (i : ℕ) → length (text_of (take i parts)) ≤ length (text_of parts)
text_front [] zero = omega arith
text_front [] (suc i) = omega arith
text_front (p ∷ ps) zero = omega arith
text_front (p ∷ ps) (suc i) =
    let rest = text_front ps i in
    omega (arith, length-append p.now (text_of (take i ps)), length-append p.now (text_of ps))

-- a take that was refused was past the limit
pub refused_past : {F : Digest} {text : List ℕ} {m : Making} (n all : ℕ) (f : Fault) → Holding F text m → Err f ≡ takes m n → length text + n ≤ all →
    Err f ≡ first_failing (limit_test all ∷ []) (tt {0})
refused_past {F} {text} {m} n all f h e le = over (ltb limit (length text + n)) refl (e ∙ holding_takes h n)
  where
    over : (b : Bool) → ltb limit (length text + n) ≡ b → Err f ≡ cond (ltb limit (length text + n)) (Err PastLimit) (Ok (tt {0})) → Err f ≡ first_failing (limit_test all ∷ []) (tt {0})
    over true t a =
        let big : limit < all = let z = ltb-true limit (length text + n) t in omega arith in
        a ∙ (ap (λ b. cond b (Err PastLimit) (Ok (tt {0}))) t ∙ sym (ap (λ b. cond b (Err PastLimit) (Ok (tt {0}))) (lt-ltb limit all big)))
    over false t a =
        let no : Err f ≡ Ok (tt {0}) = a ∙ ap (λ b. cond b (Err PastLimit) (Ok (tt {0}))) t in
        let z : ◌≡◌ {A = ℕ} 0 1 = cc in absurd (omega arith)

-- a take that was accepted was within it
pub accepted_within : {F : Digest} {text : List ℕ} {m : Making} (n : ℕ) → Holding F text m → Ok (tt {0}) ≡ takes m n → length text + n ≤ limit
accepted_within {F} {text} {m} n h e = under (ltb limit (length text + n)) refl (e ∙ holding_takes h n)
  where
    under : (b : Bool) → ltb limit (length text + n) ≡ b → Ok (tt {0}) ≡ cond (ltb limit (length text + n)) (Err PastLimit) (Ok (tt {0})) → length text + n ≤ limit
    under true t a =
        let no : Ok (tt {0}) ≡ Err PastLimit = a ∙ ap (λ b. cond b (Err PastLimit) (Ok (tt {0}))) t in
        let z : ◌≡◌ {A = ℕ} 0 1 = cc in absurd (omega arith)
    under false t a = ltb-false limit (length text + n) t

-- one part more
pub one_more : (parts : List (Bor (List ℕ))) (i : ℕ) (d : Bor (List ℕ)) {F : Digest} {m m' : Making} → i < length parts →
    Holding F (text_of (take i parts)) m → Ok (tt {0}) ≡ takes m (length (get_or parts i d).now) → Took (get_or parts i d).now m m' →
    Holding F (text_of (take (i + 1) parts)) m' × (length (text_of (take (i + 1) parts)) ≤ limit)
one_more parts i d {F} {m} {m'} less h a k =
    let more = text_more parts i d less in
    let within = accepted_within (length (get_or parts i d).now) h a in (
      subst (λ t. Holding F t m') (sym more) (holding_more h k),
      omega (arith, ap length more, length-append (text_of (take i parts)) (get_or parts i d).now),
    )

-- a part that is refused
pub one_refused : (parts : List (Bor (List ℕ))) (i : ℕ) (d : Bor (List ℕ)) {F : Digest} {m : Making} (f : Fault) → i < length parts →
    Holding F (text_of (take i parts)) m → Err f ≡ takes m (length (get_or parts i d).now) → Err f ≡ first_failing (limit_test (length (text_of parts)) ∷ []) (tt {0})
one_refused parts i d f less h a =
    let more = text_more parts i d less in
    refused_past (length (get_or parts i d).now) (length (text_of parts)) f h a
    (omega (arith, ap length more, length-append (text_of (take i parts)) (get_or parts i d).now, text_front parts (i + 1)))

-- all parts were taken
pub all_taken : (parts : List (Bor (List ℕ))) (i : ℕ) {F : Digest} {m : Making} → length parts ≤ i → Holding F (text_of (take i parts)) m →
    length (text_of (take i parts)) ≤ limit →
    (Ok (tt {0}) ≡ first_failing (limit_test (length (text_of parts)) ∷ []) (tt {0})) × Holding F (text_of parts) m
all_taken parts i {F} {m} end h le =
    let all : take i parts ≡ parts = take_all i parts end in (
      sym (ap (λ b. cond b (Err PastLimit) (Ok (tt {0}))) (le-ltb limit (length (text_of parts)) (subst (λ p. length (text_of p) ≤ limit) all le))),
      subst (λ p. Holding F (text_of p) m) all h,
    )
