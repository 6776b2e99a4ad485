-- What takes and draws within the limit come to.
use Rattle.std.proofs.Common.{◌≡◌, ℕ, zero, suc, ◌+◌, ◌*◌, ◌≤◌, true, cond, ltb, List, [], ◌++◌, length, is_ok, Ok, Err, Result, sym, refl, ap, ◌∙◌, subst, add-one, arith, MatchResult}
use Rattle.std.proofs.lemmas.List.{append_assoc, length-append}
use Rattle.std.proofs.lemmas.Bool.{le-ltb}
use Rattle.protocol.specs.declared.fault.Fault.{Fault}
use Rattle.protocol.specs.declared.fault.Fault.TheVariants.{Turn, PastLimit}
use Rattle.protocol.specs.Sharing.{parts}
use Rattle.digest.specs.Feeding.{Ready}
use Rattle.digest.specs.Making.{Making, limit, takes, draws, Took, Drew}

-- a take within the limit is not refused
pub ready_takes : (m : Making) (n : ℕ) → Ready n m → takes m n ≡ Ok (tt {0})
ready_takes m n r =
    (λ i. cond (ltb 0 (r.0 i)) (Err Turn) (cond (ltb limit (m.taken + n)) (Err PastLimit) (Ok (tt {0}))))
    ∙ ap (λ b. cond b (Err PastLimit) (Ok (tt {0}))) (le-ltb limit (m.taken + n) r.1)

pub took_ok : (r : Result (Unit {0}) Fault) (m m' : Making) (y : List ℕ) → Ready (length y) m → r ≡ takes m (length y) →
    MatchResult r (λ _. Took y m m') (λ _. m' ≡ m) → (is_ok r ≡ true) × Took y m m'
took_ok (Ok u) m m' y ready a k = (refl, k)
took_ok (Err f) m m' y ready a k = let e : Err f ≡ Ok (tt {0}) = a ∙ ready_takes m (length y) ready in let z : ◌≡◌ {A = ℕ} 0 1 = cc in absurd (omega arith)

-- a draw within the limit is not refused
pub drew_ok : (r : Result (Unit {0}) Fault) (m m' : Making) (old out : List ℕ) → m.drawn + length old ≤ limit → r ≡ draws m (length old) →
    MatchResult r (λ _. Drew out m m') (λ _. (out ≡ old) × (m' ≡ m)) → (is_ok r ≡ true) × Drew out m m'
drew_ok (Ok u) m m' old out le a k = (refl, k)
drew_ok (Err f) m m' old out le a k =
    let e : Err f ≡ Ok (tt {0}) = a ∙ ap (λ b. cond b (Err PastLimit) (Ok (tt {0}))) (le-ltb limit (m.drawn + length old) le) in
    let z : ◌≡◌ {A = ℕ} 0 1 = cc in absurd (omega arith)

pub took_none : (m : Making) → Took [] m m
took_none m = record { taken = omega arith; drawn = refl; rule_is = λ x i. refl }

pub took_both : {y z : List ℕ} {m m' m'' : Making} → Took y m m' → Took z m' m'' → Took (y ++ z) m m''
took_both {y} {z} {m} a b = record {
  taken = omega (arith, b.taken, a.taken, length-append y z);
  drawn = b.drawn ∙ a.drawn;
  rule_is = λ x i. b.rule_is x i ∙ a.rule_is (z ++ x) i ∙ ap (λ w. m.rule w i) (sym (append_assoc y z x));
}

-- one part more
pub took_next : (n : ℕ) (f : ℕ → List ℕ) {m m' m'' : Making} → Took (parts n f) m m' → Took (f n) m' m'' → Took (parts (n + 1) f) m m''
took_next n f {m} {m'} {m''} a b = subst (λ w. Took w m m'') (ap (λ i. parts i f) (sym (add-one n))) (took_both a b)

-- what is left to be taken
pub ready_after : (m m' : Making) (y : List ℕ) (n k : ℕ) → Ready n m → length y + k ≤ n → Took y m m' → Ready k m'
ready_after m m' y n k r le t = (t.drawn ∙ r.0, omega (arith, t.taken, r.1))

pub length-parts_most : (n w : ℕ) (f : ℕ → List ℕ) → ((j : ℕ) → length (f j) ≤ w) → length (parts n f) ≤ w * n
length-parts_most zero w f e = omega arith
length-parts_most (suc n) w f e = omega (arith, length-append (parts n f) (f n), length-parts_most n w f e, e n)
