-- What questions and fills come to.
use Rattle.std.proofs.Common.{◌≡◌, ℕ, ◌+◌, ◌≤◌, true, cond, not, ltb, List, length, is_some, is_ok, Some, Ok, Err, Option, Result, sym, refl, ap, ◌∙◌, subst, add_assoc, zero-add, arith, MatchResult}
use mathlib.Core.Path.{fun_ext}
use Rattle.std.proofs.lemmas.Bool.{le-ltb}
use Rattle.protocol.specs.declared.fault.Fault.{Fault}
use Rattle.protocol.specs.declared.fault.Fault.TheVariants.{Turn, PastLimit}
use Rattle.protocol.specs.Streams.{First, Second, first_bytes}
use Rattle.digest.specs.Making.{Making, limit, Drew}
use Rattle.challenge.specs.Answering.{Answering, Started, Filled, Reading, nexts, stream_of, by_maker}

-- a fill that is drawn from the maker of a challenger that was asked
pub next_by_maker : (G1 : First) (G2 : Second) (o : Option Making) (m m' : Making) (r : Result (Unit {0}) Fault) (old out : List ℕ) → o ≡ Some m →
    MatchResult r (λ _. Drew out m m') (λ _. (out ≡ old) × (m' ≡ m)) →
    MatchResult r (λ _. Filled out (by_maker G1 G2 o) (by_maker G1 G2 (Some m'))) (λ _. (out ≡ old) × (by_maker G1 G2 (Some m') ≡ by_maker G1 G2 o))
next_by_maker G1 G2 o m m' (Ok u) old out e k =
    subst (λ z. Filled out (by_maker G1 G2 z) (by_maker G1 G2 (Some m'))) (sym e)
    (record { bytes = k.bytes; first = refl; second = refl; rest = ap Some (fun_ext (λ i. k.rest i)); filled = k.drawn })
next_by_maker G1 G2 o m m' (Err f) old out e k = (k.0, ap (λ n. by_maker G1 G2 (Some n)) k.1 ∙ ap (by_maker G1 G2) (sym e))

pub started_reads : {s : ℕ → ℕ} {o m : Answering} → Started s o m → Reading s 0 o m
started_reads {s} k = record {
  first = k.first;
  second = k.second;
  rest = k.rest ∙ ap Some (fun_ext (λ i. ap s (sym (zero-add i))));
  filled = k.filled;
}

-- a fill of n bytes that the limit allows: it is not refused, gives the next n bytes, and the reading goes on after them
pub filled_ok : (r : Result (Unit {0}) Fault) {s : ℕ → ℕ} {u : ℕ} {o m : Answering} (m' : Answering) (n : ℕ) (old out : List ℕ)
    → Reading s u o m → u + n ≤ limit → length old ≡ n → length out ≡ n
    → r ≡ nexts m (length old) → MatchResult r (λ _. Filled out m m') (λ _. (out ≡ old) × (m' ≡ m))
    → (is_ok r ≡ true) × (out ≡ first_bytes (λ i. s (u + i)) n) × Reading s (u + n) o m'
filled_ok (Ok x) {s} {u} {o} {m} m' n old out h le was len a k = (
  refl,
  k.bytes ∙ (λ z. first_bytes (stream_of (h.rest z)) (len z)),
  record {
    first = k.first ∙ h.first;
    second = k.second ∙ h.second;
    rest = k.rest ∙ (λ z. Some (λ i. stream_of (h.rest z) (len z + i))) ∙ ap Some (fun_ext (λ i. ap s (sym (add_assoc u n i))));
    filled = k.filled ∙ (λ z. h.filled z + len z);
  },
)
filled_ok (Err f) {s} {u} {o} {m} m' n old out h le was len a k =
    let told : nexts m (length old) ≡ Ok (tt {0}) =
    (λ z. cond (not (is_some (h.rest z))) (Err Turn) (cond (ltb limit (h.filled z + was z)) (Err PastLimit) (Ok (tt {0}))))
    ∙ ap (λ b. cond b (Err PastLimit) (Ok (tt {0}))) (le-ltb limit (u + n) le) in
    let e : Err f ≡ Ok (tt {0}) = a ∙ told in
    let z : ◌≡◌ {A = ℕ} 0 1 = cc in absurd (omega arith)
