-- What the calls of a SHAKE256 maker do to what it means, and SHAKE in one call.
use Rattle.std.proofs.Common.{◌≡◌, ℕ, ◌+◌, ◌<◌, cond, eqb, List, [], ◌++◌, length, get_or, take, replicate, refl, ap, ◌∙◌, ap₂, zero-add, arith}
use Rattle.std.proofs.lemmas.List.FromFn.{fill_by_all}
use Rattle.std.proofs.lemmas.List.{append-nil}
use Rattle.std.proofs.lemmas.Bool.{cond-true, cond-false, eq-eqb, ne_eqb}
use Rattle.protocol.specs.Streams.{first_bytes}
use Rattle.digest.specs.Making.{Making, Holding, Drew}
use Rattle.keccak.specs.declared.state.Shake256.{Shake256}
use Rattle.keccak.specs.Sponge.{sponge, stream, shake, shake256}
use Rattle.keccak.specs.declared.state.Sponge.{Sponge}
use Rattle.keccak.specs.Meaning.{absorbing, giving, by_absorbing, by_squeezing, meaning, Blank}

pub blank_holds : (s : Shake256) → Blank s → Holding shake256 [] (meaning s)
unfolding shake
blank_holds s ((lanes, block, filled, used), taken, drawn) = record {
  taken = taken;
  drawn = drawn;
  rule_is = λ x i.
      cond-true (eqb s.drawn 0) (by_absorbing s x i) (by_squeezing s i) (eq-eqb s.drawn 0 drawn)
      ∙ ap₂ (λ a n. stream 136 (sponge 136 a (take n s.sponge.block ++ x)) i) lanes filled;
}

-- once something was drawn, the lanes give what is to come
pub once_drawn : (drawn a b : ℕ) → 0 < drawn → cond (eqb drawn 0) a b ≡ b
once_drawn drawn a b h = cond-false (eqb drawn 0) a b (ne_eqb drawn 0 (λ e. omega arith))

pub drew_none : (out : List ℕ) (m : Making) → length out ≡ 0 → Drew out m m
unfolding first_bytes
drew_none out m none = record {
  bytes = fill_by_all (m.rule []) out (length out) 0 refl (λ k h. absurd (omega arith));
  taken = refl;
  drawn = omega arith;
  rest = λ i. let e : i ≡ length out + i = omega arith in ap (m.rule []) e;
  undrawn = λ _ x i. refl;
}

pub drew_some : (out : List ℕ) (m m' : Making) → 0 < length out → ((k : ℕ) → k < length out → get_or out k 0 ≡ m.rule [] k)
    → m'.taken ≡ m.taken → m'.drawn ≡ m.drawn + length out → ((i : ℕ) → m'.rule [] i ≡ m.rule [] (length out + i)) → Drew out m m'
unfolding first_bytes
drew_some out m m' some bytes taken drawn rest = record {
  bytes = fill_by_all (m.rule []) out (length out) 0 refl bytes;
  taken = taken;
  drawn = drawn;
  rest = rest;
  undrawn = λ none x i. absurd (omega arith);
}

-- SHAKE of a text, which the sponge t has taken; c is t closed
pub shaken : (r : ℕ) (text out : List ℕ) (n : ℕ) (t c : Sponge r) → length out ≡ n
    → ((x : List ℕ) → absorbing r t x ≡ sponge r (replicate 25 0) (text ++ x)) → c.lanes ≡ absorbing r t [] → c.used ≡ 0
    → ((k : ℕ) → k < n → get_or out k 0 ≡ giving r c k) → out ≡ first_bytes (shake r text) n
unfolding first_bytes shake
shaken r text out n t c long taken closed unused given =
    let e : c.lanes ≡ sponge r (replicate 25 0) text = closed ∙ taken [] ∙ ap (sponge r (replicate 25 0)) (append-nil text) in
    fill_by_all (stream r (sponge r (replicate 25 0) text)) out n 0 long
    (λ k h. given k h ∙ ap₂ (stream r) e (ap (λ u. u + k) unused ∙ zero-add k))
