use Rattle.std.proofs.Common.{◌≡◌, ◌≢◌, ℕ, ◌+◌, ◌*◌, ◌/◌, ◌%◌, get_or, set, sym, ap, ◌∙◌, subst, inl, inr, arith, length-set, get_or-set_other, get_or-set_same}
use Rattle.std.proofs.lemmas.Bool.{cases_lt}
use Rattle.std.proofs.lemmas.List.FromFn.{fill_by_all}
use Rattle.keccak.proofs.rounds.state_of.Goals as goal

-- a fact of three numbers, moved to their equals
at_equals : (P : ℕ → ℕ → ℕ → Type 0) (a b c x y z : ℕ) → a ≡ x → b ≡ y → c ≡ z → P a b c → P x y z
at_equals P a b c x y z d e f h = subst (λ v. P v y z) d (subst (λ v. P a v z) e (subst (P a b) f h))

pub loop-x-preserved : goal.loop-x-preserved
loop-x-preserved g c =
    let x = c.loop-x.x in
    let y = c.loop-y.y in
    let i = 5 * y + x in
    let written = set c.loop-x.lanes i c.f.result in
    let here : get_or written i 0 ≡ c.f.result = get_or-set_same c.loop-x.lanes i c.f.result 0 (omega arith) in (
      length-set c.loop-x.lanes i c.f.result ∙ c.loop-x.invariant.0,
      (λ k h.
          elim (cases_lt k i) [
            | inl l ↦ let ne : k ≢ i = omega arith in rw get_or-set_other (c.loop-x.invariant.1 k l)
            | inr l ↦
                let e : i ≡ k = omega arith in
                at_equals (goal.F-post g c.args.f) x y c.f.result (k % 5) (k / 5) (get_or written k 0) (omega arith) (omega arith)
                (sym here ∙ ap (λ j. get_or written j 0) e) c.f.ensures
          ]),
    )

pub returns : goal.returns
returns g c = λ h is.
    fill_by_all (λ k. h (k % 5) (k / 5)) c.loop-y.lanes 25 0 c.loop-y.invariant.0
    (λ k l. is (k % 5) (k / 5) (get_or c.loop-y.lanes k 0) (omega arith) (omega arith) (c.loop-y.invariant.1 k (omega arith)))
