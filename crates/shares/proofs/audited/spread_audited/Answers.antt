use Rattle.std.proofs.Common.{◌≡◌, ℕ, zero, suc, ◌+◌, ◌≤◌, eqb, List, map, get_or, pos, sym, ap, ◌∙◌, inl, inr, add-one, arith, below_more}
use Rattle.std.proofs.lemmas.List.FromFn.{fill_by_all}
use Rattle.std.proofs.lemmas.List.{get_or-set_same, get_or-set_other}
use Rattle.std.proofs.lemmas.Bool.{cases_Bool, cond-true, cond-false, eq-eqb, ne_eqb}
use Rattle.protocol.specs.Flags.{audited_before}
use Rattle.protocol.specs.Parameters.{modulus}
use Rattle.protocol.specs.Residues.{residue}
use Rattle.protocol.specs.Sampling.{signed}
use Rattle.protocol.specs.Sets.{number}
use Rattle.shares.specs.Shown.{spread}
use Rattle.shares.proofs.audited.spread_audited.Goals as goal
use Rattle.shares.proofs.audited.spread_audited.Goals.{then-flags-k-ne1, else-flags-k-ne1}

few : (flags : List ℕ) (k : ℕ) → audited_before flags k ≤ k
few flags zero = omega arith
few flags (suc k) =
    elim (cases_Bool (eqb (get_or flags k 0) 1)) [
      | inl t ↦ omega (arith, few flags k, cond-true _ (audited_before flags k) (audited_before flags k + 1) t)
      | inr t ↦ omega (arith, few flags k, cond-false _ (audited_before flags k) (audited_before flags k + 1) t)
    ]

pub overflow_add-next : goal.overflow_add-next
overflow_add-next c = omega (arith, few c.args.flags.now c.loop-k.k)

kept_more : (flags : List ℕ) (k : ℕ) → get_or flags k 0 ≡ 1 → audited_before flags (k + 1) ≡ audited_before flags k
kept_more flags k e = ap (audited_before flags) (add-one k) ∙ cond-true _ _ _ (eq-eqb (get_or flags k 0) 1 e)

audited_more : (flags : List ℕ) (k : ℕ) → (get_or flags k 0 ≡ 1 → ⊥) → audited_before flags (k + 1) ≡ audited_before flags k + 1
audited_more flags k e = ap (audited_before flags) (add-one k) ∙ cond-false _ _ _ (ne_eqb (get_or flags k 0) 1 e)

pub loop-k-preserved : goal.loop-k-preserved
loop-k-preserved c =
    let k = c.loop-k.k in
    let flags = c.args.flags.now in
    let values = c.loop-k.values in (
      elim c.if-flags-k-ne1.branch [
        | then-flags-k-ne1 w ↦ w.next-is ∙ ap (λ n. n + 1) c.loop-k.invariant.0 ∙ sym (audited_more flags k w.if-flags-k-ne1.true)
        | else-flags-k-ne1 w ↦ w.next-is ∙ c.loop-k.invariant.0 ∙ sym (kept_more flags k w.if-flags-k-ne1.false)
      ],
      below_more _ k
          (λ i q. get_or-set_other values k i _ 0 (λ o. omega arith) ∙ c.loop-k.invariant.1 i q)
          (get_or-set_same values k _ 0 (omega arith) ∙ c.residue_at.ensures ∙ ap (λ n. residue (modulus (number c.args.header.set)) (get_or (map signed c.args.bytes.now) n (pos 0))) c.loop-k.invariant.0),
    )

pub returns : goal.returns
unfolding spread
returns c =
    let flags = c.args.flags.now in
    let bytes = c.args.bytes.now in
    fill_by_all (λ k. residue (modulus (number c.args.header.set)) (get_or (map signed bytes) (audited_before flags k) (pos 0))) c.loop-k.values c.args.header.m 0 (omega arith)
    (λ k q. c.loop-k.invariant.1 k (omega arith))
