use Rattle.std.proofs.Common.{◌≡◌, ◌+◌, ◌*◌, ◌%◌, get_or, set, refl, ◌∙◌, arith, rules, length-set}
use Rattle.std.specs.Prelude.{bit_xor}
use Rattle.std.proofs.lemmas.List.Edits.{fill_by_more}
use Rattle.keccak.specs.Keccak.{lane, parity, rotated, theta}
use Rattle.keccak.proofs.Columns.{lane_at, column_sum, same_column}
use Rattle.keccak.proofs.rounds.mix_columns.Goals as goal

pub loop-x-preserved : goal.loop-x-preserved
loop-x-preserved c =
    let a = c.args.a in
    let x = c.loop-x.x in
    let s = c.loop-x.sum-items in
    let is = column_sum a x _ c.loop-x-test.true refl in (
      length-set s x _ ∙ c.loop-x.invariant.0,
      (λ k h. (λ z. get_or (set s x (is z)) k 0) ∙ fill_by_more (parity a) s x 0 (omega arith) c.loop-x.invariant.1 k h),
    )

pub returns : goal.returns
unfolding theta
returns c =
    let a = c.args.a in
    let s = c.loop-x.sum-items in
    c.state_of.ensures (λ x y. bit_xor (lane a x y) (bit_xor (parity a (x + 4)) (rotated (parity a (x + 1)) 1)))
    (λ x y r lx ly is.
    let e : r ≡ bit_xor (get_or a (5 * y + x) 0) (bit_xor (get_or s ((x + 4) % 5) 0) (rotated (get_or s ((x + 1) % 5) 0) 1)) = search rules in
    let l = lane_at a x y lx ly in
    let u : get_or s ((x + 4) % 5) 0 ≡ parity a (x + 4) = c.loop-x.invariant.1 ((x + 4) % 5) (omega arith) ∙ same_column a (x + 4) in
    let v : get_or s ((x + 1) % 5) 0 ≡ parity a (x + 1) = c.loop-x.invariant.1 ((x + 1) % 5) (omega arith) ∙ same_column a (x + 1) in
    e ∙ (λ z. bit_xor (l z) (bit_xor (u z) (rotated (v z) 1))))
