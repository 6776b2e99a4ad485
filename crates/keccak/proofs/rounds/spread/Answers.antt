use Rattle.std.proofs.Common.{◌≡◌, ◌+◌, ◌*◌, ◌/◌, ◌%◌, get_or, sym, ap, ◌∙◌, arith, rules, mod-eq_of_lt}
use Rattle.std.proofs.lemmas.List.FromFn.{get_or-map-range_with_len}
use Rattle.keccak.specs.Keccak.{lane, rotated, rho, pi}
use Rattle.keccak.specs.Tables.{offsets}
use Rattle.keccak.proofs.rounds.spread.Goals as goal

pub returns : goal.returns
unfolding rho pi
returns c =
    let a = c.args.a in
    c.state_of.ensures (λ x y. lane (rho a) (x + 3 * y) x)
    (λ x y r lx ly is.
    let k = 5 * x + (x + 3 * y) % 5 in
    let e : r ≡ rotated (get_or a k 0) (get_or offsets k 0) = search rules in
    let j : k ≡ 5 * (k / 5 % 5) + k % 5 % 5 = omega arith in
    let u : x ≡ x % 5 = sym (mod-eq_of_lt lx) in
    e ∙ (λ z. rotated (get_or a (j z) 0) (get_or offsets (j z) 0))
    ∙ sym (get_or-map-range_with_len (λ i. rotated (lane a (i % 5) (i / 5)) (lane offsets (i % 5) (i / 5))) 0 25 k k 0 (omega arith) (omega arith))
    ∙ ap (λ v. get_or (rho a) (5 * v + (x + 3 * y) % 5) 0) u)
