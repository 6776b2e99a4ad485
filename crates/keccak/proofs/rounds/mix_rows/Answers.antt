use Rattle.std.proofs.Common.{◌≡◌, ◌+◌, ◌*◌, ◌%◌, get_or, sym, ◌∙◌, rules, mod-eq_of_lt}
use Rattle.std.specs.Prelude.{bit_xor, bit_and}
use Rattle.keccak.specs.Keccak.{lane, complement, chi}
use Rattle.keccak.proofs.rounds.mix_rows.Goals as goal

pub returns : goal.returns
unfolding chi
returns c =
    let a = c.args.a in
    c.state_of.ensures (λ x y. bit_xor (lane a x y) (bit_and (complement (lane a (x + 1) y)) (lane a (x + 2) y)))
    (λ x y r lx ly is.
    let e : r ≡ bit_xor (get_or a (5 * y + x) 0) (bit_and (complement (get_or a (5 * y + (x + 1) % 5) 0)) (get_or a (5 * y + (x + 2) % 5) 0)) = search rules in
    let u : x ≡ x % 5 = sym (mod-eq_of_lt lx) in
    let v : y ≡ y % 5 = sym (mod-eq_of_lt ly) in
    e ∙ (λ z. bit_xor (get_or a (5 * v z + u z) 0) (bit_and (complement (get_or a (5 * v z + (x + 1) % 5) 0)) (get_or a (5 * v z + (x + 2) % 5) 0))))
