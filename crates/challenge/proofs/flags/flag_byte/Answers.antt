use Rattle.std.proofs.Common.{◌≡◌, suc, ◌+◌, ◌-◌, ◌*◌, ◌^◌, get_or, ap, ◌∙◌, arith}
use Rattle.std.proofs.Math.Nat.{pow-succ'}
use Rattle.protocol.specs.Flags.{bits}
use Rattle.challenge.proofs.flags.flag_byte.Goals as goal

pub loop-k-preserved : goal.loop-k-preserved
loop-k-preserved c =
    let flags = c.args.flags.now in
    let k = c.loop-k.k in
    let n = 8 * c.args.b + 8 - k in
    let more : 8 * c.args.b + 8 - (k - 1) ≡ suc n = omega arith in
    let next : k - 1 + 1 ≡ k = omega arith in
    let down : bits flags (k - 1) (8 * c.args.b + 8 - (k - 1)) ≡ get_or flags (k - 1) 0 + 2 * bits flags k n = ap (bits flags (k - 1)) more ∙ ap (λ z. get_or flags (k - 1) 0 + 2 * bits flags z n) next in
    let twice : 2 ^ (8 * c.args.b + 8 - (k - 1)) ≡ 2 * 2 ^ n = ap (λ z. 2 ^ z) more ∙ pow-succ' 2 n in
    (omega arith, omega (arith, down, c.loop-k.invariant.1, c.flag.ensures.value), omega (arith, twice, c.loop-k.invariant.2, c.flag.ensures.small))

pub returns : goal.returns
returns c =
    let at : c.loop-k.k ≡ 8 * c.args.b = omega arith in
    let all : 8 * c.args.b + 8 - 8 * c.args.b ≡ 8 = omega arith in
    c.loop-k.invariant.1 ∙ (λ z. bits c.args.flags.now (at z) (8 * c.args.b + 8 - at z)) ∙ ap (bits c.args.flags.now (8 * c.args.b)) all
