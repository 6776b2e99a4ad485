use Rattle.std.proofs.Common.{◌≡◌, ◌+◌, ◌-◌, ◌*◌, length, replicate, refl, ◌∙◌, subst, arith, rules}
use Rattle.protocol.specs.Selection.{little, selected}
use Rattle.digest.specs.Short.{short_bytes}
use Rattle.challenge.specs.Answering.{Reading}
use Rattle.challenge.proofs.Asking.{filled_ok}
use Rattle.challenge.proofs.Choosing.{number_is, picks_more, picks_all}
use Rattle.challenge.proofs.selection.flag_kept.Goals as goal

pub loop-j-preserved : goal.loop-j-preserved
loop-j-preserved g c =
    let o = g.C.Challenger.answers c.first.new.self in
    let s = o.first (short_bytes c.args.salt.now) (short_bytes c.args.d1.now) in
    let m = length c.fill.new.self in
    let from = m - c.args.count in
    let j = c.loop-j.j in
    let k = j - from in
    let r = filled_ok c.next.result {s = s} (g.C.Challenger.answers c.next.new.self) 8 (replicate 8 0) c.next.new.out c.loop-j.invariant.1 (omega arith) refl (search rules) c.next.ensures.answer c.next.ensures.effect in
    let x = number_is s (8 * k) c.from_le_bytes.result c.next.new.out r.1 c.from_le_bytes.ensures in (
      c.keep.ensures ∙ picks_more (λ i. little s (8 * i) 8) m c.args.count j _ c.loop-j.flags (omega arith) c.loop-j.invariant.0 x,
      (let e : 8 * k + 8 ≡ 8 * (j + 1 - from) = omega arith in subst (λ u. Reading s u o (g.C.Challenger.answers c.next.new.self)) e r.2),
    )

pub returns-clause-flags : goal.returns-clause-flags
returns-clause-flags g c =
    let o = g.C.Challenger.answers c.first.new.self in
    let s = o.first (short_bytes c.args.salt.now) (short_bytes c.args.d1.now) in
    let m = length c.fill.new.self in
    let long : m ≡ length c.args.flags.now = omega arith in
    picks_all s m c.args.count (c.loop-j.j - (m - c.args.count)) c.loop-j.flags c.loop-j.invariant.0 (omega arith)
    ∙ (λ z. selected (c.first.ensures.first z (short_bytes c.args.salt.now) (short_bytes c.args.d1.now)) (long z) c.args.count)
