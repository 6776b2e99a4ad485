use Rattle.std.proofs.Common.{◌≡◌, ◌-◌, ◌*◌, length}
use Rattle.protocol.specs.Selection.{little, picks}
use Rattle.digest.specs.Short.{short_bytes}
use Rattle.challenge.specs.Answering.{Reading}
use Rattle.challenge.proofs.selection.flag_kept.Given as goal

abbrev pub invariant-loop-j : goal.invariant-loop-j
invariant-loop-j g l =
    let o = g.C.Challenger.answers l.initial.challenger in
    let s = o.first (short_bytes l.salt) (short_bytes l.d1) in
    let from = length l.initial.flags - l.count in
    (l.flags ≡ picks (λ i. little s (8 * i) 8) (length l.initial.flags) l.count (l.j - from))
    × Reading s (8 * (l.j - from)) o (g.C.Challenger.answers l.challenger)
