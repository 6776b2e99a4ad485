use Rattle.std.proofs.Common.{◌≡◌, length, ap, ◌∙◌, arith}
use Rattle.protocol.specs.Selection.{hidden_parties}
use Rattle.digest.specs.Short.{short_bytes}
use Rattle.challenge.proofs.Asking.{started_reads, filled_ok}
use Rattle.challenge.proofs.Choosing.{hidden_is}
use Rattle.challenge.proofs.selection.choose_hidden.Goals as goal

pub returns-clause-hidden : goal.returns-clause-hidden
returns-clause-hidden g c =
    let s = (g.C.Challenger.answers c.args.challenger.now).second (short_bytes c.args.salt.now) (short_bytes c.args.d1.now) (short_bytes c.args.d2.now) in
    let tau = c.args.header.tau in
    let old : length c.args.hidden.now ≡ tau = omega arith in
    let long : length c.next.new.out ≡ tau = omega arith in
    let r = filled_ok c.next.result (g.C.Challenger.answers c.next.new.self) tau c.args.hidden.now c.next.new.out (started_reads c.second.ensures) (omega arith) old long c.next.ensures.answer c.next.ensures.effect in
    hidden_is s _ tau c.next.new.out c.reduce.new.bytes r.1 (omega arith) c.reduce.ensures ∙ ap (λ n. hidden_parties s n tau) c.parties.ensures
