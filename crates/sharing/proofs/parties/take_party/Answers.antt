use Rattle.std.proofs.Common.{ℕ, sym, ◌∙◌, subst}
use Rattle.protocol.specs.Of.{parameters}
use Rattle.digest.specs.Making.{Took}
use Rattle.digest.specs.Short.{short_bytes}
use Rattle.lattice.specs.Lines.{at}
use Rattle.shares.proofs.Products.{row_at, shown_same}
use Rattle.sharing.specs.Rows.{held}
use Rattle.sharing.proofs.Turns.{at_hidden, off_hidden, another, nobody}
use Rattle.sharing.proofs.parties.take_party.Goals as goal
use Rattle.sharing.proofs.parties.take_party.Goals.{in_default-via-in-Some+else-hidden-j, in_default-via-in_default}

pub returns-in-Some : goal.returns-in-Some
returns-in-Some g c =
    subst (λ t. Took t (g.D.DigestMaker.means c.args.long.now) (g.D.DigestMaker.means c.take_found.new.maker))
    (sym (at_hidden g.D.DigestMaker.function c.args.known c.args.j c.in-Some.hidden c.in-Some.is c.if-hidden-j.true)) c.take_found.ensures

pub returns-in_default : goal.returns-in_default
returns-in_default g c =
    let F = g.D.DigestMaker.function in
    let k = c.args.known in
    let t = k.leaves in
    let p = parameters t.of.header in
    let row : ℕ → ℕ = held F p (short_bytes t.of.salt.now) t.of.number t.nodes.now k.offsets.now c.args.j in
    let shares = c.hold_shares.new.shares in
    subst (λ t. Took t (g.D.DigestMaker.means c.args.long.now) (g.D.DigestMaker.means c.take_shown.new.maker))
    (shown_same p k.seed_a.now k.flags.now (at shares) row k.flags_long k.flags_kept (λ i q. row_at row p.m i shares c.hold_shares.ensures q)
    ∙ sym (off_hidden F k c.args.j (elim c.in_default.branch [ in_default-via-in-Some+else-hidden-j w ↦ another k.hidden w.in-Some.hidden c.args.j w.in-Some.is w.if-hidden-j.false | in_default-via-in_default w ↦ nobody k.hidden c.args.j w.in_default.is ])))
    c.take_shown.ensures
