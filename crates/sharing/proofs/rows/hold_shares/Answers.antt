use Rattle.std.proofs.Common.{eqb, sym, refl}
use Rattle.std.proofs.lemmas.Bool.{cond-true, eq-eqb}
use Rattle.protocol.specs.Of.{parameters}
use Rattle.digest.specs.Short.{short_bytes}
use Rattle.lattice.specs.Lines.{at}
use Rattle.shares.specs.Drawing.{share}
use Rattle.sharing.specs.Rows.{leaf_in, held}
use Rattle.sharing.proofs.Adding.{added_row}
use Rattle.sharing.proofs.rows.hold_shares.Goals as goal

pub returns-then-j-eq0 : goal.returns-then-j-eq0
returns-then-j-eq0 g c =
    let F = g.D.DigestMaker.function in
    let p = parameters c.args.leaves.of.header in
    let salt = short_bytes c.args.leaves.of.salt.now in
    let nodes = c.args.leaves.nodes.now in
    let j = c.args.j in
    added_row _ p.set p.m c.draw_row.new.shares c.args.offsets.now _ (share F p salt c.args.leaves.of.number j (leaf_in p nodes j)) (at c.args.offsets.now) (held F p salt c.args.leaves.of.number nodes c.args.offsets.now j)
    refl c.draw_row.ensures c.add_row.ensures (λ k q. refl) (λ k q. sym (cond-true (eqb j 0) _ _ (eq-eqb j 0 c.if-j-eq0.true)))
