use Rattle.std.proofs.Common.{refl, ◌∙◌, subst}
use Rattle.protocol.specs.Of.{parameters}
use Rattle.protocol.specs.Parameters.{parties}
use Rattle.protocol.specs.Prover.{honest_part}
use Rattle.digest.specs.Making.{Took}
use Rattle.digest.specs.Short.{short_bytes}
use Rattle.soundness.proofs.Parts.{parts_same}
use Rattle.sharing.specs.Parts.{scheme, holder, holder_shares}
use Rattle.sharing.proofs.Holding.{shown_is}
use Rattle.sharing.proofs.Turns.{off_hidden, nobody}
use Rattle.sharing.proofs.holder.feed_text7.Goals as goal

pub returns : goal.returns
unfolding holder_shares
returns g c =
    let F = g.D.DigestMaker.function in
    let a = c.args.asked in
    let h = a.holder in
    let p = parameters h.header in
    let salt = short_bytes h.salt.now in
    let nodes = c.share_out.new.nodes in
    let offsets = c.share_out.new.offsets in
    subst (λ t. Took t (g.D.DigestMaker.means c.args.long.now) (g.D.DigestMaker.means c.take_parties.new.long))
    (parts_same (parties p) _ (honest_part (scheme F p) (holder F p salt h.master.now a.seed_a.now a.flags.now) c.args.number)
    (λ j q. off_hidden F _ j (nobody _ j refl) ∙ shown_is F p salt h.master.now c.args.number nodes c.share_out.ensures.tree a.seed_a.now a.flags.now offsets j q c.share_out.ensures.offsets))
    c.take_parties.ensures
