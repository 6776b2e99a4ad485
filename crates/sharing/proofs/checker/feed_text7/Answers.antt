use Rattle.std.proofs.Common.{◌≡◌, length, get_or, refl, sym, ap, ◌∙◌, subst, inl, inr}
use Rattle.std.proofs.lemmas.List.FromFn.{length-map-range_with_len}
use Rattle.std.proofs.lemmas.Bool.{cases_eq}
use Rattle.protocol.specs.Of.{parameters}
use Rattle.protocol.specs.Parameters.{parties}
use Rattle.protocol.specs.Scheme.{transcript_of}
use Rattle.protocol.specs.Sharing.{party_part}
use Rattle.digest.specs.Making.{Took}
use Rattle.digest.specs.Short.{short_bytes}
use Rattle.soundness.proofs.Parts.{parts_same}
use Rattle.shares.specs.Shown.{spread}
use Rattle.sharing.specs.Parts.{scheme, record_shares}
use Rattle.sharing.proofs.Checking.{shown_is, found_is}
use Rattle.sharing.proofs.Turns.{at_hidden, off_hidden, another, has_it}
use Rattle.sharing.proofs.checker.feed_text7.Goals as goal

pub invariant_of-known-2-clause-values_long : goal.invariant_of-known-2-clause-values_long
unfolding spread
invariant_of-known-2-clause-values_long g c h is =
    has_it (λ m. length m.values.now ≡ c.args.checked.whole.view.header.m) is (ap length c.requires.values ∙ length-map-range_with_len _ 0 c.args.checked.whole.view.header.m)

pub returns : goal.returns
unfolding record_shares
returns g c =
    let F = g.D.DigestMaker.function in
    let x = c.args.checked in
    let p = parameters x.whole.view.header in
    let r = x.whole.view.bytes.now in
    let hidden = x.hidden.now in
    let salt = short_bytes x.salt.now in
    let e = x.number in
    let party = get_or hidden e 0 in
    let flags = c.args.flags.now in
    let seed_a = c.seed_a-seed_a.result in
    let nodes = c.rebuild.new.nodes in
    let offsets = c.rebuild.new.offsets in
    subst (λ t. Took t (g.D.DigestMaker.means c.args.long.now) (g.D.DigestMaker.means c.take_parties.new.long))
    (parts_same (parties p) _ (party_part (scheme F p) (transcript_of F p r hidden flags) e)
    (λ j q. elim (cases_eq j party) [
      | inl is ↦
          at_hidden F _ j _ refl (c.party.ensures ∙ sym is)
          ∙ found_is F p r hidden salt x.salted e party refl nodes c.rebuild.ensures.tree flags seed_a offsets c.requires.flags c.requires.kept c.seed_a-seed_a.ensures c.rebuild.ensures.offsets
          c.args.values.now c.rebuild.new.key c.rebuild.new.sums j is c.requires.values c.rebuild.ensures.key c.rebuild.ensures.sums
      | inr not ↦
          off_hidden F _ j (another _ _ j refl (λ z. not (sym z ∙ c.party.ensures)))
          ∙ shown_is F p r hidden salt x.salted e party refl nodes c.rebuild.ensures.tree flags seed_a offsets c.requires.flags c.requires.kept c.seed_a-seed_a.ensures c.rebuild.ensures.offsets j q not
    ]))
    c.take_parties.ensures
