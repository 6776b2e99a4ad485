use Rattle.std.proofs.Common.{◌≡◌, ◌*◌, subst, ◌∙◌, arith, rules}
use Rattle.protocol.specs.Of.{parameters}
use Rattle.protocol.specs.Parameters.{parties}
use Rattle.digest.specs.Making.{Took}
use Rattle.digest.specs.Short.{short_bytes}
use Rattle.digest.proofs.Taking.{took_both}
use Rattle.seedtree.specs.Grown.{Regrown}
use Rattle.sharing.proofs.Checking.{commitments_are}
use Rattle.sharing.proofs.Lengths.{length-short, given_most, ready_offsets}
use Rattle.sharing.proofs.checker.feed_text6.Goals as goal

pub take_coded-requires : goal.take_coded-requires
take_coded-requires g c =
    let x = c.args.checked in
    let p = parameters x.whole.view.header in
    let most = given_most g.D.DigestMaker.function p (short_bytes x.salt.now) x.number c.regrow.new.nodes c.party-party.result (short_bytes c.unwrap.result) (length-short c.unwrap.result) (parties p) in
    record {
      pairs = c.block-block.ensures.offsets_long;
      ready = ready_offsets p.h (2 * p.m) _ _ _ (omega arith) (omega arith) most c.requires.ready c.take_commitments.ensures;
    }

pub returns : goal.returns
returns g c =
    let F = g.D.DigestMaker.function in
    let x = c.args.checked in
    let p = parameters x.whole.view.header in
    let salt = short_bytes x.salt.now in
    let party = c.party-party.result in
    let nodes = c.regrow.new.nodes in
    let given : short_bytes c.unwrap.result ≡ c.block-block.result.commitment.now = search rules in
    subst (λ t. Took t (g.D.DigestMaker.means c.args.long.now) (g.D.DigestMaker.means c.take_coded.new.maker))
    (commitments_are F p x.whole.view.bytes.now x.hidden.now salt x.salted x.number party c.party-party.ensures nodes
    (subst (λ s. Regrown F salt x.number p.h party s nodes) c.block-block.ensures.seeds c.regrow.ensures)
    _ _ (given ∙ c.block-block.ensures.commitment) c.block-block.ensures.offsets)
    (took_both c.take_commitments.ensures c.take_coded.ensures)
