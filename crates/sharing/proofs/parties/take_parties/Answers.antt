use Rattle.std.proofs.Common.{◌*◌, ◌≤◌, arith, rules}
use Rattle.protocol.specs.Of.{parameters}
use Rattle.protocol.specs.Parameters.{parties}
use Rattle.digest.proofs.Taking.{ready_after}
use Rattle.shares.specs.Shown.{most_shown}
use Rattle.sharing.proofs.Lengths.{few_parties, shares_most}
use Rattle.sharing.proofs.parties.take_parties.Goals as goal

pub take_party-requires : goal.take_party-requires
take_party-requires g c =
    let k = c.args.known in
    let most = shares_most g.D.DigestMaker.function k c.loop-j.j in
    let few : parties (parameters k.leaves.of.header) ≤ 256 = few_parties (parameters k.leaves.of.header) (omega arith) in
    record {
      party = search rules;
      shares = search rules;
      bench = search rules;
      room = search rules;
      ready = ready_after _ _ _ (256 * most_shown) most_shown c.requires.ready (search rules) c.loop-j.invariant;
    }
