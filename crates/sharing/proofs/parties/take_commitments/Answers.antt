use Rattle.std.proofs.Common.{◌*◌, ◌≤◌, length, ap, arith}
use Rattle.protocol.specs.Of.{parameters}
use Rattle.protocol.specs.Parameters.{parties}
use Rattle.digest.proofs.Taking.{took_ok, ready_after}
use Rattle.sharing.proofs.Lengths.{commitments_most, length-short}
use Rattle.sharing.proofs.parties.take_commitments.Goals as goal

pub unwrap-requires : goal.unwrap-requires
unwrap-requires g c =
    let n = parties (parameters c.args.leaves.of.header) in
    let bytes = c.as_slice.result.now in
    let most = commitments_most g.D.DigestMaker.function c.args.leaves c.args.hidden c.loop-j.j in
    let few : length bytes ≤ 64 = omega (arith, ap length c.as_slice.ensures.bytes, length-short c.commitment-commitment.result) in
    let ready = ready_after _ _ _ (64 * n) (length bytes) c.requires (omega (arith, most, few)) c.loop-j.invariant in
    (took_ok c.take.result (g.D.DigestMaker.means c.loop-j.long) (g.D.DigestMaker.means c.take.new.self) bytes ready c.take.ensures.answer c.take.ensures.effect).0
