use Rattle.std.proofs.Common.{◌/◌, arith}
use Rattle.std.proofs.lemmas.List.{get_or-take}
use Rattle.keccak.proofs.Squeezed.{unloaded}
use Rattle.keccak.proofs.state.Sponge.unload.Goals as goal

pub loop-i-preserved : goal.loop-i-preserved
loop-i-preserved g c =
    let s = c.args.self.now in
    unloaded s.lanes c.loop-i.self.1.1.0 c.put.new.out c.to_le_bytes.result c.loop-i.i _ (omega arith) c.to_le_bytes.ensures
    (get_or-take (g.row.RATE / 8) s.lanes c.loop-i.i 0 (omega arith)) c.put.ensures c.loop-i.invariant
