use Rattle.std.proofs.Common.{◌≡◌, ◌-◌, ◌++◌, sym, ◌∙◌, ap₂, arith}
use Rattle.std.proofs.lemmas.List.{take-append-drop}
use Rattle.keccak.proofs.Absorption.{many_taken}
use Rattle.keccak.proofs.state.Sponge.take_in.Goals as goal

pub returns : goal.returns
returns g c = λ x.
    let s = c.args.self.now in
    let head = c.split_at.result.0.now in
    let rest = c.split_at.result.1.now in
    let room = g.row.RATE - s.filled in
    let parts : c.args.bytes.now ≡ head ++ rest = sym (ap₂ ◌++◌ c.split_at.ensures.front c.split_at.ensures.back ∙ take-append-drop room c.args.bytes.now) in
    many_taken g.row.RATE s.lanes c.absorb.new.lanes c.absorb_blocks-rest.new.lanes s.block head rest c.absorb_blocks-rest.result.now
    c.put-2.new.out c.put-3.new.out c.args.bytes.now x s.filled (omega arith) (omega arith) (omega arith) parts c.put-2.ensures (omega arith)
    c.absorb.ensures c.absorb_blocks-rest.ensures.same c.put-3.ensures
