use Rattle.std.proofs.Common.{◌≡◌, ◌/◌, [], get_or, refl, ap, ◌∙◌, add-one, arith}
use Rattle.std.specs.Int.{w64, from_le_bytes}
use Rattle.keccak.specs.Sponge.{lane_of, added, absorbed}
use Rattle.keccak.proofs.Absorption.{word_lane}
use Rattle.keccak.proofs.block.absorb.Goals as goal

pub loop-i-init : goal.loop-i-init
unfolding added
loop-i-init g c = refl

pub loop-i-preserved : goal.loop-i-preserved
unfolding added
loop-i-preserved g c =
    let i = c.loop-i.i in
    let word : c.from_le_bytes.result ≡ lane_of c.args.block.now i =
    word_lane _ c.args.block.now i _ (omega arith) (c.from_le_bytes.ensures ∙ ap (λ ws. from_le_bytes w64 (get_or ws i [])) c.as_chunks.ensures.front) in
    rw add-one (cc)

pub returns : goal.returns
unfolding absorbed
returns g c =
    let e : c.loop-i.i ≡ g.row.RATE / 8 = omega arith in
    cc
