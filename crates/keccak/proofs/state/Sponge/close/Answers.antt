use Rattle.std.proofs.Common.{◌≡◌, ◌+◌, ◌-◌, length, set, replicate, refl, ap, ◌∙◌, arith, length-set}
use borrow.Rule.Slice.PartMut.{put_mid}
use Rattle.keccak.proofs.Absorption.{filled_up, closed}
use Rattle.keccak.proofs.state.Sponge.close.Goals as goal

pub returns : goal.returns
returns g c =
    let s = c.args.self.now in
    let r = g.row.RATE in
    let n = s.filled in
    let xs = set s.block n 31 in
    let k = length xs - (n + 1) in
    let l : length xs ≡ length s.block = length-set s.block n 31 in
    let zeros = c.fill.new.self in
    record {
      lanes =
          closed r s.lanes c.absorb.new.lanes s.block (put_mid (n + 1) k xs zeros) n (omega arith) (omega arith)
          (filled_up r s.block zeros n k (omega arith) (omega arith) (omega arith) (c.fill.ensures.after (λ y e. e) ∙ ap (λ m. replicate m 0) (omega arith)))
          c.absorb.ensures;
      unused = refl;
    }
