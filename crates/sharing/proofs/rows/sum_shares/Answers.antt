use Rattle.std.proofs.Common.{refl, ℕ, ◌+◌, length, unwrap_or, sym, ◌∙◌, arith}
use Rattle.std.proofs.lemmas.List.FromFn.{fill_by_all}
use Rattle.std.proofs.lemmas.List.{get_or-replicate, length-replicate}
use Rattle.protocol.specs.Group.{others}
use Rattle.protocol.specs.Of.{parameters}
use Rattle.protocol.specs.Parameters.{modulus, parties}
use Rattle.protocol.specs.Residues.{modular}
use Rattle.digest.specs.Short.{short_bytes}
use Rattle.lattice.proofs.Entrywise.{others_skip, others_more}
use Rattle.shares.specs.Drawing.{share}
use Rattle.shares.proofs.Products.{same_row, row_at}
use Rattle.sharing.specs.Rows.{leaf_in}
use Rattle.sharing.proofs.Adding.{added_row}
use Rattle.sharing.proofs.Turns.{left_is, left_not}
use Rattle.sharing.proofs.rows.sum_shares.Goals as goal
use Rattle.sharing.proofs.rows.sum_shares.Goals.{then-ne, else-ne}

pub loop-j-init : goal.loop-j-init
loop-j-init g c =
    c.fill.ensures.after (λ y e. e)
    ∙ fill_by_all (λ k. 0) _ c.args.leaves.of.header.m 0 (length-replicate (length c.args.sum.now) 0 ∙ c.requires.sum)
    (λ k q. get_or-replicate (length c.args.sum.now) k 0 0 (omega arith))

pub loop-j-preserved : goal.loop-j-preserved
loop-j-preserved g c =
    let r = c.args.leaves.of in
    let p = parameters r.header in
    let q = modular (modulus p.set) in
    let j = c.loop-j.j in
    let out : ℕ = unwrap_or c.args.left_out (parties p) in
    let f : ℕ → ℕ → ℕ = λ k i. share g.D.DigestMaker.function p (short_bytes r.salt.now) r.number i (leaf_in p c.args.leaves.nodes.now i) k in
    elim c.if-ne.branch [
      | then-ne w ↦
          let off = left_not c.args.left_out j (parties p) (omega arith) (sym c.ne.ensures ∙ w.if-ne.true) in
          w.sum-is
          ∙ added_row _ p.set p.m c.loop-j.sum w.draw_row.new.shares _ (λ k. others q j out (f k)) (λ k. f k j) (λ k. others q (j + 1) out (f k))
          refl c.loop-j.invariant w.add_row.ensures (λ k r. row_at (λ k. f k j) p.m k _ w.draw_row.ensures r) (λ k r. sym (others_more q j out (f k) off))
      | else-ne w ↦
          let is = left_is c.args.left_out j (parties p) (sym c.ne.ensures ∙ w.if-ne.false) in
          w.sum-is ∙ c.loop-j.invariant ∙ same_row (λ k. others q j out (f k)) (λ k. others q (j + 1) out (f k)) p.m (λ k r. sym (others_skip q j out (f k) is))
    ]
