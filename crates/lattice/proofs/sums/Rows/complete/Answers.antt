use Rattle.std.proofs.Common.{ℕ, ◌+◌, ◌*◌, sym, ap, ◌∙◌, arith}
use Rattle.std.proofs.lemmas.List.FromFn.{fill_by_all, get_or-map-range_with_len}
use Rattle.protocol.specs.Group.{others, completed}
use Rattle.protocol.specs.Parameters.{modulus}
use Rattle.protocol.specs.Residues.{modular}
use Rattle.lattice.specs.Lines.{at}
use Rattle.protocol.specs.Sets.{number}
use Rattle.lattice.proofs.Entrywise.{completed_here}
use Rattle.lattice.proofs.sums.Rows.complete.Goals as goal

pub returns : goal.returns
returns c =
    let g = modular (modulus (number c.args.self.now.set)) in
    let w = c.args.self.now.width in
    let n = c.args.self.now.parties in
    let p = c.args.party in
    let f : ℕ → ℕ → ℕ = λ k j. at c.args.self.now.rows.now (j * w + k) in
    let t : ℕ → ℕ = at c.args.whole.now in
    fill_by_all (λ k. completed g n p (t k) (f k) p) c.subtract_from.new.part w 0 (omega arith)
    (λ k h.
    ap (λ xs. at xs k) c.subtract_from.ensures
    ∙ get_or-map-range_with_len _ 0 _ k k 0 (omega arith) (omega arith)
    ∙ ap (λ x. g.sub (t k) x) (ap (λ xs. at xs k) c.sum_others.ensures ∙ get_or-map-range_with_len (λ i. others g n p (f i)) 0 w k k 0 h (omega arith))
    ∙ sym (completed_here g n p (t k) (f k)))
