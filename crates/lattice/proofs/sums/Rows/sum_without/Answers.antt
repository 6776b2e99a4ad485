use Rattle.std.proofs.Common.{◌≡◌, ◌≢◌, ℕ, ◌+◌, ◌*◌, Some, sym, ap, ◌∙◌, arith, rules, tests}
use Rattle.std.proofs.lemmas.List.FromFn.{fill_by_all, get_or-map-range_with_len}
use Rattle.protocol.specs.Parameters.{modulus}
use Rattle.protocol.specs.Residues.{modular}
use Rattle.lattice.specs.Lines.{at}
use Rattle.protocol.specs.Sets.{number}
use Rattle.lattice.specs.Sums.{without}
use Rattle.lattice.proofs.Entrywise.{without_skip, without_more}
use Rattle.lattice.proofs.sums.Rows.sum_without.Goals as goal
use Rattle.lattice.proofs.sums.Rows.sum_without.Goals.{then-counts, else-counts}

pub loop-j-preserved : goal.loop-j-preserved
loop-j-preserved c =
    let g = modular (modulus (number c.args.self.now.set)) in
    let w = c.args.self.now.width in
    let j = c.loop-j.j in
    let o = c.args.left_out in
    λ k h.
    let f : ℕ → ℕ = λ i. at c.args.self.now.rows.now (i * w + k) in
    elim c.if-counts.branch [
      | then-counts t ↦
          let other : o ≢ Some j = search (rules, tests) in
          ap (λ xs. at xs k) (t.sum-is ∙ t.add_row.ensures)
          ∙ get_or-map-range_with_len _ 0 _ k k 0 (omega arith) (omega arith)
          ∙ (λ i. g.add (c.loop-j.invariant k h i) (t.row.ensures.each k h i))
          ∙ sym (without_more g j o f other)
      | else-counts t ↦
          let same : o ≡ Some j = search (rules, tests) in
          ap (λ xs. at xs k) t.sum-is ∙ c.loop-j.invariant k h ∙ sym (without_skip g j o f same)
    ]

pub returns : goal.returns
returns c =
    let g = modular (modulus (number c.args.self.now.set)) in
    let w = c.args.self.now.width in
    let n = c.args.self.now.parties in
    let f : ℕ → ℕ → ℕ = λ k i. at c.args.self.now.rows.now (i * w + k) in
    let end : c.loop-j.j ≡ n = omega arith in
    fill_by_all (λ k. without g n c.args.left_out (f k)) c.loop-j.sum w 0 (omega arith) (λ k h. c.loop-j.invariant k h ∙ ap (λ m. without g m c.args.left_out (f k)) end)
