use Rattle.std.proofs.Common.{length, arith}
use Rattle.std.proofs.lemmas.List.FromFn.{fill_by_all}
use Rattle.protocol.specs.Parameters.{modulus}
use Rattle.protocol.specs.Residues.{modular}
use Rattle.lattice.specs.Lines.{at}
use Rattle.protocol.specs.Sets.{number}
use Rattle.lattice.proofs.sums.subtract_from.Goals as goal

pub returns : goal.returns
returns c =
    let g = modular (modulus (number c.args.set)) in
    fill_by_all (λ i. g.sub (at c.args.whole.now i) (at c.args.part.now i)) c.loop-k.part (length c.args.part.now) 0 (omega arith)
    (λ i h. c.loop-k.invariant.0 i (omega arith))
