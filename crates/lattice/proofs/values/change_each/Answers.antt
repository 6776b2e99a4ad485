use Rattle.std.proofs.Common.{get_or, set, ap, ◌∙◌, arith}
use Rattle.std.proofs.lemmas.List.Edits.{map_over_more}
use Rattle.std.proofs.lemmas.List.{get_or_default}
use Rattle.lattice.proofs.values.change_each.Goals as goal

pub loop-word-preserved : goal.loop-word-preserved
loop-word-preserved g c = λ h e.
    let ys = c.loop-word.words in
    let i = c.loop-word.word-index in
    let x = get_or ys i 0 in
    ap (set ys i) (e x c.f.result c.f.ensures)
    ∙ map_over_more h c.args.words.now ys i x (omega arith) (c.loop-word.invariant h e) (get_or_default ys i 0 x (omega arith))
