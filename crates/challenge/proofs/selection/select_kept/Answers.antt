use Rattle.std.proofs.Common.{◌≡◌, ◌≤◌, length, sym, ap, ◌∙◌, subst, arith}
use Rattle.protocol.specs.Flags.{ones}
use Rattle.protocol.specs.Of.{parameters}
use Rattle.protocol.specs.Parameters.{sigma}
use Rattle.protocol.specs.Selection.{selected}
use Rattle.digest.specs.Short.{short_bytes}
use Rattle.challenge.specs.Counting.{Plain}
use Rattle.guarantee.proofs.Choosing.{selected_picked}
use Rattle.challenge.proofs.selection.select_kept.Goals as goal

pub returns-clause-chosen : goal.returns-clause-chosen
returns-clause-chosen g c =
    let p = parameters c.args.header in
    let s = (g.C.Challenger.answers c.args.challenger.now).first (short_bytes c.args.salt.now) (short_bytes c.args.d1.now) in
    let long : length c.args.flags.now ≡ c.args.header.m = omega arith in
    let is : c.flag_kept.new.flags ≡ selected s c.args.header.m (sigma p) = c.flag_kept.ensures.flags ∙ (λ z. selected s (long z) (c.kept.ensures z)) in
    let low : sigma p ≤ c.args.header.m = omega arith in
    let picked = selected_picked s c.args.header.m (sigma p) low in (subst Plain (sym is) picked.flag, ap ones is ∙ picked.many)
