use Rattle.std.proofs.Common.{◌≡◌, ◌-◌, min, length, take, drop, ap, ◌∙◌, arith, length-drop}
use Rattle.std.proofs.lemmas.List.{take_rest}
use Rattle.record.proofs.Cutting.{cut}
use Rattle.record.proofs.parts.part_of.Goals as goal

pub returns : goal.returns
returns c =
    let bytes = c.args.bytes.now in
    let from = c.min-from.result in
    let to = c.min-to.result in
    let rest : take (length bytes - from) (drop from bytes) ≡ drop from bytes = take_rest bytes from in
    let long : to ≡ min c.args.size (length bytes - from) = c.min-to.ensures ∙ ap (min c.args.size) (ap length rest ∙ length-drop from bytes) in
    ap (take (to - 0)) rest ∙ (ap (λ k. take k (drop from bytes)) (omega arith) ∙ cut bytes c.args.offset c.args.size from to c.min-from.ensures long)
