use Rattle.std.proofs.Common.{length, ap, ◌∙◌, length-drop, arith}
use Rattle.std.proofs.lemmas.List.{take_rest}
use Rattle.protocol.specs.Header.{parameters_of}
use Rattle.protocol.specs.Parameters.{flag_length}
use Rattle.book.proofs.Cutting.{room, body_size, body_small}
use Rattle.book.proofs.cut.body_length.Goals as goal

pub sizes-hidden-requires : goal.sizes-hidden-requires
sizes-hidden-requires c =
    let bytes = c.args.bytes.now in
    omega (arith, room bytes c.requires, ap length (take_rest bytes 4), length-drop 4 bytes)

pub overflow_add-result : goal.overflow_add-result
overflow_add-result c =
    let bytes = c.args.bytes.now in
    let rest = take_rest bytes 4 in
    let size = body_size bytes c.requires _ _ _ c.from_le_bytes-record.ensures (c.sizes-hidden.ensures.hidden ∙ ap (λ r. (parameters_of r).tau) rest)
    (c.sizes-hidden.ensures.flags ∙ ap (λ r. flag_length (parameters_of r)) rest) in
    omega (arith, size, body_small bytes c.requires)

pub overflow_add-result-2 : goal.overflow_add-result-2
overflow_add-result-2 c =
    let bytes = c.args.bytes.now in
    let rest = take_rest bytes 4 in
    let size = body_size bytes c.requires _ _ _ c.from_le_bytes-record.ensures (c.sizes-hidden.ensures.hidden ∙ ap (λ r. (parameters_of r).tau) rest)
    (c.sizes-hidden.ensures.flags ∙ ap (λ r. flag_length (parameters_of r)) rest) in
    omega (arith, size, body_small bytes c.requires)

pub returns : goal.returns
returns c =
    let rest = take_rest c.args.bytes.now 4 in
    body_size c.args.bytes.now c.requires _ _ _ c.from_le_bytes-record.ensures (c.sizes-hidden.ensures.hidden ∙ ap (λ r. (parameters_of r).tau) rest)
    (c.sizes-hidden.ensures.flags ∙ ap (λ r. flag_length (parameters_of r)) rest)
