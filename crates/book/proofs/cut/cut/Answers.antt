use Rattle.std.proofs.Common.{ap, ◌∙◌}
use Rattle.protocol.specs.Header.{parameters_of}
use Rattle.protocol.specs.Parameters.{flag_length}
use Rattle.book.proofs.Cutting.{record_read, header_there, hidden_there, hidden_read, flags_there, flags_read, shown}
use Rattle.book.proofs.cut.cut.Goals as goal

pub sizes-hidden_bytes-requires : goal.sizes-hidden_bytes-requires
sizes-hidden_bytes-requires c =
    let one = record_read _ c.requires _ _ _ _ _ c.split_first_chunk.ensures.cases c.unwrap.ensures c.from_le_bytes.ensures
    c.split_at.ensures.front c.split_at.ensures.back in
    header_there _ c.requires _ one.0

pub split_at-requires-2 : goal.split_at-requires-2
split_at-requires-2 c =
    let one = record_read _ c.requires _ _ _ _ _ c.split_first_chunk.ensures.cases c.unwrap.ensures c.from_le_bytes.ensures
    c.split_at.ensures.front c.split_at.ensures.back in
    hidden_there _ c.requires _ _ one.1 (c.sizes-hidden_bytes.ensures.hidden ∙ ap (λ r. (parameters_of r).tau) one.0)

pub split_at-requires-3 : goal.split_at-requires-3
split_at-requires-3 c =
    let one = record_read _ c.requires _ _ _ _ _ c.split_first_chunk.ensures.cases c.unwrap.ensures c.from_le_bytes.ensures
    c.split_at.ensures.front c.split_at.ensures.back in
    let two = hidden_read _ c.requires _ _ _ _ one.1 (c.sizes-hidden_bytes.ensures.hidden ∙ ap (λ r. (parameters_of r).tau) one.0)
    c.split_at-2.ensures.front c.split_at-2.ensures.back in
    flags_there _ c.requires _ _ two.1 (c.sizes-hidden_bytes.ensures.flags ∙ ap (λ r. flag_length (parameters_of r)) one.0)

pub returns : goal.returns
returns c =
    let one = record_read _ c.requires _ _ _ _ _ c.split_first_chunk.ensures.cases c.unwrap.ensures c.from_le_bytes.ensures
    c.split_at.ensures.front c.split_at.ensures.back in
    let two = hidden_read _ c.requires _ _ _ _ one.1 (c.sizes-hidden_bytes.ensures.hidden ∙ ap (λ r. (parameters_of r).tau) one.0)
    c.split_at-2.ensures.front c.split_at-2.ensures.back in
    let three = flags_read _ c.requires _ _ _ _ two.1 (c.sizes-hidden_bytes.ensures.flags ∙ ap (λ r. flag_length (parameters_of r)) one.0)
    c.split_at-3.ensures.front c.split_at-3.ensures.back in
    shown _ c.requires _ one.0 two.0 three.0
