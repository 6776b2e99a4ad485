use Rattle.std.proofs.Common.{◌≡◌, length, ap, ◌∙◌, arith, rules}
use Rattle.protocol.specs.Header.{parameters_of}
use Rattle.protocol.specs.Parameters.{flag_length}
use Rattle.book.specs.Of.{entry_of}
use Rattle.book.proofs.Adding.{sized}
use Rattle.book.proofs.Forms.{told}
use Rattle.book.proofs.Laying.{joined}
use Rattle.book.proofs.lay.lay.Goals as goal

pub split_at_mut-record-requires : goal.split_at_mut-record-requires
split_at_mut-record-requires c = let size = sized c.args.entry in omega arith

pub split_at_mut-hidden-requires : goal.split_at_mut-hidden-requires
split_at_mut-hidden-requires c = let size = sized c.args.entry in omega arith

pub split_at_mut-flags-requires : goal.split_at_mut-flags-requires
split_at_mut-flags-requires c = let size = sized c.args.entry in omega arith

pub overflow_cast-entry : goal.overflow_cast-entry
overflow_cast-entry c = let t = told (entry_of c.args.entry) c.args.entry.well in search rules

pub pack-requires-clause-plain : goal.pack-requires-clause-plain
pack-requires-clause-plain c = (told (entry_of c.args.entry) c.args.entry.well).flag

pub returns : goal.returns
returns c =
    let a = entry_of c.args.entry in
    let size : length c.split_at_mut-flags.result.0.now ≡ flag_length (parameters_of a.bytes) =
    c.split_at_mut-flags.ensures.front_len ∙ c.flag_length.ensures ∙ ap flag_length c.args.entry.head in
    joined a c.args.memory.now _ _ _ _ _ _ size (c.copy_from_slice.ensures.after ∙ c.to_le_bytes.ensures) c.copy_from_slice-2.ensures.after
    c.copy_from_slice-3.ensures.after c.pack.ensures (cc)
