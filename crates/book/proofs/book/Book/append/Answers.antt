use Rattle.std.proofs.Common.{rules}
use Rattle.protocol.specs.Book.{entry_bytes}
use Rattle.book.specs.Of.{state_of, entry_of}
use Rattle.book.proofs.Adding.{added, intact_added, few}
use Rattle.book.proofs.Laying.{over}
use Rattle.book.proofs.book.Book.append.Goals as goal

pub overflow_add-self-2 : goal.overflow_add-self-2
overflow_add-self-2 c = let n = few (state_of c.args.self.now) c.args.self.now.intact in search rules

pub invariant_of-self : goal.invariant_of-self
invariant_of-self c =
    let s = state_of c.args.self.now in
    let there = over s.used (entry_bytes (entry_of c.args.entry)) s.memory _ c.args.self.now.intact.0 c.lay.ensures in
    record { intact = intact_added c.args.entry s c.args.self.now.intact c.requires _ _ there c.entry_length.ensures }

pub returns-clause-state : goal.returns-clause-state
returns-clause-state c =
    let s = state_of c.args.self.now in
    let there = over s.used (entry_bytes (entry_of c.args.entry)) s.memory _ c.args.self.now.intact.0 c.lay.ensures in
    added c.args.entry s _ _ there c.entry_length.ensures
