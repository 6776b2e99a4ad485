use Rattle.book.proofs.Walking.{Reached}
use Rattle.book.proofs.book.Book.reach.Given as goal

abbrev pub invariant-loop : goal.invariant-loop
invariant-loop l = Reached l.self l.counter l.rest
