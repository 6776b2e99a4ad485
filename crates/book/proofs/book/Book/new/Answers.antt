use Rattle.guarantee.proofs.Completing.{guarantee}
use Rattle.book.proofs.book.Book.new.Goals as goal

pub returns-clause-guarantee : goal.returns-clause-guarantee
returns-clause-guarantee c = guarantee
