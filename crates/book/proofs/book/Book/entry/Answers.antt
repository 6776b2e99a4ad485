use Rattle.std.proofs.Common.{sym, ap, ◌∙◌, subst}
use Rattle.protocol.specs.Book.{well_formed}
use Rattle.book.specs.Entries.{Shows}
use Rattle.book.proofs.book.Book.entry.Goals as goal

pub returns : goal.returns
returns c = record {
  there = c.if-k-self.false;
  shows = subst (λ a. Shows a c.cut.result) c.reach.ensures.is c.cut.ensures;
  well = ap well_formed (sym c.reach.ensures.is) ∙ c.reach.ensures.begins.well;
}
