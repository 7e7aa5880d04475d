use Rattle.std.proofs.Common.{ap, ◌∙◌, sym}
use Rattle.decision_book.specs.Journal.{fronts_of}
use Rattle.decision_book.specs.Books.{BookView}
use Rattle.decision_book.proofs.Growing.{fronts_of-journal_from}
use Rattle.decision_book.proofs.book.Book.fronts.Goals as goal

pub returns : goal.returns
returns c = record {
  value = c.as_slice.ensures.value
      ∙ sym (ap (λ (b : BookView). fronts_of b.events) (sym c.self.view_is)
      ∙ fronts_of-journal_from 0 c.self.inside.calls.items c.self.inside.fronts.items);
}
