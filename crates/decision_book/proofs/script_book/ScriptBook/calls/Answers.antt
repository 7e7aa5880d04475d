use Rattle.std.proofs.Common.{◌≡◌, ap, ◌∙◌, sym, subst, []}
use Rattle.decision_book.specs.Journal.{calls_of, fronts_of}
use Rattle.decision_book.specs.Books.{BookView, journal_of}
use Rattle.decision_book.proofs.Booking.{journal_of-whole}
use Rattle.decision_book.proofs.Growing.{calls_of-journal_from}
use Rattle.decision_book.proofs.script_book.ScriptBook.calls.Goals as goal

pub returns-clause-value : goal.returns-clause-value
returns-clause-value c = c.as_slice.ensures.value ∙ sym (ap (λ (b : BookView). calls_of b.events) (sym c.self.view_is)
    ∙ calls_of-journal_from 0 c.self.inside.calls.items [])

pub returns-clause-whole : goal.returns-clause-whole
returns-clause-whole c = subst (λ (b : BookView). b.events ≡ journal_of (calls_of b.events) (fronts_of b.events))
    c.self.view_is (sym (journal_of-whole c.self.inside.calls.items []))
