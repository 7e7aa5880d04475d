use Rattle.std.proofs.Common.{◌≡◌, ◌++◌, drop}
use Rattle.decision_book.specs.Books.{journal_from, journal_of}
use Rattle.journal_text.specs.JournalText.{events_text}
use Rattle.journal_text.proofs.text.push_events.Given as goal

abbrev pub invariant-calls : goal.invariant-calls
invariant-calls l = l.out.items ++ events_text l.script.analysts
    (journal_from l.before (drop l.call-index l.calls) l.later) ≡ l.fn.out.items ++ events_text l.script.analysts
    (journal_of l.calls l.fronts)
