use Rattle.std.proofs.Common.{◌≡◌, ◌++◌, drop, map}
use Rattle.decision_book.specs.Journal.{NewFront}
use Rattle.journal_text.specs.JournalText.{events_text}
use Rattle.journal_text.proofs.text.push_fronts.Given as goal

abbrev pub invariant-fronts : goal.invariant-fronts
invariant-fronts l = l.out.items ++ events_text l.script.analysts (map NewFront (drop l.front-index l.fronts))
    ≡ l.fn.out.items ++ events_text l.script.analysts (map NewFront l.fronts)
