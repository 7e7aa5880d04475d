use Rattle.std.proofs.Common.{◌≡◌, ◌++◌, List, ℕ, ap, ap₂, sym, ◌∙◌, length}
use Rattle.decision_book.specs.Books.{journal_of}
use Rattle.decision_book.proofs.Growing.{calls_of-journal_from, fronts_of-journal_from}
use Rattle.journal_text.specs.JournalText.{counts_line, events_text, head_line, looks_text}
use Rattle.journal_text.proofs.text.journal_text.Goals as goal

pub returns : goal.returns
returns c =
    let calls = c.args.calls.now in
    let fronts = c.args.fronts.now in
    let events : List ℕ = events_text c.args.script.now.analysts (journal_of calls fronts) in
    let looks : List ℕ = looks_text c.args.script.now.analysts c.args.looks.now in
    let head : counts_line (length calls) (length fronts) ≡ head_line (journal_of calls fronts) =
    ap₂ counts_line (ap length (sym (calls_of-journal_from 0 calls fronts)))
    (ap length (sym (fronts_of-journal_from 0 calls fronts))) in
    let first = c.in_ok-push_head.ensures.value ∙ ap₂ (λ xs h. xs ++ h) c.new-out.ensures.items head in
    let second = c.in_ok-push_events.ensures.value ∙ ap (λ xs. xs ++ events) first in
    c.in_ok-push_looks.ensures.value ∙ ap (λ xs. xs ++ looks) second
