use Rattle.std.proofs.Common.{◌≡◌, ℕ, List, ap, ap₂, sym, ◌∙◌, subst, IfOk, All, length}
use Rattle.decision_script.specs.Stating.{IsAnalyst}
use Rattle.decision_book.specs.declared.call.Call.{Call}
use Rattle.decision_book.specs.Books.{BookView, journal_of}
use Rattle.decision_book.specs.Journal.{calls_of}
use Rattle.journal_text.specs.declared.looked.Looked.{Looked}
use Rattle.journal_text.specs.JournalText.{journal_text}
use Rattle.live_study.specs.Lives.{all_looks}
use Rattle.live_study.proofs.Texts.{callers_within, lookers_within}
use Rattle.live_study.proofs.text.live_journal_text.Goals as goal

pub journal_text-requires-clause-callers : goal.journal_text-requires-clause-callers
journal_text-requires-clause-callers c =
    let book = c.args.live.now.book in
    let many = length c.args.script.now.analysts in
    subst (All (λ (k : Call). IsAnalyst many k.caller))
    (sym (c.calls.ensures.value ∙ ap (λ (b : BookView). calls_of b.events) c.book-book.ensures.value))
    (callers_within many (calls_of book.events) c.requires.journal.1.others)

pub journal_text-requires-clause-lookers : goal.journal_text-requires-clause-lookers
journal_text-requires-clause-lookers c =
    let all : List Looked = all_looks c.args.live.now.looks.items in
    let many = length c.args.script.now.analysts in
    let looks : c.as_slice-2.result.now ≡ all =
    c.as_slice-2.ensures.value ∙ c.in_ok-looks.ensures.value ∙ ap all_looks c.as_slice.ensures.value in
    subst (All (λ (l : Looked). IsAnalyst many l.analyst)) (sym looks)
    (lookers_within c.args.script.now all c.requires.made)

pub returns : goal.returns
returns c =
    let book = c.args.live.now.book in
    let all : List Looked = all_looks c.args.live.now.looks.items in
    let analysts = c.args.script.now.analysts in
    let looks : c.as_slice-2.result.now ≡ all =
    c.as_slice-2.ensures.value ∙ c.in_ok-looks.ensures.value ∙ ap all_looks c.as_slice.ensures.value in
    let events : journal_of c.calls.result.now c.fronts.result.now ≡ book.events =
    ap₂ journal_of c.calls.ensures.value c.fronts.ensures.value ∙ sym c.calls.ensures.whole
    ∙ ap (λ (b : BookView). b.events) c.book-book.ensures.value in
    record {
      value = subst (λ (e : List ℕ). IfOk c.journal_text.result (λ t. t.items ≡ e))
          (ap₂ (λ es ls. journal_text analysts es ls) events looks) c.journal_text.ensures;
    }
