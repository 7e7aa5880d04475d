use Rattle.std.proofs.Common.{◌∙◌, ap, subst, sym}
use Rattle.decision_book.specs.Books.{BookView}
use Rattle.study_run.specs.Accepted.{IsAcceptedJournal}
use Rattle.study_run.proofs.Accepting.{asked_more}
use Rattle.cloner_top.proofs.deciding.decide_item.Goals as goal

pub returns-in-Accepted-clause-accepted : goal.returns-in-Accepted-clause-accepted
returns-in-Accepted-clause-accepted c = λ all.
    let journal = c.in-Ok.ensures.journal in
    subst (λ n. IsAcceptedJournal n c.decide.new.self.events) (sym (ap (λ (b : BookView). b.net) journal))
    (asked_more c.args.book.now.net c.args.book.now.events c.decide.new.self.events c.args.item.now.analyst
    c.in-Decide.decision (sym c.in-Ok.ensures.reply ∙ c.in-Accepted.is) (ap (λ (b : BookView). b.events) journal)
    c.in-Ok.ensures.next all)
