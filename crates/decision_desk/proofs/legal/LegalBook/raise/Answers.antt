use Rattle.std.proofs.Common.{subst, sym}
use Rattle.decision_book.specs.Books.{BookView}
use Rattle.decision_book.specs.Journal.{NewFront}
use Rattle.decision_desk.specs.Legal.{IsNextFront}
use Rattle.decision_desk.proofs.Legals.{fronts_are_next-if}
use Rattle.decision_desk.proofs.legal.LegalBook.raise.Goals as goal

pub invariant_of-self : goal.invariant_of-self
invariant_of-self c =
    fronts_are_next-if c.self.inside.book.net c.self.inside.book.events c.args.front c.advance.new.self
    c.advance.result (subst (λ (b : BookView). IsNextFront b.net b.events (NewFront c.args.front))
    (sym c.self.view_is) c.requires.next) c.self.invariant c.advance.ensures.ok c.advance.ensures.err
