use Rattle.std.proofs.Common.{subst}
use Rattle.decision_book.specs.Books.{BookView}
use Rattle.decision_desk.specs.Passes.{HasAnswered}
use Rattle.decision_desk.proofs.Legals.{fronts_are_next-told, places_told}
use Rattle.decision_desk.proofs.legal.LegalBook.ask.Goals as goal

pub invariant_of-self : goal.invariant_of-self
invariant_of-self c =
    fronts_are_next-told c.self.inside.book c.ask.new.self c.args.caller c.args.d.now c.ask.result.0 c.ask.result.1
    c.self.invariant c.ask.ensures.call

pub returns : goal.returns
returns c = record {
  asked = subst
      (λ (b : BookView). HasAnswered b c.args.caller c.args.d.now c.ask.result.0 c.ask.result.1 c.ask.new.self)
      c.self.view_is (record {
        answer_is = c.ask.ensures.reply;
        call = c.ask.ensures.call;
        places = places_told c.self.inside.book c.ask.new.self c.args.caller c.args.d.now c.ask.result.0
            c.ask.result.1 c.ask.ensures.call c.ask.ensures.full;
      });
}
