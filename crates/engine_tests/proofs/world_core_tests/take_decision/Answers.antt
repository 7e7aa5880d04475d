use Rattle.std.proofs.Common.{ap, sym, ◌∙◌}
use Rattle.decision_book.specs.Books.{BookView}
use Rattle.engine_tests.proofs.Deciding.{abreast_after, world_accepts}
use Rattle.engine_tests.proofs.world_core_tests.take_decision.Goals as goal

pub take-requires : goal.take-requires
take-requires c = record {
  accepted = (
    world_accepts c.args.book.now c.args.world c.args.decision.now c.requires.abreast
        (sym c.decide.ensures.reply ∙ c.in-Accepted.is),
    tt,
  );
}

pub returns : goal.returns
returns c = record {
  abreast = abreast_after c.args.book.now c.decide.new.self c.args.world c.in-Ok.world c.args.decision.now
      c.requires.abreast (sym c.decide.ensures.reply ∙ c.in-Accepted.is)
      (ap (λ (b : BookView). b.net) c.decide.ensures.journal)
      c.decide.ensures.next c.in-Ok.ensures.value;
}
