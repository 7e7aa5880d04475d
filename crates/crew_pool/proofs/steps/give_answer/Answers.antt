use Rattle.std.proofs.Common.{arith, ◌∙◌, Some}
use Rattle.crew_pool.specs.declared.mail.Letter.TheVariants.{Answer}
use Rattle.crew_pool.proofs.Moves.{IsMailbox-leaves}
use Rattle.crew_pool.proofs.SeatsAfterSteps.{put_in}
use Rattle.crew_pool.proofs.steps.give_answer.Goals as goal

pub store-requires : goal.store-requires
store-requires g c = (
  c.exchange.ensures.0 ∙ c.requires.table.0,
  omega (arith, c.requires.table.1),
  IsMailbox-leaves g.E.Errand.answers c.requires.answers.0 c.args.answer c.requires.answers.2 _ _ c.exchange.new.seat.me
      (put_in c.args.seat.now.me _ _ _ (Some (Answer c.args.answer)) c.requires.answers.1 c.exchange.ensures.3),
)
