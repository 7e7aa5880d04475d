use Rattle.std.proofs.Common.{arith, ◌∙◌, Some}
use Rattle.crew_pool.specs.declared.mail.Letter.TheVariants.{Task}
use Rattle.crew_pool.proofs.Moves.{IsMailbox-gives}
use Rattle.crew_pool.proofs.SeatsAfterSteps.{put_in}
use Rattle.crew_pool.proofs.steps.give_task.Goals as goal

pub store-requires : goal.store-requires
store-requires g c = (
  c.exchange.ensures.0 ∙ c.requires.table.0,
  omega (arith, c.requires.table.1),
  IsMailbox-gives g.E.Errand.answers c.args.task _ _ c.exchange.new.seat.me
      (put_in c.args.seat.now.me _ _ _ (Some (Task c.args.task)) c.requires.holding c.exchange.ensures.3),
)
