use Rattle.std.proofs.Common.{◌≡◌, ◌+◌, ◌-◌, ◌*◌, length}
use Rattle.solo_run.specs.SoloView.{IsSoloAfter}
use Rattle.solo_run.specs.Turns.{IsReached}
use Rattle.solo_run.proofs.solo.Solo.run_on.Given as goal

abbrev pub invariant-loop-self : goal.invariant-loop-self
invariant-loop-self g l = record {
  solo : IsSoloAfter l.model g.past l.self;
  ran : IsReached l.model l.front l.fn.self l.self;
  steps : l.steps + length l.fn.self.trace ≡ l.fn.steps + length l.self.trace;
}

abbrev pub decreases-loop-self : goal.decreases-loop-self
decreases-loop-self g l = length l.model.sites * l.model.limit - length l.self.trace

abbrev pub ghost-next_turn : goal.ghost-next_turn
ghost-next_turn g a = g.past
