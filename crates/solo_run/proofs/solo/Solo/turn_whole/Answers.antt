use Rattle.std.proofs.Common.{◌+◌, ◌∙◌, ap, sym, length}
use Rattle.sim_base.specs.Order.{msg_cmp}
use Rattle.run_laws.specs.Machine.{config_after}
use Rattle.solo_run.specs.EventLists.{all_messages}
use Rattle.solo_run.specs.SoloView.{SoloView, config_of}
use Rattle.solo_run.specs.Turns.{step_of}
use Rattle.solo_run.proofs.solo.Solo.turn_whole.Goals as goal

pub returns-clause-turned : goal.returns-clause-turned
returns-clause-turned g c _ = record {
  next = record {
    m = c.in-Some.due;
    q = all_messages c.take_before.new.self;
    pending = ap (λ (v : SoloView). v.pending) (sym c.self.view_is) ∙ c.in-Some.ensures.some;
    time_max = c.in-Some.ensures.time_max;
    is = c.in_ok-turn.ensures.turned
        ∙ ap (λ (v : SoloView). config_after msg_cmp (step_of c.args.model.now) (config_of c.args.model.now v).at
        c.in-Some.due (all_messages c.take_before.new.self)) c.self.view_is;
  };
  solo = c.in_ok-turn.ensures.solo;
  counted = c.in_ok-turn.ensures.counted;
  longer = c.in_ok-turn.ensures.longer
      ∙ ap (λ (v : SoloView). length v.trace + 1) c.self.view_is;
}
