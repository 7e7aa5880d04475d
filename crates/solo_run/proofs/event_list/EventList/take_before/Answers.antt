use Rattle.std.proofs.Common.{refl, sym}
use Rattle.solo_run.specs.EventLists.{all_messages}
use Rattle.solo_run.proofs.Firsts.{none_before, none_before-empty}
use Rattle.solo_run.proofs.event_list.EventList.take_before.Goals as goal

pub returns-in_default-clause-none : goal.returns-in_default-clause-none
returns-in_default-clause-none c = (
  refl,
  none_before (all_messages c.args.self.now) c.in-Some.first c.args.bound c.in-Some.ensures.sorted
      (sym c.in-Some.ensures.value) c.if-first-bound.false,
)

pub returns-in_default-2-clause-none : goal.returns-in_default-2-clause-none
returns-in_default-2-clause-none c = (
  refl,
  none_before-empty (all_messages c.args.self.now) c.args.bound (sym c.in_default.ensures.value),
)
