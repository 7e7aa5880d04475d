use Rattle.std.proofs.Common.{◌≡◌}
use Rattle.sim_base.specs.Order.{msg_cmp}
use Rattle.run_laws.specs.Queue.{insert_all}
use Rattle.run_laws.specs.World.{first_messages}
use Rattle.stations.specs.Runs.{simulation}
use Rattle.solo_run.specs.Beginning.{AreOpeningStates}
use Rattle.solo_run.specs.EventLists.{all_messages}
use Rattle.solo_run.proofs.opening.open_all.Given as goal

abbrev pub invariant-loop-s : goal.invariant-loop-s
invariant-loop-s l = record {
  opened : AreOpeningStates l.model l.s l.states.items;
  first : all_messages l.pending
      ≡ insert_all msg_cmp (first_messages (simulation l.model) l.s) (all_messages l.fn.pending);
}
