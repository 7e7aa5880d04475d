use Rattle.study_run.proofs.watched.make_branches.Goals as goal

pub returns-in-Ok-clause-made : goal.returns-in-Ok-clause-made
returns-in-Ok-clause-made c = record {
  follows = c.in-Ok.ensures.follows;
  world = c.in-Ok.ensures.world;
  script = c.in-Ok.ensures.script;
  script_len = c.in-Ok.ensures.script_len;
  watches = c.in-Ok.ensures.watches;
  handled = c.in-Ok.ensures.handled;
  for_stations = c.lists-lists.ensures.in_net.plans;
}
