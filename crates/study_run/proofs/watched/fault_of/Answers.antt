use Rattle.std.proofs.Common.{subst}
use Rattle.study_run.specs.Stops.{HasPlace}
use Rattle.study_run.proofs.watched.fault_of.Goals as goal

pub clone_number-requires : goal.clone_number-requires
clone_number-requires c = record {
  is_place = subst (HasPlace c.args.watcher.now) c.in-EventLimit.is c.requires.place;
}
