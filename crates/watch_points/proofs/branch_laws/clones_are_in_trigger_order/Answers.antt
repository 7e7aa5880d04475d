use Rattle.watch_points.proofs.Keeping.{clones_in_trigger_order}
use Rattle.watch_points.proofs.branch_laws.clones_are_in_trigger_order.Goals as goal

pub returns : goal.returns
returns g c = record { in_order = clones_in_trigger_order g.T.Stations.sim }
