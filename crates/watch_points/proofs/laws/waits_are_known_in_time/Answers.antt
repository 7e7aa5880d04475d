use Rattle.watch_points.proofs.PassingWatcher.{net_known, net_not_late}
use Rattle.watch_points.proofs.laws.waits_are_known_in_time.Goals as goal

pub returns-clause-known : goal.returns-clause-known
returns-clause-known c net valid = net_known net valid

pub returns-clause-not_late : goal.returns-clause-not_late
returns-clause-not_late c net valid = net_not_late net valid
