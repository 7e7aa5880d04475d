-- Properties of the decision lists of a right journal.
use Rattle.std.specs.Prelude.{◌≡◌, ◌<◌, ◌≤◌, List, length, true, IfSome}
use Rattle.std.specs.List.{AllByRecursion}
use Rattle.sim_base.specs.declared.decision.Planned.{Planned}
use Rattle.sim_base.specs.declared.lists.TheConstants.{MAX_CLONES, MAX_DECISIONS}
use Rattle.sim_base.specs.Clones.{Clone}
use Rattle.net_model.specs.Net.{Net, HasStation, site_of}
use Rattle.stations.specs.Changes.{is_accepted}

-- a decision of a list: at a time before the horizon, for an existing station, a change that it accepts
pub record IsPlan (net : Net) (plan : Planned) : Type 0 where
  pub time_max : plan.at < net.horizon
  pub is_station : HasStation net plan.station
  pub taken : is_accepted (site_of net plan.station) plan.change ≡ true

-- a clone with such decisions, at most MAX_DECISIONS, and with an end before the horizon if it has one
pub record IsPlanned (net : Net) (clone : Clone) : Type 0 where
  pub plans : AllByRecursion (IsPlan net) clone.plans
  pub length_max : length clone.plans ≤ MAX_DECISIONS
  pub end : IfSome clone.end (λ at. at < net.horizon)

-- such clones, at most MAX_CLONES
pub record ArePlanned (net : Net) (clones : List Clone) : Type 0 where
  pub at_most : length clones ≤ MAX_CLONES
  pub each : AllByRecursion (IsPlanned net) clones
