-- The start of a step of all copies of a station.
use Rattle.std.specs.Prelude.{◌≡◌, ℕ, ◌≤◌, List, []}
use Rattle.std.specs.List.{AllByRecursion}
use Rattle.sim_base.specs.declared.lists.TheConstants.{MAX_CLONES}
use Rattle.clone_sets.specs.Sets.{has, empty}
use Rattle.net_model.specs.Net.{Net}
use Rattle.net_model.specs.Rules.{IsNet}
use Rattle.run_laws.specs.Copies.{Disjoint}
use Rattle.phys_proc.specs.Own.{StationCopy, IsCopy, all_sizes}
use Rattle.phys_proc.specs.declared.advancing.StepOutput.{StepOutput}

-- the copies of station s may be stepped to the bound
pub record MayStepCopies (net : Net) (s bound : ℕ) (copies : List StationCopy) : Type 0 where
  pub valid : IsNet net
  pub fits : AllByRecursion (IsCopy net s) copies
  pub disjoint : Disjoint has copies
  pub time_max : bound ≤ net.horizon
  pub at_most : all_sizes copies ≤ MAX_CLONES

-- no copy has reached the bound yet, nothing was sent or handled, and no clone is over the limit
pub record IsNewOutput (stage : StepOutput) : Type 0 where
  pub none : stage.done ≡ []
  pub silent : stage.sent ≡ []
  pub under : stage.over ≡ empty
  pub idle : stage.handled ≡ 0
