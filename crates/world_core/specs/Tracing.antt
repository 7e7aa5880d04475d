-- The trace of a clone, from the logs of the copies that represent it.
use Rattle.std.specs.Prelude.{ℕ, List}
pub use Rattle.sim_base.specs.Entries.{by_key}
use Rattle.clone_sets.specs.Sets.{has}
use Rattle.run_laws.specs.Queue.{In}
use Rattle.run_laws.specs.Copies.{Carries}
use Rattle.phys_proc.specs.Own.{StationCopy}

-- one of these copies represents clone c
pub record IsCopyOf (copies : List StationCopy) (c : ℕ) (copy : StationCopy) : Type 0 where
  pub is_copy : In copy copies
  pub is_in : Carries has copy c
