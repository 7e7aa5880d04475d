-- Steps in which a log would get longer than the limit.
use Rattle.std.specs.Prelude.{◌≡◌, ℕ, ◌+◌, ◌*◌, ◌<◌, ◌≤◌, List, length}
use Rattle.sim_base.specs.Clones.{Clone, clone_at}
use Rattle.net_model.specs.Net.{Net, HasStation}
use Rattle.run_laws.specs.CountLaws.{AreWithinLimitAt}
use Rattle.run_laws.specs.Sharing.{IsWithinLimit}
use Rattle.stations.specs.Runs.{IsBeyond, simulation}
use Rattle.world_core.specs.declared.world.WorldFault.{WorldFault}
use Rattle.world_core.specs.declared.world.WorldFault.TheVariants.{NoMemory, EventLimit}
use Rattle.world_core.specs.Worlds.{total_at}

-- at a cut: the least station with a clone whose log is beyond the limit, and the least such clone there
pub record IsFirstBeyondAt (net : Net) (cs : List Clone) (cut : ℕ → ℕ) (station who : ℕ) : Type 0 where
  pub is_station : HasStation net station
  pub clone : who < length cs
  pub beyond : IsBeyond net station (cut station) (clone_at cs who)
  pub least_station : (s : ℕ) → 1 ≤ s → s < station → AreWithinLimitAt (simulation net) cs s (cut s)
  pub least_clone : (c : ℕ) → c < who → ¬ (IsBeyond net station (cut station) (clone_at cs c))

-- the same at a bound of all stations
abbrev pub IsFirstBeyond : Net → List Clone → ℕ → ℕ → ℕ → Type 0
IsFirstBeyond net cs bound station who = IsFirstBeyondAt net cs (λ s. bound) station who

-- no clone has a log beyond the limit at a station's time
abbrev pub NoneBeyondAt : Net → List Clone → (ℕ → ℕ) → Type 0
NoneBeyondAt net cs cut = (s : ℕ) → HasStation net s → AreWithinLimitAt (simulation net) cs s (cut s)

-- no clone has a log beyond the limit
abbrev pub NoneBeyond : Net → List Clone → ℕ → Type 0
NoneBeyond net cs bound = (c : ℕ) → c < length cs → IsWithinLimit (simulation net) bound (clone_at cs c)

-- the greatest number of messages that the stations may handle for this number of clones
abbrev pub most_handled : Net → ℕ → ℕ
most_handled net clones = length net.sites * (clones * net.limit)

-- the causes of a step's fault: out of memory has none; a limit names the first log beyond it at the next cut, and then
-- at most the limit was handled for each clone at each station
abbrev pub IsFaultAt : Net → List Clone → (ℕ → ℕ) → (ℕ → ℕ) → ℕ → ℕ → WorldFault → Type 0
IsFaultAt net cs cut next old_steps new_steps NoMemory = Unit {0}
IsFaultAt net cs cut next old_steps new_steps (EventLimit station who kept) =
    IsFirstBeyondAt net cs next station who × (kept ≡ net.limit)
    × (new_steps + total_at net cs cut ≤ old_steps + most_handled net (length cs))

-- the same for a window from one front to the next
abbrev pub IsFault : Net → List Clone → ℕ → ℕ → ℕ → ℕ → WorldFault → Type 0
IsFault net cs front bound old_steps new_steps e =
    IsFaultAt net cs (λ s. front) (λ s. bound) old_steps new_steps e
