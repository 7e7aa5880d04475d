-- The numbers of a run's pending messages: each is below the next number of its sender.
use Rattle.std.specs.Prelude.{◌≡◌, ◌⊎◌, ℕ, ◌<◌, List, length}
use Rattle.sim_base.specs.declared.decision.Planned.{Planned}
use Rattle.run_laws.specs.Queue.{In}
use Rattle.run_laws.specs.Machine.{Config}
use Rattle.run_laws.specs.Simulation.{Simulation}
use Rattle.run_laws.specs.World.{World}
use Rattle.run_laws.specs.Runs.{run}
use Rattle.run_laws.specs.Handlers.{IsStation, AreForStations}

module _ {S M N : Type 0} (sim : Simulation S M N) (sender number : M → ℕ) (next : S → ℕ) where
  -- pending messages have used numbers. A decision's number is a place in the list of decisions. The number of a
  -- station's message is below the next number of its sender. Every pending message is for a station
  pub record PendingNumbersAreUsed (plans : List Planned) (w : Config (World S M N) M) : Type 0 where
    pub used : (z : M) → In z w.pending →
        ((sender z ≡ 0) × (number z < length plans))
        ⊎ (IsStation sim (sender z) × (number z < next (w.at.states (sender z))))
    pub to_station : (z : M) → In z w.pending → IsStation sim (sim.to z)

  -- the pending messages of every run have used numbers, at each front
  abbrev pub PendingNumbersAreUsedInRuns : Type 0
  PendingNumbersAreUsedInRuns = (plans : List Planned) (front : ℕ) → AreForStations sim plans →
      PendingNumbersAreUsed plans (run sim plans front)
