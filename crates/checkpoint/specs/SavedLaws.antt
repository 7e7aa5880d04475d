-- The laws of a network's runs and of their states as plain data, as statements that contracts cite.
use Rattle.std.specs.Prelude.{◌≡◌, ℕ, ◌<◌, ◌≤◌, true, List, length, Some}
use Rattle.std.specs.List.{AllByRecursion}
use Rattle.sim_base.specs.Clones.{Clone}
use Rattle.sim_base.specs.declared.decision.Planned.{Planned}
use Rattle.run_laws.specs.Runs.{run}
use Rattle.net_model.specs.Net.{Net, HasStation}
use Rattle.stations.specs.Fits.{FitsState, SuitsNet}
use Rattle.stations.specs.Fitting.{fits_saved}
use Rattle.stations.specs.Handling.{StateView}
use Rattle.stations.specs.Runs.{simulation, log_at, state_at}
use Rattle.stations.specs.Saving.{saved_of, restored}
use Rattle.checkpoint.specs.RunKeeps.{RunKeepsState, RunKeepsWorld, sent_of, jobs_of}

module _ (net : Net) where
  -- the invariant of every state of station s in a run within the limit
  pub record IsRunState (s : ℕ) (st : StateView) : Type 0 where
    pub station : st.sender.station ≡ s
    pub fits : FitsState st
    pub suits : SuitsNet net st
    pub within : st.handled ≤ net.limit
    pub kept : RunKeepsState net s st
    pub sent : sent_of st.kind ≤ jobs_of st.kind

  -- the saved data of such a state fits the station, and restores the state itself
  abbrev pub StateIsRestored : Type 0
  StateIsRestored = (s : ℕ) (st : StateView) → IsRunState s st →
      (fits_saved net s (saved_of st) ≡ true) × (restored net s (saved_of st) ≡ Some st)

  -- every station of a clone's run has such a state, if its log is within the limit and all decisions are before the
  -- horizon
  abbrev pub RunStatesAreKept : Type 0
  RunStatesAreKept = (c : Clone) (s front : ℕ) → HasStation net s →
      AllByRecursion (λ p. p.at < net.horizon) c.plans → front ≤ net.horizon →
      length (log_at net c s front) ≤ net.limit → IsRunState s (state_at net c s front)

  -- every run of the network keeps the invariant, at each front up to the horizon
  abbrev pub RunInvariantHolds : Type 0
  RunInvariantHolds = (plans : List Planned) (front : ℕ) → AllByRecursion (λ p. p.at < net.horizon) plans →
      front ≤ net.horizon → RunKeepsWorld net (run (simulation net) plans front)
