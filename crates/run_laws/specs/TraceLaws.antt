-- The laws of traces and the stations' logs, as statements that contracts cite.
use Rattle.std.specs.Prelude.{◌≡◌, ℕ, List}
use Rattle.sim_base.specs.Clones.{Clone}
use Rattle.sim_base.specs.declared.entry.Entry.{Entry}
use Rattle.run_laws.specs.Queue.{In, Sorted}
use Rattle.run_laws.specs.Simulation.{Simulation}
use Rattle.run_laws.specs.Runs.{run_of, log_at}
use Rattle.run_laws.specs.Handlers.{IsStation, AreForStations}
use Rattle.run_laws.specs.Merges.{entry_order, merge_of_logs}

module _ {S M N : Type 0} (sim : Simulation S M N) where
  -- an entry of some station's list
  abbrev pub InLists : (ℕ → List (Entry M N)) → Entry M N → Type 0
  InLists list e = (s : ℕ) × IsStation sim s × In e (list s)

  -- an entry of some station's log
  abbrev pub InLogs : Clone → ℕ → Entry M N → Type 0
  InLogs c front e = InLists (λ s. log_at sim c s front) e

  module _ (sender number : M → ℕ) where
    -- a list that rises by key, and has exactly the entries of the stations' logs, is the trace
    abbrev pub TraceIsOfLogs : Type 0
    TraceIsOfLogs = (c : Clone) (front : ℕ) (es : List (Entry M N)) → AreForStations sim c.plans →
        Sorted (entry_order sim.time sender number) es → ((e : Entry M N) → In e es → InLogs c front e) →
        ((e : Entry M N) → InLogs c front e → In e es) →
        es ≡ (run_of sim c front).at.trace

    -- and so is the merge of the logs, station after station
    abbrev pub TraceIsMerge : Type 0
    TraceIsMerge = (c : Clone) (front : ℕ) → AreForStations sim c.plans →
        merge_of_logs sim sender number c front sim.stations ≡ (run_of sim c front).at.trace
