-- The sequence numbers of a run's messages: no two entries have the same sender and number, and the numbers are
-- bounded.
use Rattle.std.specs.Prelude.{◌≡◌, ◌⊎◌, ℕ, ◌+◌, ◌*◌, ◌<◌, ◌≤◌, length}
use Rattle.sim_base.specs.Clones.{Clone}
use Rattle.sim_base.specs.declared.entry.Entry.{Entry}
use Rattle.run_laws.specs.Queue.{In}
use Rattle.run_laws.specs.Simulation.{Simulation}
use Rattle.run_laws.specs.Runs.{run_of, log_at}
use Rattle.run_laws.specs.Sharing.{IsWithinLimit}
use Rattle.run_laws.specs.Handlers.{IsStation, AreForStations}
use Rattle.run_laws.specs.Laws.{IsMessageOf}

module _ {S M N : Type 0} (sim : Simulation S M N) where
  -- a station uses at most `most` numbers when it opens, and at most `most` with each message that it handles
  pub record UsesFewNumbers (Good : ℕ → S → Type 0) (next : S → ℕ) (most : ℕ) : Type 0 where
    pub opens : (s : ℕ) → IsStation sim s → next (sim.setup s).state ≤ most
    pub grows : (s : ℕ) (st : S) (m : M) → IsStation sim s → Good s st → next (sim.handle s st m).state ≤ next st + most

  module _ (sender number : M → ℕ) where
    -- no two entries of a trace have the same sender and number
    abbrev pub EntriesAreApart : Type 0
    EntriesAreApart = (c : Clone) (front : ℕ) (e f : Entry M N) → AreForStations sim c.plans →
        In e (run_of sim c front).at.trace → In f (run_of sim c front).at.trace →
        sender e.msg ≡ sender f.msg → number e.msg ≡ number f.msg → e ≡ f

    -- a decision's number is below the length of the list. A station's number is below `most` times (1 + the number of
    -- messages that it handled)
    abbrev pub NumbersAreLow : ℕ → Type 0
    NumbersAreLow most = (c : Clone) (front : ℕ) (m : M) → AreForStations sim c.plans
        → IsMessageOf (run_of sim c front) m →
        ((sender m ≡ 0) × (number m < length c.plans)) ⊎
        (IsStation sim (sender m) × (number m < most * (length (log_at sim c (sender m) front) + 1)))

    -- so all numbers are below a bound if no station's log is beyond the limit and the list is short
    abbrev pub NumbersFit : ℕ → Type 0
    NumbersFit most = (c : Clone) (front bound : ℕ) (m : M) → AreForStations sim c.plans →
        IsWithinLimit sim front c → length c.plans ≤ bound → most * (sim.limit + 1) ≤ bound →
        IsMessageOf (run_of sim c front) m → number m < bound
