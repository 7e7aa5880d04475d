-- A run that continues from the states and the pending messages of a world, without the world's trace.
use Rattle.std.specs.Prelude.{◌≡◌, ℕ, ◌≤◌, List, [], ◌++◌, min}
use Rattle.sim_base.specs.Clones.{Clone}
use Rattle.sim_base.specs.declared.entry.Entry.{Entry}
use Rattle.run_laws.specs.Machine.{Config}
use Rattle.run_laws.specs.Simulation.{Simulation}
use Rattle.run_laws.specs.World.{World}
use Rattle.run_laws.specs.Runs.{run, run_from, end_of, trace_of}

module _ {S M N : Type 0} where
  -- the world with these entries before its trace
  abbrev pub with_past : List (Entry M N) → Config (World S M N) M → Config (World S M N) M
  with_past es c = record { at = record { states = c.at.states; trace = es ++ c.at.trace }; pending = c.pending }

  -- the world with an empty trace
  abbrev pub without_trace : Config (World S M N) M → Config (World S M N) M
  without_trace c = record { at = record { states = c.at.states; trace = [] }; pending = c.pending }

module _ {S M N : Type 0} (sim : Simulation S M N) where
  -- the entries of a run from the states and the pending messages of a world, before a bound
  abbrev pub onward : Config (World S M N) M → ℕ → List (Entry M N)
  onward c bound = (run_from sim (without_trace c) bound).at.trace

  -- entries before the trace of a world remain there and change nothing else in its run
  abbrev pub RunForgetsItsTrace : Type 0
  RunForgetsItsTrace = (es : List (Entry M N)) (c : Config (World S M N) M) (bound : ℕ) →
      run_from sim (with_past es c) bound ≡ with_past es (run_from sim c bound)

  -- the trace of a clone is the trace of its run to a front, followed by the entries of a run resumed there
  abbrev pub ResumedIsUnbroken : Type 0
  ResumedIsUnbroken = (c : Clone) (front : ℕ) → front ≤ min sim.horizon (end_of sim c) →
      trace_of sim c ≡ (run sim c.plans front).at.trace
      ++ onward (run sim c.plans front) (min sim.horizon (end_of sim c))
