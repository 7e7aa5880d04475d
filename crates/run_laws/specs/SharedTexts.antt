-- What the traces of two clones have in common, and the total length of their lines.
use Rattle.std.specs.Prelude.{◌≡◌, ℕ, zero, suc, ◌+◌, ◌≤◌, List, [], ◌∷◌, ◌++◌}
use Rattle.std.specs.Prelude.{Bool, true, not, if◌then◌else◌, min, nat_lt, length, take, sum_by}
use Rattle.std.specs.List.{filter, flat_map}
use Rattle.sim_base.specs.Clones.{Clone}
use Rattle.sim_base.specs.declared.decision.Planned.{Planned}
use Rattle.sim_base.specs.declared.entry.Entry.{Entry}
use Rattle.run_laws.specs.Queue.{In, Sorted}
use Rattle.run_laws.specs.Simulation.{Simulation}
use Rattle.run_laws.specs.World.{set_messages}
use Rattle.run_laws.specs.Window.{earlier_than}
use Rattle.run_laws.specs.Runs.{end_of, trace_of, log_at}
use Rattle.run_laws.specs.Laws.{entries_before}
use Rattle.run_laws.specs.Handlers.{AreForStations}
use Rattle.run_laws.specs.Merges.{entry_order}
use Rattle.run_laws.specs.TraceLaws.{InLists}

-- the least time, at most `most`, of a decision that is in only one of two lists at its place
abbrev pub parting_time : (Planned → Planned → Bool) → ℕ → List Planned → List Planned → ℕ
parting_time same most [] [] = most
parting_time same most (p ∷ ps) [] = min p.at (parting_time same most ps [])
parting_time same most [] (q ∷ qs) = min q.at (parting_time same most [] qs)
parting_time same most (p ∷ ps) (q ∷ qs) =
    if same p q then parting_time same most ps qs else min (min p.at q.at) (parting_time same most ps qs)

-- the sum of f over the stations 1 to n
abbrev pub station_sum : (ℕ → ℕ) → ℕ → ℕ
station_sum f zero = 0
station_sum f (suc n) = station_sum f n + f (suc n)

module _ {S M N : Type 0} (sim : Simulation S M N) where
  -- the entries at a time or after it
  abbrev pub entries_from : ℕ → List (Entry M N) → List (Entry M N)
  entries_from t es = filter (λ e. not (nat_lt (sim.time e.msg) t)) es

  -- the entries of station s from a time on
  abbrev pub log_from : Clone → ℕ → ℕ → List (Entry M N)
  log_from c t s = entries_from t (log_at sim c s sim.horizon)

  -- the time before which two clones have the same trace
  abbrev pub parting_of : (Planned → Planned → Bool) → Clone → Clone → ℕ
  parting_of same c d = parting_time same (min (end_of sim c) (end_of sim d)) c.plans d.plans

  -- `same` is false for different decisions, and each decision comes at its time
  pub record TellsPlans (same : Planned → Planned → Bool) : Type 0 where
    pub sound : (p q : Planned) → same p q ≡ true → p ≡ q
    pub at : (k : ℕ) (p : Planned) → sim.time (sim.set_message k p) ≡ p.at

  -- clones have the same trace before a time if their decisions agree below it and neither ends before it
  abbrev pub TracesAgree : Type 0
  TracesAgree = (c d : Clone) (t : ℕ) → t ≤ end_of sim c → t ≤ end_of sim d → t ≤ sim.horizon →
      earlier_than sim.time t (set_messages sim 0 c.plans) ≡ earlier_than sim.time t (set_messages sim 0 d.plans) →
      entries_before sim t (trace_of sim c) ≡ entries_before sim t (trace_of sim d)

  -- and so do clones until their decision lists diverge
  abbrev pub TracesAgreeToParting : Type 0
  TracesAgreeToParting = (same : Planned → Planned → Bool) (c d : Clone) → TellsPlans same →
      end_of sim c ≤ sim.horizon → end_of sim d ≤ sim.horizon →
      entries_before sim (parting_of same c d) (trace_of sim c)
      ≡ entries_before sim (parting_of same c d) (trace_of sim d)

  -- a trace is its part before a time followed by the rest
  abbrev pub TraceIsSplit : Type 0
  TraceIsSplit = (c : Clone) (t : ℕ) → AreForStations sim c.plans →
      trace_of sim c ≡ entries_before sim t (trace_of sim c) ++ entries_from t (trace_of sim c)

  -- before two clones diverge, their first lines are equal, for every format of a line
  abbrev pub LinesAgree : Type 0
  LinesAgree = (same : Planned → Planned → Bool) (c d : Clone) (line : Entry M N → List ℕ) → TellsPlans same →
      end_of sim c ≤ sim.horizon → end_of sim d ≤ sim.horizon → AreForStations sim c.plans
      → AreForStations sim d.plans →
      flat_map line (trace_of sim d) ≡
      take (length (flat_map line (entries_before sim (parting_of same c d) (trace_of sim d))))
      (flat_map line (trace_of sim c))
      ++ flat_map line (entries_from (parting_of same c d) (trace_of sim d))

  -- the lines of a trace from a time on are as long as those of the stations' logs together
  abbrev pub LengthIsOfLogs : Type 0
  LengthIsOfLogs = (c : Clone) (t : ℕ) (line : Entry M N → List ℕ) → AreForStations sim c.plans →
      length (flat_map line (entries_from t (trace_of sim c))) ≡
      station_sum (λ s. sum_by (λ e. length (line e)) (log_from c t s)) sim.stations

  -- a list that rises by key, and has exactly the entries of the stations' logs from a time on, is the trace from then
  -- on
  abbrev pub RestIsOfLogs : (M → ℕ) → (M → ℕ) → Type 0
  RestIsOfLogs sender number = (c : Clone) (t : ℕ) (es : List (Entry M N)) → AreForStations sim c.plans →
      Sorted (entry_order sim.time sender number) es → ((e : Entry M N) → In e es → InLists sim (log_from c t) e) →
      ((e : Entry M N) → InLists sim (log_from c t) e → In e es) → es ≡ entries_from t (trace_of sim c)
