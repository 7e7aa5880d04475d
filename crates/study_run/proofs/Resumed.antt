-- The text of a saved run is read back, and the run from it is unbroken.
use Rattle.std.proofs.Common.{◌≡◌, ℕ, ◌∙◌, ◌<◌, ◌≤◌, sym, ap, subst, arith, inl, inr, [], length, length-append, min}
use Rattle.std.proofs.Math.Nat.{min-eq_left, min-eq_right, min-le_right}
use Rattle.std.proofs.lemmas.Bool.{cases_lt}
use Rattle.sim_base.specs.Clones.{Clone, clone_at}
use Rattle.run_laws.specs.Runs.{end_of, run}
use Rattle.run_laws.specs.World.{log_of}
use Rattle.net_model.specs.Net.{HasStation, Net}
use Rattle.net_model.specs.Rules.{IsNet}
use Rattle.stations.specs.Runs.{log_at, simulation, trace_of}
use Rattle.study_run.specs.Limits.{IsWithin, last_time, until}
use Rattle.study_run.proofs.Fulls.{met_alone, within_alone, within_is_not_full}
use Rattle.study_run.proofs.SoloRuns.{last_time-within}
use Rattle.solo_run.specs.Limit.{first_beyond}
use Rattle.solo_run.specs.SoloView.{Entries}
use Rattle.solo_run.proofs.OneTurn.{beyond_append}
use Rattle.checkpoint.specs.RunSnapshots.{HasSnapshot, snapshot_of}
use Rattle.checkpoint.specs.Snapshots.{onward}
use Rattle.checkpoint.proofs.RunSnapshots.{resumed_run_is_unbroken}
use Rattle.snapshot_text.proofs.RunTexts.{resumed_run}
use Rattle.study_run.specs.SavedRunLaws.{SavedRunsAreResumed}
use Rattle.study_run.proofs.SavedPasts.{past_is_counted, past_is_short}
use Rattle.study_run.proofs.SavedRuns.{is_sayable_clone, last_time-within_end}

module _ (net : Net) (time : ℕ) (c : Clone) where
  -- a log of the clone that ends at that time is the clone's log there
  log_until : (s : ℕ) → log_at net (until net time c) s net.horizon ≡ log_at net c s (last_time net time c)
  log_until s =
      let last : ℕ = last_time net time c in
      let within : last ≤ min net.horizon (end_of (simulation net) c) = last_time-within_end net time c in
      let end = min-le_right net.horizon (end_of (simulation net) c) in
      let before : last ≤ end_of (simulation net) c = omega (arith, within, end) in
      ap (λ f. log_of (simulation net).to s (run (simulation net) c.plans f).at.trace)
      (min-eq_right (last_time-within net time c) ∙ sym (min-eq_left before))

  -- no log is beyond the limit there
  within_until : IsWithin net (until net time c) → (s : ℕ) → HasStation net s
      → length (log_at net c s (last_time net time c)) ≤ net.limit
  within_until within s is = elim (cases_lt net.limit (length (log_at net c s (last_time net time c)))) [
    | inl long ↦ absurd (within s (is.low, is.high)
        (subst (λ l. net.limit < length l) (sym (log_until s)) long))
    | inr short ↦ short
  ]

  -- the trace until that time
  trace_until : trace_of net (until net time c) ≡ (run (simulation net) c.plans (last_time net time c)).at.trace
  trace_until = ap (λ f. (run (simulation net) c.plans f).at.trace) (min-eq_right (last_time-within net time c))

-- the first log beyond the limit in the whole run is the first one in the run from the snapshot, after what was handled
-- before
resumed_first : (net : Net) → IsNet net → (time : ℕ) (c : Clone) → HasSnapshot net c (last_time net time c)
    → first_beyond net.limit [] (trace_of net c)
    ≡ first_beyond net.limit (run (simulation net) c.plans (last_time net time c)).at.trace
    (onward net (snapshot_of net c (last_time net time c)))
resumed_first net valid time c has =
    let past : Entries = (run (simulation net) c.plans (last_time net time c)).at.trace in
    ap (first_beyond net.limit []) (resumed_run_is_unbroken net valid c (last_time net time c) has)
    ∙ beyond_append net.limit [] past (onward net (snapshot_of net c (last_time net time c)))
    ((within_is_not_full net.limit past).0 (past_is_short net valid c (last_time net time c) has))

-- the text of a saved run is read back, and the run from it has the text of the clone's whole run
pub saved_runs_are_resumed : (net : Net) → IsNet net → SavedRunsAreResumed net
saved_runs_are_resumed net valid cs k time planned sayable l within at_most =
    let c : Clone = clone_at cs k in
    let has : HasSnapshot net c (last_time net time c) =
    record {
      clone = is_sayable_clone net cs k planned sayable l;
      within = last_time-within_end net time c;
      length_max = within_until net time c within;
    } in
    let first = ap length (trace_until net time c) in
    let whole = ap length (resumed_run_is_unbroken net valid c (last_time net time c) has) in
    let both = length-append (run (simulation net) c.plans (last_time net time c)).at.trace
    (onward net (snapshot_of net c (last_time net time c))) in
    record {
      back = resumed_run net valid c (last_time net time c) has at_most;
      count = omega (arith, first, whole, both);
      within = λ stays. within_alone net c (resumed_first net valid time c has
          ∙ stays (run (simulation net) c.plans (last_time net time c)).at.trace
          (past_is_counted net valid c (last_time net time c) has));
      meets = λ station met. met_alone net c station met.is_station (resumed_first net valid time c has
          ∙ met.first (run (simulation net) c.plans (last_time net time c)).at.trace
          (past_is_counted net valid c (last_time net time c) has));
    }
