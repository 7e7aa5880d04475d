-- The snapshot of a one-thread run is that of its clone.
use Rattle.std.proofs.Common.{◌≡◌, ℕ, zero, suc, ◌+◌, ◌-◌, ◌≤◌, inl, inr, List, [], ◌∷◌, ◌++◌, length, map, min, take}
use Rattle.std.proofs.Common.{true, not}
use Rattle.std.proofs.Common.{sym, ap, ◌∙◌, Option, Some, slice_get, unwrap_or, arith}
use Rattle.std.proofs.lemmas.List.{map-append, take-take}
use Rattle.std.proofs.lemmas.Bool.{and_parts}
use Rattle.std.proofs.lemmas.Bool.Decides.{nat_tests}
use Rattle.std.proofs.lemmas.Option.{slice_get_cases}
use Rattle.sim_base.specs.Clones.{Clone}
use Rattle.sim_base.specs.declared.entry.Entry.{Entry}
use Rattle.sim_base.specs.declared.entry.Line.{Line}
use Rattle.sim_base.specs.declared.message.Msg.{Msg}
use Rattle.sim_base.proofs.ListLaws.{list_all-weaker}
use Rattle.run_laws.specs.Machine.{Config}
use Rattle.run_laws.specs.Runs.{end_of, run}
use Rattle.run_laws.specs.World.{World, log_of}
use Rattle.net_model.specs.Net.{Net, HasStation}
use Rattle.decision_script.specs.Lines.{is_newline}
use Rattle.solo_run.specs.SoloView.{SoloView, state_of}
use Rattle.stations.specs.Handling.{StateView}
use Rattle.stations.specs.Opening.{setup}
use Rattle.stations.specs.Runs.{log_at, simulation}
use Rattle.stations.specs.Saving.{saved_of}
use Rattle.stations.specs.declared.saved.Saved.{Saved}
use Rattle.stations.proofs.Places.{take-next}
use Rattle.trace_report.specs.TraceText.{entry_line}
use Rattle.trace_report.specs.Writers.{WritesExactly}
use Rattle.checkpoint.specs.RunSnapshots.{HasSnapshot, IsRunAt, snapshot_of, states_from, trace_line}
use Rattle.checkpoint.specs.Snapshots.{SnapshotView}
use Rattle.checkpoint.specs.TraceLines.{is_one_line, is_printed, is_trace_line}
use Rattle.checkpoint.proofs.RunSnapshots.{states_from-list}

module _ (net : Net) (c : Clone) (front : ℕ) (v : SoloView) (at : IsRunAt net c front v) where
  abbrev w : Config (World StateView Msg Line) Msg
  w = run (simulation net) c.plans front

  -- its states are those of the clone's run
  states-run : v.states ≡ states_from w.at.states 1 (length net.sites)
  states-run =
      sym (states_from-list (state_of net v.states) 1 v.states (λ i st is.
      let place : 1 + i ≡ suc i = omega arith in
      ap (state_of net v.states) place ∙ ap (λ (o : Option StateView). unwrap_or o (setup net (suc i)).state) is))
      ∙ ap (λ (n : ℕ). states_from (state_of net v.states) 1 n) at.solo.count
      ∙ ap (λ (k : Config (World StateView Msg Line) Msg). states_from k.at.states 1 (length net.sites)) at.is

  -- its parts make the clone's snapshot
  pub parts-snapshot : (who : List ℕ) (end : Option ℕ) (saved : List Saved) (due : List Msg) (lines : List (List ℕ)) →
      who ≡ c.name → end ≡ c.end → saved ≡ map saved_of v.states → due ≡ v.pending →
      lines ≡ map (trace_line net) v.trace → (x : SnapshotView) →
      x ≡ record { who = who; front = front; end = end; saved = saved; due = due; lines = lines } →
      x ≡ snapshot_of net c front
  parts-snapshot who end saved due lines same_who same_end same_saved same_due same_lines x is =
      let all_saved = same_saved ∙ ap (map saved_of) states-run in
      let all_due = same_due ∙ ap (λ (k : Config (World StateView Msg Line) Msg). k.pending) at.is in
      let all_lines = same_lines
      ∙ ap (λ (k : Config (World StateView Msg Line) Msg). map (trace_line net) k.at.trace) at.is in
      is ∙ (λ i. record {
        who = same_who i;
        front = front;
        end = same_end i;
        saved = all_saved i;
        due = all_due i;
        lines = all_lines i;
      })

  -- the log of a station of the clone is that of the run
  log_at-run : (s : ℕ) → log_at net c s front ≡ log_of (λ (m : Msg). m.to) s v.trace
  log_at-run s =
      let within = at.within in
      let bounded : min front (end_of (simulation net) c) ≡ front = omega (arith, within) in
      ap (λ (n : ℕ). log_of (λ (m : Msg). m.to) s (run (simulation net) c.plans n).at.trace) bounded
      ∙ ap (λ (k : Config (World StateView Msg Line) Msg). log_of (λ (m : Msg). m.to) s k.at.trace) (sym at.is)

  -- so its logs are within the limit
  pub run-has_snapshot : HasSnapshot net c front
  run-has_snapshot = record { clone = at.clone; within = at.within; length_max = short }
    where
      short : (s : ℕ) → HasStation net s → length (log_at net c s front) ≤ net.limit
      short zero there = absurd (let low = there.low in omega (arith, low))
      short (suc i) there = elim (slice_get_cases v.states i).1 [
        | inl found ↦
            let state = at.solo.states i found.0 found.2 in
            let place : i + 1 ≡ suc i = omega arith in
            let within = state.within in
            let log = state.log
            ∙ ap (λ (s : ℕ). length (log_of (λ (m : Msg). m.to) s v.trace)) place
            ∙ ap (λ (l : List (Entry Msg Line)). length l) (sym (log_at-run (suc i))) in
            omega (arith, within, log)
        | inr past ↦
            let beyond = past.0 in
            let count = at.solo.count in
            let high = there.high in
            absurd (omega (arith, beyond, count, high))
      ]

-- ---- map

-- the saved data of one state more
pub saved-next : (i : ℕ) (sts : List StateView) (st : StateView) → slice_get sts i ≡ Some st →
    map saved_of (take i sts) ++ saved_of st ∷ [] ≡ map saved_of (take (i + 1) sts)
saved-next i sts st is = sym (ap (map saved_of) (take-next sts i st is) ∙ map-append saved_of (take i sts) (st ∷ []))

-- ---- trace_line

-- a printed line has no line feed
printed_stays : (b : ℕ) → is_printed b ≡ true → not (is_newline b) ≡ true
printed_stays b h = grind (arith, nat_tests)

pub trace_line-one_line : (line : List ℕ) → is_trace_line line ≡ true → is_one_line line ≡ true
trace_line-one_line line is = list_all-weaker is_printed (λ b. not (is_newline b)) printed_stays line
    (and_parts _ _ is).1

-- the page in which an entry's line was written begins with its trace line
pub page-trace_line : (net : Net) (e : Entry Msg Line) (end : ℕ) (old page : List ℕ) →
    WritesExactly (entry_line net e) 0 end old page → take (end - 1) page ≡ trace_line net e
page-trace_line net e end old page written =
    let place : end ≡ length (entry_line net e) = let p = written.place in omega (arith, p) in
    sym (take-take (end - 1) end page (omega arith))
    ∙ ap (take (end - 1)) written.text
    ∙ ap (λ (n : ℕ). take (n - 1) (entry_line net e)) place
