-- The run of a clone until a time, as a run of which a snapshot can be made.
use Rattle.std.proofs.Common.{◌≡◌, ℕ, zero, suc, ◌∙◌, ◌<◌, ◌≤◌, sym, ap, subst, arith, List, [], ◌∷◌, length, min}
use Rattle.std.specs.List.{flat_map}
use Rattle.std.proofs.Math.Nat.{min-le_right}
use Rattle.sim_base.specs.Clones.{Clone, clone_at}
use Rattle.sim_base.specs.declared.decision.Planned.{Planned}
use Rattle.sim_base.specs.declared.limits.TheConstants.{MAX_FILE_BYTES}
use Rattle.sim_base.proofs.ListLaws.{all_weaker}
use Rattle.run_laws.specs.Handlers.{IsStationOf}
use Rattle.run_laws.specs.Runs.{end_of, run}
use Rattle.net_model.specs.Net.{Net}
use Rattle.stations.specs.Runs.{simulation}
use Rattle.solo_run.specs.SoloView.{Entries, IsSolo, SoloView, config_of}
use Rattle.decision_book.specs.Plans.{ArePlanned, IsPlan}
use Rattle.decision_book.proofs.Planned.{planned_at}
use Rattle.study_run.specs.Limits.{last_time}
use Rattle.trace_report.specs.TraceText.{entry_line}
use Rattle.checkpoint.specs.RunSnapshots.{IsRunAt, IsSayableClone, snapshot_of}
use Rattle.snapshot_text.specs.SnapshotTexts.{text_of}
use Rattle.snapshot_text.proofs.RunTexts.{trace-of_text}
use Rattle.study_run.specs.Saving.{HasRunUntil, IsFault, IsSaved}
use Rattle.study_run.specs.SayableRuns.{AreSayable, IsSayable}
use Rattle.study_run.specs.Writing.{IsUnwritten}
use Rattle.study_run.specs.declared.saving.SaveFault.{SaveFault}
use Rattle.study_run.specs.declared.saving.SaveFault.TheVariants.{LimitMet, NoMemory, TooLong}

-- words can say the clone at a place
sayable_at : (cs : List Clone) (k : ℕ) → AreSayable cs → k < length cs → IsSayable (clone_at cs k)
sayable_at [] k h l = absurd (omega (arith, l))
sayable_at (c ∷ cs) zero h l = h.0
sayable_at (c ∷ cs) (suc k) h l = sayable_at cs k h.1 (omega (arith, l))

-- a snapshot can say it
pub is_sayable_clone : (net : Net) (cs : List Clone) (k : ℕ) → ArePlanned net cs → AreSayable cs → k < length cs
    → IsSayableClone net (clone_at cs k)
is_sayable_clone net cs k planned sayable l =
    let plans = planned_at net cs k planned.each in
    let words = sayable_at cs k sayable l in
    record {
      name = words.name;
      stations = all_weaker (IsPlan net) (λ (p : Planned). IsStationOf (length net.sites) p.station)
          (clone_at cs k).plans (λ p is. (is.is_station.low, is.is_station.high)) plans.plans;
      time_max = all_weaker (IsPlan net) (λ (p : Planned). p.at < net.horizon) (clone_at cs k).plans
          (λ p is. is.time_max) plans.plans;
      at_most = plans.length_max;
      sayable = words.changes;
      end = plans.end;
    }

-- the time at which a clone stops is at most its end and the horizon
pub last_time-within_end : (net : Net) (time : ℕ) (c : Clone)
    → last_time net time c ≤ min net.horizon (end_of (simulation net) c)
last_time-within_end net time c = min-le_right time (min net.horizon (end_of (simulation net) c))

-- its run until that time
pub is_run_at : (net : Net) (cs : List Clone) (k time front : ℕ) (v : SoloView) → ArePlanned net cs → AreSayable cs
    → k < length cs → front ≡ last_time net time (clone_at cs k) → IsSolo net v
    → config_of net v ≡ run (simulation net) (clone_at cs k).plans (last_time net time (clone_at cs k))
    → IsRunAt net (clone_at cs k) front v
is_run_at net cs k time front v planned sayable l is solo ran = record {
  clone = is_sayable_clone net cs k planned sayable l;
  within = subst (λ f. f ≤ min net.horizon (end_of (simulation net) (clone_at cs k))) (sym is)
      (last_time-within_end net time (clone_at cs k));
  solo = solo;
  is = ran ∙ ap (run (simulation net) (clone_at cs k).plans) (sym is);
}

-- if the lines of its trace are too long, the text of its snapshot is
pub lines_too_long : (net : Net) (c : Clone) (front : ℕ) (v : SoloView) (trace : Entries) → IsRunAt net c front v
    → trace ≡ v.trace → MAX_FILE_BYTES < length (flat_map (entry_line net) trace)
    → MAX_FILE_BYTES < length (text_of net (snapshot_of net c front))
lines_too_long net c front v trace at same long =
    let all : trace ≡ (run (simulation net) c.plans front).at.trace = same ∙ ap (λ k. k.at.trace) at.is in
    let here = ap (λ (es : Entries). length (flat_map (entry_line net) es)) all in
    let lines = trace-of_text net at.solo.valid c front in
    omega (arith, long, here, lines)

-- what is written of the run until a time is saved
pub written_is_saved : (net : Net) (time : ℕ) (c : Clone) (old_steps new_steps front : ℕ) (text : List ℕ)
    → HasRunUntil net time c old_steps new_steps → front ≡ last_time net time c
    → text ≡ text_of net (snapshot_of net c front) → length text ≤ MAX_FILE_BYTES
    → IsSaved net time c old_steps new_steps text
written_is_saved net time c old_steps new_steps front text ran is text_is at_most = record {
  has_run = ran;
  text_is = text_is ∙ ap (λ f. text_of net (snapshot_of net c f)) is;
  at_most = at_most;
}

-- and if nothing is written, nothing is saved, for the same cause
pub unwritten_is_fault : (net : Net) (time : ℕ) (c : Clone) (old_steps new_steps front : ℕ) (e : SaveFault)
    → HasRunUntil net time c old_steps new_steps → front ≡ last_time net time c
    → IsUnwritten (text_of net (snapshot_of net c front)) e → IsFault net time c old_steps new_steps e
unwritten_is_fault net time c old_steps new_steps front NoMemory ran is h = tt
unwritten_is_fault net time c old_steps new_steps front TooLong ran is h = record {
  has_run = ran;
  too_long = subst (λ f. MAX_FILE_BYTES < length (text_of net (snapshot_of net c f))) is h;
}
unwritten_is_fault net time c old_steps new_steps front (LimitMet station) ran is h = absurd h
