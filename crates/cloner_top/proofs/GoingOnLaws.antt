-- What `save` writes of a clone, `resume` turns into what `solo` writes of it.
use Rattle.std.proofs.Common.{◌≡◌, ◌≤◌, ℕ, ◌+◌, arith, refl, sym, subst, ◌∙◌, List, [], ◌∷◌, length, Some}
use Rattle.std.proofs.Common.{Bool, true, false, Ok, Err}
use Rattle.std.specs.Prelude.{if◌then◌else◌, nat_le}
use Rattle.std.proofs.lemmas.Bool.Decides.{nat_tests}
use Rattle.sim_base.specs.Clones.{Clone, clone_at, place_of}
use Rattle.sim_base.specs.declared.limits.TheConstants.{MAX_FILE_BYTES}
use Rattle.decision_book.proofs.ClonesByName.{name_at, place_of-bounds}
use Rattle.net_model.specs.Net.{Net}
use Rattle.stations.specs.Runs.{trace_of}
use Rattle.trace_report.specs.Outputs.{clone_text}
use Rattle.checkpoint.specs.RunSnapshots.{snapshot_of}
use Rattle.checkpoint.specs.Snapshots.{SnapshotView, onward}
use Rattle.study_run.specs.Limits.{last_time, until}
use Rattle.study_run.specs.SavedRunLaws.{IsResumed}
use Rattle.study_run.specs.Saving.{saved_text}
use Rattle.study_run.proofs.Resumed.{saved_runs_are_resumed}
use Rattle.world_core.specs.Overs.{most_handled}
use Rattle.cloner_top.specs.declared.excess.Excess.TheVariants.{LongSnapshot}
use Rattle.cloner_top.specs.Endings.{Ending, MayGoOn, MayRunAlone, limit_met_at, overrun, saved_or_too_long}
use Rattle.cloner_top.specs.Endings.{solo_text, whole, whole_output}
use Rattle.cloner_top.specs.Endings as ends
use Rattle.cloner_top.specs.GoingOn.{GoesOn, SavedRunsGoOn, after}

-- a text that is written is that of the clone's snapshot, and not too long
written_text : (net : Net) (time : ℕ) (c : Clone) (text : List ℕ) → saved_or_too_long net time c ≡ Ok text
    → (text ≡ saved_text net time c) × (length (saved_text net time c) ≤ MAX_FILE_BYTES)
written_text net time c text is = by (nat_le (length (saved_text net time c)) MAX_FILE_BYTES) refl is
  where
    by : (b : Bool) → nat_le (length (saved_text net time c)) MAX_FILE_BYTES ≡ b
        → (if b then Ok (saved_text net time c) else Err LongSnapshot) ≡ Ok text
        → (text ≡ saved_text net time c) × (length (saved_text net time c) ≤ MAX_FILE_BYTES)
    by true short same = (sym (let e = same in cc), grind (arith, nat_tests))
    by false short same = absurd (let e = same in cc)

module _ (net : Net) (clones : List Clone) (name : List ℕ) (time : ℕ) (k : ℕ) (found : place_of name clones ≡ Some k)
    (resumed : IsResumed net time (clone_at clones k)) where
  abbrev c : Clone
  c = clone_at clones k

  abbrev x : SnapshotView
  x = snapshot_of net c (last_time net time c)

  -- the messages handled before
  abbrev work : ℕ
  work = length (trace_of net (until net time c))

  -- how the run from the snapshot ends
  goes_on : (end : Ending) → MayGoOn net x end
      → MayRunAlone net clones name whole (solo_text net) (after work end)
  goes_on _ (ends.resumed stays) =
      let all : work + length (onward net x) ≡ length (trace_of net c) = resumed.count in
      subst (λ (t : List ℕ). MayRunAlone net clones name whole (solo_text net)
      (whole_output (t ∷ []) (work + length (onward net x)))) (sym resumed.back.resumed)
      (subst (λ n. MayRunAlone net clones name whole (solo_text net) (whole_output (clone_text net c ∷ []) n)) (sym all)
      (ends.fits k (clone_text net c) found (resumed.within stays) refl))
  goes_on _ (ends.limit_met_onward station met) =
      subst (λ (n : List ℕ). MayRunAlone net clones name whole (solo_text net)
      (overrun [] (limit_met_at net station n) (most_handled net 1))) (sym (name_at name clones k found))
      (ends.limit_met k station found (resumed.meets station met))

  -- how a run from the text ends
  text_goes_on : GoesOn net clones name (saved_text net time c) work
  text_goes_on _ (ends.bad_snapshot fault bad) = absurd (let e = sym resumed.back.read ∙ bad in cc)
  text_goes_on end (ends.going_on y _ is may) =
      let same : y ≡ x = let e = sym is ∙ resumed.back.read in cc in
      goes_on end (subst (λ (v : SnapshotView). MayGoOn net v end) same may)

-- this holds for each text that `save` writes
pub saved_runs_go_on : SavedRunsGoOn
saved_runs_go_on net clones name text time work valid planned sayable saved = by text work saved
  where
    by : (text : List ℕ) (work : ℕ)
        → MayRunAlone net clones name (until net time) (saved_or_too_long net time) (whole_output (text ∷ []) work)
        → GoesOn net clones name text work
    by text _ (ends.fits k _ found within text_is) =
        let is = written_text net time (clone_at clones k) text text_is in
        subst (λ (t : List ℕ). GoesOn net clones name t (length (trace_of net (until net time (clone_at clones k)))))
        (sym is.0)
        (text_goes_on net clones name time k found (saved_runs_are_resumed net valid clones k time planned sayable
        (place_of-bounds name clones k found) within is.1))
