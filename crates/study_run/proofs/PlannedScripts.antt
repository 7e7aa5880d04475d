-- A book may have the clones of a script, so what is saved of them is resumed.
use Rattle.std.proofs.Common.{◌≡◌, ℕ, ◌+◌, ◌<◌, ◌≤◌, sym, ap, subst, refl, arith, List, [], ◌∷◌, length, Bool}
use Rattle.std.proofs.Common.{nat_le, Option, Some, None, Result, Ok, Err, option_map, unwrap_or, position}
use Rattle.std.specs.Prelude.{is_none, is_some}
use Rattle.std.specs.Str.{bytes_eq}
use Rattle.std.proofs.lemmas.Bool.{leb-false}
use Rattle.std.proofs.lemmas.List.Quantifiers.{position-Some}
use Rattle.sim_base.specs.Clones.{Clone, clone_at, place_of}
use Rattle.sim_base.specs.declared.decision.Decision.{Decision}
use Rattle.sim_base.specs.declared.decision.Decision.TheVariants.{Fork, Set, End}
use Rattle.sim_base.specs.declared.limits.TheConstants.{MAX_FILE_BYTES}
use Rattle.sim_base.specs.declared.lists.TheConstants.{MAX_CLONES, MAX_DECISIONS}
use Rattle.sim_base.specs.declared.message.Change.{Change}
use Rattle.net_model.specs.Net.{Net, no_site, site_of, station_named}
use Rattle.stations.specs.Changes.{accepts}
use Rattle.stations.specs.declared.change.ChangeFault.{ChangeFault}
use Rattle.stations.specs.declared.change.ChangeFault.TheVariants as change_fault
use Rattle.decision_script.specs.Alone.{decisions}
use Rattle.decision_book.specs.Journal.{Situation, clone_place, clones_after, if_accepted, outset, plan_of_set}
use Rattle.decision_book.specs.Plans.{ArePlanned, IsPlan}
use Rattle.decision_book.specs.Replies.{change_row, fault_row, first_row, reply, row, time_rows}
use Rattle.decision_book.specs.Scripts.{after_all, after_decision}
use Rattle.decision_book.specs.declared.call.Reply.{Reply}
use Rattle.decision_book.specs.declared.call.Reply.TheVariants.{Accepted, ListFull, NameTaken, TooManyClones}
use Rattle.decision_book.specs.declared.call.Reply.TheVariants.{UnknownStation}
use Rattle.decision_book.proofs.Planned.{plan_taken, planned_added, planned_ended, planned_forked}
use Rattle.decision_book.proofs.Rows.{IsOpen, IsOpen-accepted, first_row-Accepted, first_row-times}
use Rattle.snapshot_text.specs.Laws.{IsReadFrom}
use Rattle.study_run.specs.Limits.{last_time}
use Rattle.study_run.specs.SavedRunLaws.{IsResumed}
use Rattle.study_run.specs.Saving.{saved_text}
use Rattle.study_run.specs.ScriptLaws.{SavedScriptsAreResumed, ScriptsArePlanned, clones_of}
use Rattle.study_run.proofs.Resumed.{saved_runs_are_resumed}
use Rattle.study_run.proofs.Sayable.{scripts_are_sayable}

-- ---- rows

-- the number of a station that is found by its name is one of the network
station_named-high : (name : List ℕ) (net : Net) (s : ℕ) → station_named name net ≡ Some s → s ≤ length net.sites
station_named-high name net s is = by (position (λ site. bytes_eq site.name name) net.sites) refl is
  where
    by : (o : Option ℕ) → position (λ site. bytes_eq site.name name) net.sites ≡ o
        → option_map (λ i. i + 1) o ≡ Some s → s ≤ length net.sites
    by None at e = absurd (cc)
    by (Some i) at e =
        let within = (position-Some (λ site. bytes_eq site.name name) net.sites i no_site at).0 in
        let same : i + 1 ≡ s = cc in
        omega (arith, within, same)

-- ---- an accepted decision keeps clones planned

module _ (net : Net) (at : ℕ) (station : List ℕ) (change : Change) where
  -- the plan of a set, with the station that was found
  abbrev plan : Option ℕ → Type 0
  plan o = IsPlan net (record { at = at; station = unwrap_or o 0; change = change })

  -- a station that was found and accepts the change
  plan_accepted : (s : ℕ) (more : List (Option Reply)) → station_named station net ≡ Some s
      → (r : Result (Unit {0}) ChangeFault) → accepts (site_of net s) change ≡ r
      → first_row (fault_row r ∷ more) ≡ Accepted → (first_row more ≡ Accepted) × (at < net.horizon → plan (Some s))
  plan_accepted s more found (Ok u) taken h =
      (h, λ early. plan_taken net at s station change u found (station_named-high station net s found) taken early)
  plan_accepted s more found (Err change_fault.WrongParameter) taken h = absurd (cc)
  plan_accepted s more found (Err change_fault.OutOfRange) taken h = absurd (cc)

  -- so if the rows of the station do not refuse
  plan_found : (more : List (Option Reply)) (o : Option ℕ) → station_named station net ≡ o
      → first_row (row (is_none o) UnknownStation ∷ change_row net o change ∷ more) ≡ Accepted
      → (first_row more ≡ Accepted) × (at < net.horizon → plan o)
  plan_found more None found h = absurd (cc)
  plan_found more (Some s) found h = plan_accepted s more found (accepts (site_of net s) change) refl h

-- an accepted decision keeps the clones planned
accepted_keeps : (s : Situation) (d : Decision) → reply s d ≡ Accepted → ArePlanned s.net s.clones
    → ArePlanned s.net (clones_after s.net s.clones d)
accepted_keeps s d accepted planned = by d (IsOpen-accepted s d accepted)
  where
    by : (d : Decision) → IsOpen s d → ArePlanned s.net (clones_after s.net s.clones d)
    by (Fork new old) opened =
        let one = first_row-Accepted (is_some (place_of new s.clones)) NameTaken
        (row (nat_le MAX_CLONES (length s.clones)) TooManyClones ∷ []) (λ e. absurd (cc)) opened.rest in
        let two = first_row-Accepted (nat_le MAX_CLONES (length s.clones)) TooManyClones [] (λ e. absurd (cc)) one.1 in
        planned_forked s.net s.clones new (clone_place old s.clones) planned
        (leb-false MAX_CLONES (length s.clones) two.0)
    by (Set who at station change) opened =
        let times = time_rows s.net s.front at in
        let full : Bool = nat_le MAX_DECISIONS (length (clone_at s.clones opened.clone).plans) in
        let found = plan_found s.net at station change (row full ListFull ∷ times) (station_named station s.net) refl
        opened.rest in
        let last = first_row-Accepted full ListFull times (λ e. absurd (cc)) found.0 in
        let early = first_row-times s.net s.front at last.1 in
        let here : clone_place who s.clones ≡ opened.clone = ap (λ (o : Option ℕ). unwrap_or o 0) opened.place in
        let few : length (clone_at s.clones (clone_place who s.clones)).plans < MAX_DECISIONS =
        subst (λ (c : ℕ). length (clone_at s.clones c).plans < MAX_DECISIONS) (sym here)
        (leb-false MAX_DECISIONS (length (clone_at s.clones opened.clone).plans) last.0) in
        planned_added s.net s.clones (clone_place who s.clones) (plan_of_set s.net at station change) planned few
        (found.1 early.1)
    by (End who at) opened =
        let early = first_row-times s.net s.front at opened.rest in
        planned_ended s.net s.clones (clone_place who s.clones) at planned early.1

-- and so does a decision with any reply
reply_keeps : (net : Net) (r : Reply) (new old : List Clone) → (r ≡ Accepted → ArePlanned net new)
    → ArePlanned net old → ArePlanned net (if_accepted r new old)
reply_keeps net Accepted new old h k = h refl
reply_keeps net refusal new old h k = k

-- and so do all decisions of a script
all_keep : (s : Situation) (ds : List Decision) → ArePlanned s.net s.clones → ArePlanned s.net (after_all s ds).clones
all_keep s [] planned = planned
all_keep s (d ∷ ds) planned = all_keep (after_decision s d) ds
    (reply_keeps s.net (reply s d) (clones_after s.net s.clones d) s.clones
    (λ accepted. accepted_keeps s d accepted planned) planned)

pub scripts_are_planned : ScriptsArePlanned
scripts_are_planned net s = all_keep (outset net) (decisions s.items) (record {
  at_most = omega arith;
  each = (record { plans = tt; length_max = omega arith; end = tt }, tt);
})

-- ---- what is saved of the clones of a script

pub saved_scripts_are_resumed : SavedScriptsAreResumed
saved_scripts_are_resumed net s k time old_steps new_steps text valid is_script in_range saved =
    let short : length (saved_text net time (clone_at (clones_of net s) k)) ≤ MAX_FILE_BYTES =
    subst (λ (t : List ℕ). length t ≤ MAX_FILE_BYTES) saved.text_is saved.at_most in
    let resumed : IsResumed net time (clone_at (clones_of net s) k) =
    saved_runs_are_resumed net valid (clones_of net s) k time (scripts_are_planned net s)
    (scripts_are_sayable net s is_script) in_range saved.has_run.within short in
    record {
      back = subst (IsReadFrom net (clone_at (clones_of net s) k) (last_time net time (clone_at (clones_of net s) k)))
          (sym saved.text_is) resumed.back;
      resumed = resumed;
    }
