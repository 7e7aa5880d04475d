-- What the engine counts: each message once, since decisions change nothing that was handled before a front.
use Rattle.std.proofs.Common.{◌≡◌, ℕ, zero, suc, ◌+◌, List, [], ◌∷◌, length, unwrap_or}
use Rattle.std.proofs.Common.{ap, ap₂, ◌∙◌, subst, refl, arith}
use Rattle.sim_base.specs.Clones.{Clone, clone_at, clones_with_end, clones_with_fork, clones_with_plan}
use Rattle.sim_base.specs.Same.{same_entry}
use Rattle.sim_base.specs.declared.decision.Decision.{Decision}
use Rattle.sim_base.specs.declared.decision.Decision.TheVariants.{Fork, Set, End}
use Rattle.sim_base.specs.declared.decision.Planned.{Planned}
use Rattle.sim_base.proofs.SameEntry.{same_entry-Decides}
use Rattle.net_model.specs.Net.{Net}
use Rattle.net_model.specs.Rules.{IsNet}
use Rattle.run_laws.specs.Runs.{end_of}
use Rattle.run_laws.specs.SharedTexts.{station_sum}
use Rattle.run_laws.proofs.HandledStays.{handled-added, handled-ended, handled-forked}
use Rattle.stations.specs.Runs.{handled_once, set_message, simulation}
use Rattle.stations.proofs.GoodLaws.{lawful-stations}
use Rattle.decision_book.specs.declared.call.Call.{Call}
use Rattle.decision_book.specs.Journal.{after, clones_after, plan_of_set}
use Rattle.decision_book.proofs.ClonesByName.{place_of-bounds}
use Rattle.decision_book.proofs.Rows.{IsOpen-accepted}
use Rattle.decision_desk.specs.Passes.{HelmView}
use Rattle.world_core.specs.Overs.{IsFault, most_handled}
use Rattle.world_core.specs.Taking.{AreAccepted, IsAccepted, clones_after_calls, situation}
use Rattle.world_core.specs.Worlds.{WorldView, total_handled}
use Rattle.world_core.specs.declared.world.WorldFault.{WorldFault}
use Rattle.world_core.specs.declared.world.WorldFault.TheVariants.{EventLimit, NoMemory}
use Rattle.world_core.proofs.Accepted.{may_end, may_set}
use Rattle.study_run.specs.Faults.{fault_of_window}
use Rattle.study_run.specs.declared.fault.StudyFault.{StudyFault}
use Rattle.study_run.specs.declared.fault.StudyFault.TheVariants as study
use Rattle.live_study.specs.Driving.{CountsFew, CountsOnce}
use Rattle.live_study.specs.Engines.{IsAhead}

-- ---- station_sum
-- sums of the same numbers are the same
station_sum-same : (f g : ℕ → ℕ) → ((s : ℕ) → f s ≡ g s) → (n : ℕ) → station_sum f n ≡ station_sum g n
station_sum-same f g same zero = refl
station_sum-same f g same (suc n) = ap₂ (λ a b. a + b) (station_sum-same f g same n) (same (suc n))

-- ---- handled_once, total_handled
module _ (net : Net) (valid : IsNet net) (front : ℕ) where
  -- a decision that is accepted at the front changes nothing that was handled before it
  handled_once-decided : (clones : List Clone) (d : Decision) → IsAccepted net clones front d → (s : ℕ)
      → handled_once net (clones_after net clones d) s front ≡ handled_once net clones s front
  handled_once-decided clones (Fork new old) accepted s =
      let o = IsOpen-accepted (situation net clones front) (Fork new old) accepted in
      ap (λ i. handled_once net (clones_with_fork clones new i) s front) (ap (λ p. unwrap_or p 0) o.place)
      ∙ handled-forked (simulation net) same_entry same_entry-Decides clones new o.clone s front
      (record { in_range = place_of-bounds old clones o.clone o.place; going = o.going })
  handled_once-decided clones (Set who at station change) accepted s =
      let o = IsOpen-accepted (situation net clones front) (Set who at station change) accepted in
      let plan : Planned = plan_of_set net at station change in
      let m = may_set net clones front o.clone at who station change o.rest in
      ap (λ i. handled_once net (clones_with_plan clones i plan) s front) (ap (λ p. unwrap_or p 0) o.place)
      ∙ handled-added (lawful-stations net valid) same_entry clones front s o.clone plan
      (set_message (length (clone_at clones o.clone).plans) plan)
      (record { in_range = place_of-bounds who clones o.clone o.place; is = refl; late = m.late })
  handled_once-decided clones (End who at) accepted s =
      let o = IsOpen-accepted (situation net clones front) (End who at) accepted in
      let m = may_end net clones front o.clone at who o.rest in
      let horizon : end_of (simulation net) (clone_at clones o.clone) ≡ net.horizon =
      ap (λ e. unwrap_or e net.horizon) o.going in
      ap (λ i. handled_once net (clones_with_end clones i at) s front) (ap (λ p. unwrap_or p 0) o.place)
      ∙ handled-ended (lawful-stations net valid) same_entry clones front s o.clone at
      (place_of-bounds who clones o.clone o.place)
      (record { late = m.0; within = omega (arith, horizon, m.1) })

  -- nor do calls that are accepted at it, one after the other
  pub total_handled-taken : (clones : List Clone) (calls : List Call) → AreAccepted net clones front calls
      → total_handled net (clones_after_calls net clones calls) front ≡ total_handled net clones front
  total_handled-taken clones [] accepted = refl
  total_handled-taken clones (call ∷ calls) accepted =
      total_handled-taken (clones_after net clones call.decision) calls accepted.1
      ∙ station_sum-same (λ s. handled_once net (clones_after net clones call.decision) s front)
      (λ s. handled_once net clones s front) (handled_once-decided clones call.decision accepted.0) (length net.sites)

-- ---- CountsOnce
-- a world that has taken calls has handled what it had before
pub handled-taken : (w v : WorldView) (calls : List Call) → IsNet v.net → AreAccepted w.net w.clones w.front calls
    → v ≡ record w { clones = clones_after_calls w.net w.clones calls }
    → total_handled v.net v.clones v.front ≡ total_handled w.net w.clones w.front
handled-taken w v calls valid accepted is =
    let valid_before : IsNet w.net = subst IsNet (ap (λ (x : WorldView). x.net) is) valid in
    ap (λ (x : WorldView). total_handled x.net x.clones x.front) is
    ∙ total_handled-taken w.net valid_before w.front w.clones calls accepted

-- and its window counts what it handles more
pub CountsOnce-window : (old taken new : WorldView) (bound s t : ℕ)
    → total_handled taken.net taken.clones taken.front ≡ total_handled old.net old.clones old.front
    → new ≡ record taken { front = bound }
    → t + total_handled taken.net taken.clones taken.front ≡ s + total_handled taken.net taken.clones bound
    → CountsOnce old new s t
CountsOnce-window old taken new bound s t same is steps =
    let end = ap (λ (x : WorldView). total_handled x.net x.clones x.front) is in
    omega (arith, same, end, steps)

-- one count after another
pub CountsOnce-then : (a b c : WorldView) (s t u : ℕ) → CountsOnce a b s t → CountsOnce b c t u → CountsOnce a c s u
CountsOnce-then a b c s t u first second = omega (arith, first, second)

-- ---- CountsFew
-- the window of a world that has taken calls counts no more than the limit allows
pub CountsFew-window : (h : HelmView) (old taken : WorldView) (bound s t : ℕ) (e : WorldFault)
    → total_handled taken.net taken.clones taken.front ≡ total_handled old.net old.clones old.front
    → IsAhead h taken bound → IsFault taken.net taken.clones taken.front bound s t e
    → CountsFew h old s t (fault_of_window e)
CountsFew-window h old taken bound s t NoMemory same ahead fault = tt
CountsFew-window h old taken bound s t (EventLimit station who kept) same ahead fault =
    let few = fault.2 in
    let most : most_handled taken.net (length taken.clones) ≡ most_handled h.net (length (after h.net h.helm).clones) =
    ap₂ (λ (n : Net) (cs : List Clone). most_handled n (length cs)) ahead.net ahead.clones in
    omega (arith, same, few, most)

-- after what was counted before
pub CountsFew-then : (h : HelmView) (a b : WorldView) (s t u : ℕ) (e : StudyFault) → CountsOnce a b s t
    → CountsFew h b t u e → CountsFew h a s u e
CountsFew-then h a b s t u study.NoMemory first second = tt
CountsFew-then h a b s t u (study.LimitMet station who) first second = omega (arith, first, second)
