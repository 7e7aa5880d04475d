-- The first clone over the limit in a step, if there is one.
use Rattle.std.proofs.Common.{◌≡◌, ◌↔◌, ℕ, zero, suc, ◌+◌, ◌<◌, ◌≤◌, List, Some, sym, ap, ◌∙◌, subst, true, arith}
use Rattle.std.proofs.Common.{length, slice_get}
use Rattle.std.proofs.lemmas.Bool.{false≢true}
use Rattle.std.proofs.lemmas.Option.{slice_get_within}
use Rattle.std.proofs.Math.Numerals.{add-one}
use Rattle.sim_base.specs.Clones.{Clone, clone_at}
use Rattle.clone_sets.specs.Sets.{has}
use Rattle.clone_sets.proofs.SetLaws.{has-empty}
use Rattle.net_model.specs.Net.{Net}
use Rattle.stations.specs.Runs.{IsBeyond}
use Rattle.phys_proc.specs.Procs.{ProcView}
use Rattle.station_steps.specs.declared.station_step.StationStep.{StationStep}
use Rattle.station_steps.specs.Windows.{NoneOver}
use Rattle.station_steps.specs.Stepping.{IsFirstOver}
use Rattle.station_steps.proofs.Places.{got_within}
use Rattle.world_core.specs.Overs.{IsFirstBeyondAt, NoneBeyondAt}
use Rattle.world_core.proofs.AfterStep.{CutStepped, none_long, over_of}

module _ (net : Net) (cs : List Clone) (cut next : ℕ → ℕ) (procs : List ProcView) (flows : List StationStep)
    (world : CutStepped net cs cut next procs flows) where
  -- a clone's log at a station is beyond the limit after the round
  abbrev IsLong : ℕ → ℕ → Type 0
  IsLong s c = IsBeyond net s (next s) (clone_at cs c)

  -- those over the limit at a place are the clones whose logs are beyond it
  over_at : (i : ℕ) → i < length net.sites → (flow : StationStep) → slice_get flows i ≡ Some flow → (c : ℕ) →
      (has flow.over c ≡ true) ↔ ((c < length cs) × IsLong (i + 1) c)
  over_at = over_of net cs cut next procs flows world

  -- the first station and clone over the limit are the first whose log is beyond it
  pub first_beyond : (i who : ℕ) → IsFirstOver flows i who → IsFirstBeyondAt net cs next (i + 1) who
  first_beyond i who h =
      let place = slice_get_within flows i h.flow h.is_there in
      let l : i < length net.sites = omega (arith, place, world.all_flows) in
      let is = (over_at i l h.flow h.is_there who).0 h.first.in_set in
      let there = is.0 in
      record {
        is_station = record { low = omega arith; high = omega (arith, l) };
        clone = is.0;
        beyond = is.1;
        least_station = λ s one less c m long. before s one less c m long;
        least_clone = λ c less long. absurd
            (false≢true (sym (h.first.least c less) ∙ (over_at i l h.flow h.is_there c).1
            (omega (arith, less, there), long)));
      }
    where
      before : (s : ℕ) → 1 ≤ s → s < i + 1 → (c : ℕ) → c < length cs → ¬ (IsLong s c)
      before zero one less c m long = absurd (omega (arith, one))
      before (suc j) one less c m long =
          let place = slice_get_within flows i h.flow h.is_there in
          let f = got_within flows j (omega (arith, place, less)) in
          absurd (false≢true (sym (ap (λ k. has k c) (h.none_before j f.0 (omega (arith, less)) f.1) ∙ has-empty c)
          ∙ (over_at j (omega (arith, place, less, world.all_flows)) f.0 f.1 c).1
          (m, subst (λ s. IsLong s c) (sym (add-one j)) long)))

  -- if no clone goes over the limit, no log is beyond it
  pub none_beyond : NoneOver flows → NoneBeyondAt net cs next
  none_beyond none zero is c there long = absurd (let low : 1 ≤ 0 = is.low in omega (arith, low))
  none_beyond none (suc i) is c there long =
      let high : suc i ≤ length net.sites = is.high in
      none_long net cs cut next procs flows world none i (omega (arith, high)) c there
      (subst (λ s. IsLong s c) (sym (add-one i)) long)
