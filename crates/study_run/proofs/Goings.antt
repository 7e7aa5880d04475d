-- The run of a study: its clones do not change from window to window.
use Rattle.std.proofs.Common.{◌≡◌, ℕ, ◌+◌, ◌<◌, ◌∙◌, ap, arith, length, refl, subst, sym}
use Rattle.std.proofs.Common.{Result, Ok, Err, IfOk, IfErr}
use Rattle.net_model.specs.Net.{Net}
use Rattle.net_model.specs.Rules.{IsNet}
use Rattle.world_core.specs.Worlds.{WorldView, total_handled}
use Rattle.world_core.specs.declared.world.WorldFault.{WorldFault}
use Rattle.study_run.specs.Faults.{fault_of_window}
use Rattle.study_run.specs.Going.{HasGoneOn, HasStopped, IsStudyRun}
use Rattle.study_run.specs.Windows.{IsWindow, front_after}
use Rattle.study_run.specs.Overs.{HasCome, first_overrun}
use Rattle.study_run.specs.declared.fault.StudyFault.{StudyFault}
use Rattle.study_run.proofs.OverLaws.{comes_last, within_horizon}
use Rattle.study_run.proofs.Worlds.{comes_in, none_handled, steps_in, stops_in}

-- ---- HasGoneOn

-- it went on to a world of the same clones
HasGoneOn-world : (net : Net) (old new : WorldView) (s t : ℕ) → new.net ≡ net → new.clones ≡ old.clones
    → HasCome net old.clones new.front
    → t + total_handled net old.clones old.front ≡ s + total_handled net old.clones new.front
    → HasGoneOn net old new s t
HasGoneOn-world net old new s t same clones come steps = record {
  under_way = record { net_is = same; come = subst (λ cs. HasCome net cs new.front) (sym clones) come };
  clones = clones;
  steps = steps;
}

-- ---- HasGoneOn, HasStopped, after one more window

module _ (net : Net) (old w : WorldView) (first s t : ℕ) (gone : HasGoneOn net old w first s) where
  -- the run has reached its front
  come_before : HasCome net old.clones w.front
  come_before = subst (λ cs. HasCome net cs w.front) gone.clones gone.under_way.come

  -- it has gone on to the world at the window's end
  pub HasGoneOn-window : (v : WorldView) → IsWindow w s (Ok v) t → HasGoneOn net old v first t
  HasGoneOn-window v h =
      let same = gone.under_way.net_is in
      let below : w.front < net.horizon = subst (λ (n : Net). w.front < n.horizon) same h.below in
      let valid : IsNet net = subst IsNet same h.valid in
      let front : v.front ≡ front_after w = ap (λ (x : WorldView). x.front) h.at_front in
      HasGoneOn-world net old v first t
      (ap (λ (x : WorldView). x.net) h.at_front ∙ same) (ap (λ (x : WorldView). x.clones) h.at_front ∙ gone.clones)
      (comes_in net w.net old.clones w.clones w.front (front_after w) same gone.clones refl below v.front front valid
      come_before h.length_max)
      (steps_in net w.net old.clones w.clones w.front (front_after w) same gone.clones refl below
      (total_handled net old.clones old.front) v.front first s t front gone.steps h.steps)

  -- or it stops with the window's fault
  pub HasStopped-window : (e : WorldFault) → IsWindow w s (Err e) t → HasStopped net old first t (fault_of_window e)
  HasStopped-window e h start is =
      let same = gone.under_way.net_is in
      let steps = gone.steps in
      stops_in net w.net old.clones w.clones w.front (front_after w) same gone.clones refl
      (subst (λ (n : Net). w.front < n.horizon) same h.below) start s t e (subst IsNet same h.valid) come_before
      (omega (arith, is, steps)) h.fault

-- ---- HasGoneOn, from the beginning

-- a run has reached its first world
pub HasGoneOn-first : (w : WorldView) (s : ℕ) → w.front ≡ 0 → HasGoneOn w.net w w s s
HasGoneOn-first w s first = record {
  under_way = record {
    net_is = refl;
    come = record {
      left = w.net.horizon;
      enough = omega (arith, first);
      same = ap (first_overrun w.net w.clones w.net.horizon) first;
    };
  };
  clones = refl;
  steps = refl;
}

-- ---- IsStudyRun

module _ (w : WorldView) (first : w.front ≡ 0) where
  -- nothing was handled at first
  none_at_first : total_handled w.net w.clones w.front ≡ 0
  none_at_first = ap (total_handled w.net w.clones) first ∙ none_handled w.net w.clones (length w.net.sites)

  -- at the horizon the steps are what was handled there, and no log is beyond the limit
  ran_to_horizon : (v : WorldView) (s t : ℕ) → IsNet w.net → v.front ≡ v.net.horizon → HasGoneOn w.net w v s t
      → IsStudyRun w.net w.clones s t (Ok v)
  ran_to_horizon v s t valid last h =
      let zero = none_at_first in
      let steps = h.steps in
      let same = h.under_way.net_is in
      let front : v.front ≡ w.net.horizon = last ∙ ap (λ (n : Net). n.horizon) same in
      let end : total_handled w.net w.clones v.front ≡ total_handled w.net v.clones w.net.horizon =
      ap (total_handled w.net w.clones) front ∙ ap (λ cs. total_handled w.net cs w.net.horizon) (sym h.clones) in
      record {
        net_is = same;
        clones_are = h.clones;
        front = front;
        within = within_horizon w.net v.clones valid
            (comes_last w.net v.clones v.front (omega (arith, front)) h.under_way.come);
        steps = omega (arith, zero, end, steps);
        fault = tt;
      }

  -- a run that stopped is at fault from its beginning
  stopped_from_first : (s t : ℕ) (e : StudyFault) → HasStopped w.net w s t e → IsStudyRun w.net w.clones s t (Err e)
  stopped_from_first s t e h =
      let zero = none_at_first in
      record {
        net_is = tt;
        clones_are = tt;
        front = tt;
        within = tt;
        steps = tt;
        fault = h s (omega (arith, zero));
      }

  -- a run that goes on from there to the horizon, or stops, is a study's run
  pub IsStudyRun-went : (s t : ℕ) (run : Result WorldView StudyFault) → IsNet w.net
      → IfOk run (λ v. HasGoneOn w.net w v s t) → IfErr run (λ e. HasStopped w.net w s t e)
      → IfOk run (λ v. v.front ≡ v.net.horizon) → IsStudyRun w.net w.clones s t run
  IsStudyRun-went s t (Ok v) valid gone stopped front = ran_to_horizon v s t valid front gone
  IsStudyRun-went s t (Err e) valid gone stopped front = stopped_from_first s t e stopped
