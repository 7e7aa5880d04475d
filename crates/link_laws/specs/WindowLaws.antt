-- The laws of windows, as statements that contracts cite. All of them follow from the laws of rounds, since a window
-- is a round with one time for all stations.
use Rattle.std.specs.Prelude.{◌≡◌, ◌⊎◌, ◌↔◌, ℕ, ◌+◌, ◌*◌, ◌<◌, ◌≤◌, List, [], ◌∷◌, Bool, true, length}
use Rattle.sim_base.specs.Clones.{Clone, clone_at}
use Rattle.sim_base.specs.Marked.{JoinsMarks}
use Rattle.run_laws.specs.Queue.{In, Sorted}
use Rattle.run_laws.specs.Simulation.{Simulation}
use Rattle.run_laws.specs.Runs.{end_of, log_at, state_at, due_at}
use Rattle.run_laws.specs.Fronts.{IsWindow, AreFronts}
use Rattle.run_laws.specs.Handlers.{IsStation, AllAreForStations}
use Rattle.run_laws.specs.Laws.{window}
use Rattle.run_laws.specs.Sharing.{handled_once, handled_to_limit, IsBeyond}
use Rattle.run_laws.specs.Copies.{Copy, IsStepped, GainTogether, AreOver, ends_of, Stands, IsDelivered}
use Rattle.run_laws.specs.CountLaws.{Counting, AreWithinLimitAt}

module _ {S M N : Type 0} (sim : Simulation S M N) where
  -- the windows of a clone's stations, each alone from a front to a bound, end with the logs and states of the clone's
  -- run. A station's due messages are then its own remaining ones, and those that others laid aside for it, before the
  -- clone's end
  pub record WindowsGive (c : Clone) (front bound : ℕ) : Type 0 where
    pub log : (s : ℕ) → log_at sim c s bound ≡ (window sim c s front bound).at.log
    pub state : (s : ℕ) → state_at sim c s bound ≡ (window sim c s front bound).at.state
    pub sorted : (s : ℕ) → Sorted sim.order (due_at sim c s bound)
    pub due : (s : ℕ) (m : M) → In m (due_at sim c s bound) ↔
        ((sim.time m < end_of sim c) × (In m (window sim c s front bound).pending
        ⊎ ((sim.to m ≡ s) × ((r : ℕ) × In m (window sim c r front bound).at.aside))))

  -- so it is for each of several clones, if the bound is not past their next front
  abbrev pub WindowsGiveRuns : Type 0
  WindowsGiveRuns = (cs : List Clone) (c : Clone) (front bound : ℕ) → In c cs → IsWindow sim cs front bound →
      WindowsGive c front bound

module _ {S M N K : Type 0} (sim : Simulation S M N) (has : K → ℕ → Bool) (cs : List Clone) where
  -- the results of the copies of each station at a bound, and the messages that each station sent
  pub record EachIsStepped (front bound : ℕ) (olds news : ℕ → List (Copy S M N K)) (sent : ℕ → List (M × K)) :
      Type 0 where
    pub stood : (r : ℕ) → IsStation sim r → Stands sim has cs front r (olds r)
    pub stepped : (r : ℕ) → IsStation sim r → IsStepped sim has (ends_of sim cs) r bound (olds r) (news r) (sent r)
    pub no_other : (r : ℕ) → ¬ (IsStation sim r) → sent r ≡ []

-- K are sets of clones
module _ {S M N : Type 0} (K : Type 0) (sim : Simulation S M N) where
  -- let the copies of all stations represent the clones at a front. Let each station be stepped to a bound that is not
  -- past the next front. Once station s got the messages sent to it, its copies represent the clones at the bound
  abbrev pub StandsAfterWindow : Type 0
  StandsAfterWindow = (has : K → ℕ → Bool) (cs : List Clone) (front bound : ℕ) (olds news : ℕ → List (Copy S M N K))
      (sent : ℕ → List (M × K)) (s : ℕ) (done : List (Copy S M N K)) →
      AllAreForStations sim cs → IsWindow sim cs front bound →
      EachIsStepped sim has cs front bound olds news sent → IsStation sim s →
      IsDelivered sim has cs s sent (news s) done → Stands sim has cs bound s done

  -- in a window the copies that represent the clones of a station gain `total` prefixes
  pub record GainInWindow (has : K → ℕ → Bool) (cs : List Clone) (front bound s total : ℕ)
      (old : List (Copy S M N K)) : Type 0 where
    pub window : IsWindow sim cs front bound
    pub stand : Stands sim has cs front s old
    pub gained : GainTogether sim has (ends_of sim cs) s bound old total

  -- if no log gets too long in a window, the number handled once at its bound is the number at the front plus the gains
  abbrev pub HandledGrows : Type 0
  HandledGrows = (w : Counting M N K) (cs : List Clone) (front bound s total : ℕ) (old : List (Copy S M N K)) →
      GainInWindow w.has cs front bound s total old → AreWithinLimitAt sim cs s bound →
      handled_once sim w.same cs s bound ≡ handled_once sim w.same cs s front + total

  -- the same if logs may get too long, with each log at the bound cut to the limit
  abbrev pub HandledGrowsToLimit : Type 0
  HandledGrowsToLimit = (w : Counting M N K) (cs : List Clone) (front bound s total : ℕ) (old : List (Copy S M N K)) →
      GainInWindow w.has cs front bound s total old → AreWithinLimitAt sim cs s front →
      handled_to_limit sim w.same cs s bound ≡ handled_once sim w.same cs s front + total

  -- and that is at most the limit for each clone
  abbrev pub HandledIsFew : Type 0
  HandledIsFew = (w : Counting M N K) (cs : List Clone) (front bound s total : ℕ) (old : List (Copy S M N K)) →
      GainInWindow w.has cs front bound s total old → AreWithinLimitAt sim cs s front →
      handled_once sim w.same cs s front + total ≤ length cs * sim.limit

  -- the clones that a step puts over the limit are those whose logs at the bound are beyond it
  abbrev pub OverIsBeyond : Type 0
  OverIsBeyond = (has : K → ℕ → Bool) (join : K → K → K) (cs : List Clone) (front bound s : ℕ)
      (old : List (Copy S M N K))
      (over : K) →
      JoinsMarks has join → IsWindow sim cs front bound → Stands sim has cs front s old →
      AreOver sim has (ends_of sim cs) s bound old over → (c : ℕ) →
      (has over c ≡ true) ↔ ((c < length cs) × IsBeyond sim s bound (clone_at cs c))

  module _ (has : K → ℕ → Bool) (cs : List Clone) (s : ℕ) where
    -- from window to window, up to each of the fronts, the copies of station s represent the clones, and they gain n
    -- prefixes in all
    abbrev pub WindowsGain : ℕ → List ℕ → ℕ → Type 0
    WindowsGain front [] n = n ≡ 0
    WindowsGain front (f ∷ fs) n = (copies : List (Copy S M N K)) × (m : ℕ) × (k : ℕ) ×
        Stands sim has cs front s copies × GainTogether sim has (ends_of sim cs) s f copies m × WindowsGain f fs k
        × (n ≡ m + k)

  -- if no log gets too long, all windows from a front to the horizon gain the rest of the number handled once
  abbrev pub WindowsAddUp : Type 0
  WindowsAddUp = (w : Counting M N K) (cs : List Clone) (s front n : ℕ) (fs : List ℕ) →
      0 < sim.lookahead → AreFronts sim cs front fs → AreWithinLimitAt sim cs s sim.horizon →
      WindowsGain w.has cs s front fs n
      → handled_once sim w.same cs s sim.horizon ≡ handled_once sim w.same cs s front + n

  -- so the windows of a run gain the number in its report
  abbrev pub RunAddsUp : Type 0
  RunAddsUp = (w : Counting M N K) (cs : List Clone) (s n : ℕ) (fs : List ℕ) →
      0 < sim.lookahead → AreFronts sim cs 0 fs → AreWithinLimitAt sim cs s sim.horizon →
      WindowsGain w.has cs s 0 fs n → handled_once sim w.same cs s sim.horizon ≡ n
