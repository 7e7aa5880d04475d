-- Cuts and rounds: the known messages at a cut, the waiting messages at each station, and how all stations continue to
-- the next cut.
--
-- A cut is a time for each station, like a consistent cut of a distributed computation. A front is the cut with one
-- time for all stations. Any choice of cuts is allowed here: link clocks are one, in Clocks, and windows another.
use Rattle.std.specs.Prelude.{◌≡◌, ◌⊎◌, ◌↔◌, ℕ, ◌<◌, ◌≤◌, List, [], ◌∷◌, ◌++◌, length}
use Rattle.sim_base.specs.Clones.{Clone, clone_at}
use Rattle.sim_base.specs.declared.entry.Entry.{Entry}
use Rattle.run_laws.specs.Queue.{In, Sorted}
use Rattle.run_laws.specs.Machine.{Config}
use Rattle.run_laws.specs.Simulation.{Simulation}
use Rattle.run_laws.specs.World.{first_world}
use Rattle.run_laws.specs.Window.{LocalStation, local_run}
use Rattle.run_laws.specs.Runs.{end_of, log_at, state_at}

module _ {S M N : Type 0} (sim : Simulation S M N) where
  -- the messages that station s sends as it handles a log, from the state st on
  abbrev pub sent_with : ℕ → S → List (Entry M N) → List M
  sent_with s st [] = []
  sent_with s st (e ∷ es) = (sim.handle s st e.msg).sends ++ sent_with s (sim.handle s st e.msg).state es

  -- the messages that station x sends before a time, in a clone's run
  abbrev pub sent_before : Clone → ℕ → ℕ → List M
  sent_before c x time = sent_with x (sim.setup x).state (log_at sim c x time)

  -- a message is known at a cut if it is pending at the start of the run, or a station sends it before the station's
  -- time
  abbrev pub IsKnown : Clone → (ℕ → ℕ) → M → Type 0
  IsKnown c cut m = In m (first_world sim c.plans).pending ⊎ ((x : ℕ) × In m (sent_before c x (cut x)))

  -- a message waits at station s at a cut. It is known, for s, not before the time of s, and before the clone's end
  pub record Waits (c : Clone) (cut : ℕ → ℕ) (s : ℕ) (m : M) : Type 0 where
    pub known : IsKnown c cut m
    pub here : sim.to m ≡ s
    pub late : cut s ≤ sim.time m
    pub time_max : sim.time m < end_of sim c

  -- q has exactly the messages that wait at station s, in order
  pub record AreWaiting (c : Clone) (cut : ℕ → ℕ) (s : ℕ) (q : List M) : Type 0 where
    pub sorted : Sorted sim.order q
    pub exact : (m : M) → In m q ↔ Waits c cut s m

  -- station s alone, from its time at one cut to its time at the next, with the pending messages q
  abbrev pub window_from : Clone → (ℕ → ℕ) → (ℕ → ℕ) → ℕ → List M → Config (LocalStation S M N) M
  window_from c cut next s q = local_run sim s (log_at sim c s (cut s)) (state_at sim c s (cut s)) q (next s)
      (end_of sim c)

  -- a clone's run handles nothing between a station's time at a cut and its floor: no log grows there
  abbrev pub IsIdleBelow : Clone → (ℕ → ℕ) → (ℕ → ℕ) → Type 0
  IsIdleBelow c cut floor = (s : ℕ) → log_at sim c s (floor s) ≡ log_at sim c s (cut s)

  -- a round: each station may run alone from its time at one cut to its time at the next. A station in a good state
  -- that handles any message at its floor or later sends nothing to another station before that station's next time
  pub record IsRound (Good : ℕ → S → Type 0) (cut floor next : ℕ → ℕ) : Type 0 where
    pub later : (s : ℕ) → cut s ≤ next s
    pub apart : (x : ℕ) (st : S) (m z : M) → Good x st → In z (sim.handle x st m).sends → ¬ (sim.to z ≡ x) →
        floor x ≤ sim.time m → next (sim.to z) ≤ sim.time z

  -- a round of some clones: each station has a floor, and none of the clones handles anything below it
  pub record IsRoundOf (Good : ℕ → S → Type 0) (cs : List Clone) (cut next : ℕ → ℕ) : Type 0 where
    pub floor : ℕ → ℕ
    pub is_round : IsRound Good cut floor next
    pub idle : (c : ℕ) → c < length cs → IsIdleBelow (clone_at cs c) cut floor

  -- the windows of the stations end with the logs and states of the clone's run. The messages that then wait at a
  -- station are left by its own window, or laid aside for it by another, and come before the clone's end
  pub record RoundGives (c : Clone) (cut next : ℕ → ℕ) (q : ℕ → List M) : Type 0 where
    pub log : (s : ℕ) → log_at sim c s (next s) ≡ (window_from c cut next s (q s)).at.log
    pub state : (s : ℕ) → state_at sim c s (next s) ≡ (window_from c cut next s (q s)).at.state
    pub waiting : (s : ℕ) (m : M) → Waits c next s m ↔
        ((sim.time m < end_of sim c) × (In m (window_from c cut next s (q s)).pending
        ⊎ ((sim.to m ≡ s) × ((r : ℕ) × In m (window_from c cut next r (q r)).at.aside))))
