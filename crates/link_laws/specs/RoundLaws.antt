-- The laws of link clocks and of rounds, as statements that contracts cite.
use Rattle.std.specs.Prelude.{◌≡◌, ◌⊎◌, ◌↔◌, ℕ, suc, ◌+◌, ◌*◌, ◌/◌, ◌<◌, ◌≤◌, List, Bool, true, length}
use Rattle.sim_base.specs.Clones.{Clone, clone_at}
use Rattle.sim_base.specs.Marked.{JoinsMarks}
use Rattle.run_laws.specs.Queue.{In}
use Rattle.run_laws.specs.Simulation.{Simulation}
use Rattle.run_laws.specs.Runs.{due_at, log_at}
use Rattle.run_laws.specs.Handlers.{IsStation, IsStationOf, AllAreForStations}
use Rattle.run_laws.specs.Sharing.{handled_once, IsBeyond, copies}
use Rattle.run_laws.specs.Fronts.{IsWindow}
use Rattle.run_laws.specs.Copies.{Copy, Carries, Stands, IsDelivered, AreOver, GainTogether, alone_from, ends_of}
use Rattle.run_laws.specs.CountLaws.{Counting, AreWithinLimitAt}
use Rattle.link_laws.specs.Cuts.{AreWaiting, IsIdleBelow, IsRound, IsRoundOf, RoundGives}
use Rattle.link_laws.specs.CutCopies.{StandsAtCut, EachIsRound}
use Rattle.link_laws.specs.Clocks.{Delays, clock, AreDone, AreRounds, KeepsToLinks}

-- the links between these stations, their clocks, and one of the stations
module _ (delays : Delays) (stations : ℕ) (clocks : ℕ → ℕ) (s : ℕ) where
  -- the time of a link from another station: the sender's clock plus the delay
  pub record IsLinkTime (time : ℕ) : Type 0 where
    pub sender : ℕ
    pub is_station : IsStationOf stations sender
    pub other : ¬ (sender ≡ s)
    pub delay : ℕ
    pub is_delay : In delay (delays sender s)
    pub is : time ≡ clocks sender + delay

  -- the least of the horizon and the times of all links from other stations
  pub record IsLeastLinkTime (horizon time : ℕ) : Type 0 where
    pub within : time ≤ horizon
    pub each : (t : ℕ) → IsLinkTime t → time ≤ t
    pub one : (time ≡ horizon) ⊎ IsLinkTime time

module _ {S M N : Type 0} (sim : Simulation S M N) where
  -- the clock of a station never falls, and never passes the horizon
  abbrev pub ClockRises : Type 0
  ClockRises = (delays : Delays) (k s : ℕ) →
      (clock delays sim.stations sim.horizon k s ≤ clock delays sim.stations sim.horizon (suc k) s)
      × (clock delays sim.stations sim.horizon k s ≤ sim.horizon)

  -- the next clock is the least of the horizon and, for each link from another station, the sender's clock plus the
  -- delay
  abbrev pub ClockIsLeast : Type 0
  ClockIsLeast = (delays : Delays) (k s : ℕ) →
      IsLeastLinkTime delays sim.stations (clock delays sim.stations sim.horizon k) s sim.horizon
      (clock delays sim.stations sim.horizon (suc k) s)

  -- a loop that does rounds until all clocks are at the horizon does exactly the number of rounds
  abbrev pub FirstDoneIsRounds : Type 0
  FirstDoneIsRounds = (delays : Delays) (k : ℕ) → AreDone delays sim.stations sim.horizon k →
      ((j : ℕ) → k ≡ suc j → ¬ (AreDone delays sim.stations sim.horizon j)) →
      AreRounds delays sim.stations sim.horizon k

  -- if all stations are at one front, the messages that wait at a station are those that are due there
  abbrev pub DueIsWaiting : Type 0
  DueIsWaiting = (c : Clone) (s front : ℕ) → AreWaiting sim c (λ x. front) s (due_at sim c s front)

module _ {S M N : Type 0} (sim : Simulation S M N) (Good : ℕ → S → Type 0) where
  -- if k lookaheads reach the horizon, every clock is at the horizon after k rounds
  abbrev pub ClockReachesHorizon : Type 0
  ClockReachesHorizon = (delays : Delays) (k s : ℕ) → KeepsToLinks sim Good delays → sim.horizon ≤ k * sim.lookahead →
      clock delays sim.stations sim.horizon k s ≡ sim.horizon

  -- if the lookahead is positive, horizon / lookahead + 1 rounds are enough
  abbrev pub RoundsAreEnough : Type 0
  RoundsAreEnough = (delays : Delays) → KeepsToLinks sim Good delays → 0 < sim.lookahead →
      AreDone delays sim.stations sim.horizon (sim.horizon / sim.lookahead + 1)

  -- so the number of rounds is at most that
  abbrev pub RoundsAreBounded : Type 0
  RoundsAreBounded = (delays : Delays) (k : ℕ) → KeepsToLinks sim Good delays → 0 < sim.lookahead →
      AreRounds delays sim.stations sim.horizon k → k ≤ sim.horizon / sim.lookahead + 1

  -- the clocks after k rounds and those after one more make a round of any clones
  abbrev pub ClocksMakeRounds : Type 0
  ClocksMakeRounds = (delays : Delays) (k : ℕ) (cs : List Clone) → KeepsToLinks sim Good delays →
      IsRoundOf sim Good cs (clock delays sim.stations sim.horizon k) (clock delays sim.stations sim.horizon (suc k))

  -- a window of some clones is a round of them, with one time for all stations
  abbrev pub WindowsAreRounds : Type 0
  WindowsAreRounds = (cs : List Clone) (front bound : ℕ) → IsWindow sim cs front bound →
      IsRoundOf sim Good cs (λ x. front) (λ x. bound)

  -- in a round the windows of the stations, each alone, end with the logs and states of the clone's run. It is enough
  -- that this one clone handles nothing below the floors
  abbrev pub RoundsGiveRuns : Type 0
  RoundsGiveRuns = (c : Clone) (cut floor next : ℕ → ℕ) (q : ℕ → List M) → IsRound sim Good cut floor next →
      IsIdleBelow sim c cut floor → ((s : ℕ) → AreWaiting sim c cut s (q s)) → RoundGives sim c cut next q

-- K are sets of clones
module _ {S M N : Type 0} (K : Type 0) (sim : Simulation S M N) where
  -- copies represent the clones at a front exactly if they do so at the cut with that time for all stations
  abbrev pub FrontIsCut : Type 0
  FrontIsCut = (has : K → ℕ → Bool) (cs : List Clone) (front s : ℕ) (copies : List (Copy S M N K)) →
      Stands sim has cs front s copies ↔ StandsAtCut sim has cs (λ x. front) s copies

  -- copies that represent the clones at a cut do so at each cut with the same times at all stations
  abbrev pub SameCut : Type 0
  SameCut = (has : K → ℕ → Bool) (cs : List Clone) (cut same : ℕ → ℕ) (s : ℕ) (copies : List (Copy S M N K)) →
      AllAreForStations sim cs → IsStation sim s → ((r : ℕ) → IsStation sim r → cut r ≡ same r) →
      StandsAtCut sim has cs cut s copies → StandsAtCut sim has cs same s copies

  -- the number of copies is the number of different logs
  abbrev pub CopiesAreLogsAtCut : Type 0
  CopiesAreLogsAtCut = (w : Counting M N K) (cs : List Clone) (cut : ℕ → ℕ) (s : ℕ) (old : List (Copy S M N K)) →
      StandsAtCut sim w.has cs cut s old → copies sim w.same cs s (cut s) ≡ length old

module _ {S M N : Type 0} (K : Type 0) (sim : Simulation S M N) (Good : ℕ → S → Type 0) where
  -- let the copies of all stations represent the clones at a cut, and let each station be stepped to its next time.
  -- Once station s has received the messages of others, its copies represent the clones at the next cut
  abbrev pub StandsAfterRound : Type 0
  StandsAfterRound = (has : K → ℕ → Bool) (cs : List Clone) (cut next : ℕ → ℕ)
      (olds news : ℕ → List (Copy S M N K)) (sent : ℕ → List (M × K)) (s : ℕ) (done : List (Copy S M N K)) →
      AllAreForStations sim cs → IsRoundOf sim Good cs cut next → EachIsRound sim has cs cut next olds news sent →
      IsStation sim s → IsDelivered sim has cs s sent (news s) done → StandsAtCut sim has cs next s done

  -- in a round a copy's window for a clone ends with the clone's log at the station's next time
  abbrev pub RoundGivesLogs : Type 0
  RoundGivesLogs = (has : K → ℕ → Bool) (cs : List Clone) (cut next : ℕ → ℕ) (olds : ℕ → List (Copy S M N K)) (s : ℕ)
      (a : Copy S M N K) (c : ℕ) →
      AllAreForStations sim cs → IsRoundOf sim Good cs cut next →
      ((r : ℕ) → IsStation sim r → StandsAtCut sim has cs cut r (olds r)) → IsStation sim s → In a (olds s) →
      Carries has a c →
      (alone_from sim has (ends_of sim cs) s (next s) a c).at.log ≡ log_at sim (clone_at cs c) s (next s)

  -- the copies of all stations represent the clones at a cut, and those of station s gain `total` prefixes in a round
  pub record GainInRound (has : K → ℕ → Bool) (cs : List Clone) (cut next : ℕ → ℕ) (olds : ℕ → List (Copy S M N K))
      (s total : ℕ) : Type 0 where
    pub for_stations : AllAreForStations sim cs
    pub round : IsRoundOf sim Good cs cut next
    pub stood : (r : ℕ) → IsStation sim r → StandsAtCut sim has cs cut r (olds r)
    pub here : IsStation sim s
    pub gained : GainTogether sim has (ends_of sim cs) s (next s) (olds s) total

  -- if no log gets too long in a round, the number handled once grows by the gain from the station's time to its next
  -- one
  abbrev pub HandledGrowsInRound : Type 0
  HandledGrowsInRound = (w : Counting M N K) (cs : List Clone) (cut next : ℕ → ℕ) (olds : ℕ → List (Copy S M N K))
      (s total : ℕ) →
      GainInRound w.has cs cut next olds s total → AreWithinLimitAt sim cs s (next s) →
      handled_once sim w.same cs s (next s) ≡ handled_once sim w.same cs s (cut s) + total

  -- the number handled once at the station's time, plus the gain, is at most the limit for each clone, even if logs get
  -- too long
  abbrev pub HandledIsFewInRound : Type 0
  HandledIsFewInRound = (w : Counting M N K) (cs : List Clone) (cut next : ℕ → ℕ) (olds : ℕ → List (Copy S M N K))
      (s total : ℕ) →
      GainInRound w.has cs cut next olds s total → AreWithinLimitAt sim cs s (cut s) →
      handled_once sim w.same cs s (cut s) + total ≤ length cs * sim.limit

  -- a step puts over the limit exactly the clones whose logs at the station's next time are beyond it
  abbrev pub OverIsBeyondInRound : Type 0
  OverIsBeyondInRound = (has : K → ℕ → Bool) (join : K → K → K) (cs : List Clone) (cut next : ℕ → ℕ)
      (olds : ℕ → List (Copy S M N K)) (s : ℕ) (over : K) →
      JoinsMarks has join → AllAreForStations sim cs → IsRoundOf sim Good cs cut next →
      ((r : ℕ) → IsStation sim r → StandsAtCut sim has cs cut r (olds r)) → IsStation sim s →
      AreOver sim has (ends_of sim cs) s (next s) (olds s) over → (c : ℕ) →
      (has over c ≡ true) ↔ ((c < length cs) × IsBeyond sim s (next s) (clone_at cs c))
