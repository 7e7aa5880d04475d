-- The laws of a report's counts, as statements that contracts cite: messages handled once, and by each clone alone.
use Rattle.std.specs.Prelude.{◌≡◌, ℕ, ◌*◌, ◌<◌, ◌≤◌, List, Bool, length, sum_by}
use Rattle.std.specs.Bool.{Decides}
use Rattle.sim_base.specs.Clones.{Clone, clone_at, clones_with_plan, clones_with_end, clones_with_fork}
use Rattle.sim_base.specs.Marked.{JoinsMarks, SortedMarked}
use Rattle.sim_base.specs.declared.decision.Planned.{Planned}
use Rattle.sim_base.specs.declared.entry.Entry.{Entry}
use Rattle.run_laws.specs.Queue.{In}
use Rattle.run_laws.specs.Simulation.{Simulation}
use Rattle.run_laws.specs.Runs.{IsTimelyPlan, IsTimelyEnd, MayFork, log_at}
use Rattle.run_laws.specs.Sharing.{copies, handled_once, handled_alone, IsBeyond}
use Rattle.run_laws.specs.Prefixes.{IsCount, IsGained}
use Rattle.run_laws.specs.Copies.{Copy, Carries, IsCutLog, GainTogether, Stands}
use Rattle.run_laws.specs.StepLaws.{AreReady}

-- the test is true exactly for equal entries
abbrev pub TellsEntries : {M N : Type 0} → (Entry M N → Entry M N → Bool) → Type 0
TellsEntries {M} {N} same = (x y : Entry M N) → Decides (same x y) (x ≡ y)

-- the operations that count copies: the clones of marks, the union of marks, and an equality test for entries
pub record Counting (M N K : Type 0) : Type 0 where
  pub has : K → ℕ → Bool
  pub join : K → K → K
  pub joins : JoinsMarks has join
  pub same : Entry M N → Entry M N → Bool
  pub tells : TellsEntries same

module _ {S M N K : Type 0} (has : K → ℕ → Bool) (size : K → ℕ) where
  -- size is the number of clones of each of these copies
  abbrev pub TellsSizes : List (Copy S M N K) → Type 0
  TellsSizes copies = (a : Copy S M N K) → In a copies → IsCount (λ c. Carries has a c) (size a.set)

module _ {S M N : Type 0} (sim : Simulation S M N) where
  -- no clone's log at a station is beyond the limit
  abbrev pub AreWithinLimitAt : List Clone → ℕ → ℕ → Type 0
  AreWithinLimitAt cs s front = (c : ℕ) → c < length cs → ¬ (IsBeyond sim s front (clone_at cs c))

  -- a report counts at most as many copies as clones, and at most as many messages as the limit allows for each clone
  pub record AreFew (same : Entry M N → Entry M N → Bool) (cs : List Clone) (s front : ℕ) : Type 0 where
    pub copies_few : copies sim same cs s front ≤ length cs
    pub handled_few : handled_once sim same cs s front ≤ length cs * sim.limit
    pub alone_few : handled_alone sim cs s front ≤ length cs * sim.limit

  -- so it is if no log is beyond the limit
  abbrev pub CountsAreFew : Type 0
  CountsAreFew = (same : Entry M N → Entry M N → Bool) (cs : List Clone) (s front : ℕ) → AreWithinLimitAt cs s front →
      AreFew same cs s front

  -- at the start nothing was handled
  abbrev pub NothingIsHandledAtFirst : Type 0
  NothingIsHandledAtFirst = (same : Entry M N → Entry M N → Bool) (cs : List Clone) (s : ℕ)
      → handled_once sim same cs s 0 ≡ 0

  -- a decision at the front or later does not change the number handled
  abbrev pub HandledStaysAtDecision : Type 0
  HandledStaysAtDecision = (same : Entry M N → Entry M N → Bool) (cs : List Clone) (front s who : ℕ) (p : Planned)
      (m : M) →
      IsTimelyPlan sim cs front who p m →
      handled_once sim same (clones_with_plan cs who p) s front ≡ handled_once sim same cs s front

  -- nor does an end at the front or later
  abbrev pub HandledStaysAtEnd : Type 0
  HandledStaysAtEnd = (same : Entry M N → Entry M N → Bool) (cs : List Clone) (front s who at : ℕ) →
      who < length cs → IsTimelyEnd sim (clone_at cs who) front at →
      handled_once sim same (clones_with_end cs who at) s front ≡ handled_once sim same cs s front

  -- nor does a fork
  abbrev pub HandledStaysAtFork : Type 0
  HandledStaysAtFork = (same : Entry M N → Entry M N → Bool) (cs : List Clone) (front s old : ℕ) (name : List ℕ) →
      TellsEntries same → MayFork cs old →
      handled_once sim same (clones_with_fork cs name old) s front ≡ handled_once sim same cs s front

-- K are sets of clones
module _ {S M N : Type 0} (K : Type 0) (sim : Simulation S M N) where
  -- there are as many copies as different logs
  abbrev pub CopiesAreLogs : Type 0
  CopiesAreLogs = (w : Counting M N K) (cs : List Clone) (front s : ℕ) (old : List (Copy S M N K)) →
      Stands sim w.has cs front s old → copies sim w.same cs s front ≡ length old

  -- a copy gains at most the limit for each of its clones, whichever clones it represents
  abbrev pub CopyGainsFew : (ℕ → S → Type 0) → Type 0
  CopyGainsFew Good = (has : K → ℕ → Bool) (ends : ℕ → ℕ) (s bound n size : ℕ) (r : Copy S M N K)
      (sent : List (M × K)) →
      Good s r.state → SortedMarked sim.order r.pending → IsCount (λ c. Carries has r c) size →
      IsCount (IsGained (IsCutLog sim has ends s bound r sent) r.log) n → n ≤ size * sim.limit

  -- and so do several copies
  abbrev pub CopiesGainFew : (ℕ → S → Type 0) → Type 0
  CopiesGainFew Good = (has : K → ℕ → Bool) (ends : ℕ → ℕ) (s bound n : ℕ) (size : K → ℕ) (old : List (Copy S M N K)) →
      AreReady K sim Good s old → TellsSizes has size old →
      GainTogether sim has ends s bound old n → n ≤ sum_by (λ a. size a.set) old * sim.limit

  -- copies of a station that represent the clones at a front, and the number of clones of each
  pub record CountedCopies : Type 0 where
    pub has : K → ℕ → Bool
    pub size : K → ℕ
    pub clones : List Clone
    pub front : ℕ
    pub station : ℕ
    pub copies : List (Copy S M N K)
    pub sized : TellsSizes has size copies
    pub stand : Stands sim has clones front station copies

  -- each clone alone would handle the messages of its copy's log
  abbrev pub AloneIsOfCopies : Type 0
  AloneIsOfCopies = (w : CountedCopies) →
      handled_alone sim w.clones w.station w.front ≡ sum_by (λ a. w.size a.set * length a.log) w.copies

  -- each clone is in one copy
  abbrev pub ClonesAreOfCopies : Type 0
  ClonesAreOfCopies = (w : CountedCopies) → length w.clones ≡ sum_by (λ a. w.size a.set) w.copies

  -- the clones of one copy are those whose logs are its log
  abbrev pub CopyIsClass : Type 0
  CopyIsClass = (w : CountedCopies) (a : Copy S M N K) → In a w.copies →
      IsCount (λ c. (c < length w.clones) × (log_at sim (clone_at w.clones c) w.station w.front ≡ a.log)) (w.size a.set)
