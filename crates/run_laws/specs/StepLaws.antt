-- The laws of a step of a station's copies up to a bound, as statements that contracts cite. The results of each copy
-- are those of its clones' own windows. Then the laws of giving messages to copies.
use Rattle.std.specs.Prelude.{◌≡◌, ◌⊎◌, ℕ, ◌+◌, ◌<◌, ◌≤◌, List, [], ◌∷◌, ◌++◌, Bool, false, length}
use Rattle.std.specs.List.{AllByRecursion, AllZip}
use Rattle.sim_base.specs.Clones.{Clone}
use Rattle.run_laws.specs.Queue.{In}
use Rattle.run_laws.specs.Simulation.{Simulation}
use Rattle.sim_base.specs.Marked.{JoinsMarks, SortedMarked}
use Rattle.run_laws.specs.Copies.{Copy, Carries, handled_by, sends_aside, IsNarrowed}
use Rattle.run_laws.specs.Copies.{view, ComesTo, IsStepped, AreOver, SoFar, Disjoint, messages_taken}
use Rattle.run_laws.specs.Copies.{GainTogether, IsGiven, SoFarGiven, ends_of, IsDelivered, AllTake, NoneTakes}
use Rattle.run_laws.specs.Machine.{IsSettled}

-- the parameters of a step: the clones of marks, the union of marks, the end of each clone, the station, and the bound
pub record Step (K : Type 0) : Type 0 where
  pub has : K → ℕ → Bool
  pub join : K → K → K
  pub joins : JoinsMarks has join
  pub ends : ℕ → ℕ
  pub station : ℕ
  pub bound : ℕ

-- K are sets of clones
module _ {S M N : Type 0} (K : Type 0) (sim : Simulation S M N) (Good : ℕ → S → Type 0) where
  -- the copy r results in these copies, sends, clones over the limit and number of new prefixes
  abbrev pub Gives : Step K → Copy S M N K → List (Copy S M N K) → List (M × K) → List (M × K) → K → K → ℕ → Type 0
  Gives w = ComesTo sim w.has w.ends w.station w.bound

  -- copies of station s are in good states, with their messages in order
  abbrev pub AreReady : ℕ → List (Copy S M N K) → Type 0
  AreReady s old = (a : Copy S M N K) → In a old → Good s a.state × SortedMarked sim.order a.pending

  -- a copy whose messages all come at the bound or later has none left before it
  abbrev pub LateCopyIsSettled : Type 0
  LateCopyIsSettled = (w : Step K) (r : Copy S M N K) (sent : List (M × K)) (c : ℕ) →
      AllByRecursion (λ x. w.bound ≤ sim.time x.0) r.pending →
      IsSettled sim.time w.bound (view sim w.has w.ends c r sent)

  -- a copy whose clones have no message left before the bound does not change, and gains nothing
  abbrev pub SettledCopyStays : Type 0
  SettledCopyStays = (w : Step K) (r : Copy S M N K) (sent : List (M × K)) (over : K) →
      (c : ℕ) × Carries w.has r c → length r.log ≤ sim.limit →
      ((c : ℕ) → Carries w.has r c → IsSettled sim.time w.bound (view sim w.has w.ends c r sent)) →
      Gives w r (r ∷ []) sent sent over over 0

  -- if the log of a copy is full and all its clones take a message before the bound, they go over the limit
  abbrev pub FullCopyGoesOver : Type 0
  FullCopyGoesOver = (w : Step K) (r : Copy S M N K) (x : M × K) (q sent : List (M × K)) (over : K) →
      length r.log ≡ sim.limit → r.pending ≡ x ∷ q → AllTake sim w.has w.ends r x.0 x.1 → sim.time x.0 < w.bound →
      Gives w r [] sent sent over (w.join over r.set) 0

  -- a message that all clones of a copy take is handled once for all of them, and gains one prefix
  abbrev pub SharedMessageIsHandledOnce : Type 0
  SharedMessageIsHandledOnce = (w : Step K) (r : Copy S M N K) (x : M × K) (q sent after : List (M × K))
      (results : List (Copy S M N K)) (over over_after : K) (n : ℕ) →
      (c : ℕ) × Carries w.has r c → Good w.station r.state → length r.log < sim.limit →
      r.pending ≡ x ∷ q → SortedMarked sim.order r.pending → AllTake sim w.has w.ends r x.0 x.1 →
      sim.time x.0 < w.bound →
      Gives w (handled_by sim w.join w.station r x.0 q) results (sent ++ sends_aside sim w.station r x.0) after over
      over_after n →
      Gives w r results sent after over over_after (n + 1)

  -- a message that no clone of a copy takes may be skipped
  abbrev pub MessageOfNoneIsPassedOver : Type 0
  MessageOfNoneIsPassedOver = (w : Step K) (r : Copy S M N K) (x : M × K) (q before after : List (M × K))
      (results : List (Copy S M N K)) (over over_after : K) (n : ℕ) →
      r.pending ≡ x ∷ q → NoneTakes sim w.has w.ends r x.0 x.1 →
      Gives w (record r { pending = q }) results before after over over_after n →
      Gives w r results before after over over_after n

  -- a copy splits if only some of its clones take the least message. Its results are those of its halves, whose logs
  -- differ from then on
  abbrev pub CopySplits : Type 0
  CopySplits = (w : Step K) (r some rest : Copy S M N K) (x : M × K) (q before mid after : List (M × K))
      (results1 results2 : List (Copy S M N K)) (over over1 over2 : K) (n1 n2 : ℕ) →
      length r.log ≤ sim.limit → r.pending ≡ x ∷ q → SortedMarked sim.order r.pending → sim.time x.0 < w.bound →
      IsNarrowed sim w.has w.ends r some → IsNarrowed sim w.has w.ends r rest →
      AllTake sim w.has w.ends some x.0 x.1 → NoneTakes sim w.has w.ends rest x.0 x.1 →
      ((c : ℕ) → Carries w.has r c → Carries w.has some c ⊎ Carries w.has rest c) →
      Gives w some results1 before mid over over1 n1 → Gives w rest results2 mid after over1 over2 n2 →
      Gives w r (results1 ++ results2) before after over over2 (n1 + n2)

  -- a step may take one copy more
  abbrev pub StepTakesCopies : Type 0
  StepTakesCopies = (w : Step K) (old new results : List (Copy S M N K)) (r : Copy S M N K) (out next : List (M × K))
      (over0 over over_after : K) (n : ℕ) →
      ((a : Copy S M N K) (c : ℕ) → In a old → Carries w.has a c → ¬ (Carries w.has r c)) →
      SoFar sim w.has w.ends w.station w.bound old new out over0 over → Gives w r results out next over over_after n →
      SoFar sim w.has w.ends w.station w.bound (old ++ r ∷ []) (new ++ results) next over0 over_after

  -- a step with no clone over the limit has for each clone the result of its own window
  abbrev pub StepGivesWindows : Type 0
  StepGivesWindows = (w : Step K) (old new : List (Copy S M N K)) (out : List (M × K)) (over0 over : K) →
      AreReady w.station old → ((c : ℕ) → w.has over c ≡ false) →
      SoFar sim w.has w.ends w.station w.bound old new out over0 over →
      IsStepped sim w.has w.ends w.station w.bound old new out

  -- the clones that a step has put over the limit are those whose own windows produce logs that are too long
  abbrev pub StepFindsThoseOver : Type 0
  StepFindsThoseOver = (w : Step K) (old new : List (Copy S M N K)) (out : List (M × K)) (over0 over : K) →
      AreReady w.station old → ((c : ℕ) → w.has over0 c ≡ false) →
      SoFar sim w.has w.ends w.station w.bound old new out over0 over →
      AreOver sim w.has w.ends w.station w.bound old over

  -- the prefixes that one more copy gains are added
  abbrev pub CopiesGainTogether : Type 0
  CopiesGainTogether = (w : Step K) (old results : List (Copy S M N K)) (r : Copy S M N K) (out next : List (M × K))
      (over over_after : K) (n m : ℕ) →
      ((c : ℕ) → Carries w.has r c → messages_taken sim w.has w.ends c out ≡ []) →
      GainTogether sim w.has w.ends w.station w.bound old n →
      Gives w r results out next over over_after m →
      GainTogether sim w.has w.ends w.station w.bound (old ++ r ∷ []) (n + m)

module _ {S M N : Type 0} (K : Type 0) (sim : Simulation S M N) where
  -- before any message is given, the copies are unchanged
  abbrev pub NothingIsGiven : Type 0
  NothingIsGiven = (has : K → ℕ → Bool) (ends : ℕ → ℕ) (new : List (Copy S M N K)) → Disjoint has new →
      ((a : Copy S M N K) → In a new → SortedMarked sim.order a.pending) →
      SoFarGiven sim has ends [] new new

  -- one message more may be given
  abbrev pub MessageIsGiven : Type 0
  MessageIsGiven = (has : K → ℕ → Bool) (ends : ℕ → ℕ) (msgs : List (M × K)) (new done next : List (Copy S M N K))
      (m : M)
      (k : K) →
      SoFarGiven sim has ends msgs new done → AllZip (IsGiven sim has ends m k) done next →
      SoFarGiven sim has ends (msgs ++ (m, k) ∷ []) new next

  -- all is delivered if the messages given to station s are, for each clone, those that the stations sent to it
  abbrev pub GivenIsDelivered : Type 0
  GivenIsDelivered = (has : K → ℕ → Bool) (cs : List Clone) (s : ℕ) (sent : ℕ → List (M × K)) (msgs : List (M × K))
      (new done : List (Copy S M N K)) →
      ((c : ℕ) (z : M) → In z (messages_taken sim has (ends_of sim cs) c msgs)
      → (r : ℕ) × In z (messages_taken sim has (ends_of sim cs) c (sent r)) × (sim.to z ≡ s)) →
      ((c r : ℕ) (z : M) → In z (messages_taken sim has (ends_of sim cs) c (sent r)) → sim.to z ≡ s
      → In z (messages_taken sim has (ends_of sim cs) c msgs)) →
      SoFarGiven sim has (ends_of sim cs) msgs new done → IsDelivered sim has cs s sent new done
