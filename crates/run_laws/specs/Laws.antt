-- The laws of machines and of runs, as statements that contracts cite.
use Rattle.std.specs.Prelude.{◌≡◌, ◌⊎◌, ℕ, ◌≤◌, List}
use Rattle.std.specs.Prelude.{◌==◌, ◌&&◌, if◌then◌else◌, map, length, nat_lt}
use Rattle.std.specs.List.{filter}
use Rattle.std.specs.declared.cmp.Ordering.{Ordering}
use Rattle.sim_base.specs.Clones.{Clone, with_plan, with_end}
use Rattle.sim_base.specs.declared.decision.Planned.{Planned}
use Rattle.sim_base.specs.declared.entry.Entry.{Entry}
use Rattle.run_laws.specs.Queue.{insert, In, Sorted}
use Rattle.run_laws.specs.Machine.{Config, run_to, Reach, IsSettled}
use Rattle.run_laws.specs.Simulation.{Simulation}
use Rattle.run_laws.specs.World.{World, replay}
use Rattle.run_laws.specs.Window.{LocalStation, local_run, earlier_than}
use Rattle.run_laws.specs.Runs.{end_of, IsTimelyEnd, run_of, log_at, state_at, all_due, due_at}
use Rattle.run_laws.specs.Handlers.{key_order, IsStation, AreForStations}

-- one message more is pending
abbrev pub and_pending : {X M : Type 0} → (M → M → Ordering) → M → Config X M → Config X M
and_pending cmp m c = record { at = c.at; pending = insert cmp m c.pending }

module _ {X M : Type 0} (cmp : M → M → Ordering) (time : M → ℕ) (handle : X → M → X × List M) (Good : X → Type 0) where
  -- a machine in a good state, with its messages in order
  pub record IsReady (c : Config X M) : Type 0 where
    pub good : Good c.at
    pub sorted : Sorted cmp c.pending

  -- a run is reached by turns before the bound, and leaves no message before it
  abbrev pub RunIsReached : Type 0
  RunIsReached = (bound : ℕ) (c : Config X M) → IsReady c →
      Reach cmp time handle bound c (run_to cmp handle time c bound)
      × IsSettled time bound (run_to cmp handle time c bound)

  -- if turns before the bound lead to a state with no message before it, that is the run
  abbrev pub RunIsDetermined : Type 0
  RunIsDetermined = (bound : ℕ) (c d : Config X M) → IsReady c →
      Reach cmp time handle bound c d → IsSettled time bound d → d ≡ run_to cmp handle time c bound

  -- a run to one bound, continued to a later one, is the run to the later one
  abbrev pub RunGoesOn : Type 0
  RunGoesOn = (front bound : ℕ) (c : Config X M) → IsReady c → front ≤ bound →
      run_to cmp handle time (run_to cmp handle time c front) bound ≡ run_to cmp handle time c bound

  -- a message at or after the bound stays pending, and changes nothing else
  abbrev pub LateMessageStaysPending : Type 0
  LateMessageStaysPending = (bound : ℕ) (c : Config X M) (m : M) → IsReady c → bound ≤ time m →
      run_to cmp handle time (and_pending cmp m c) bound ≡ and_pending cmp m (run_to cmp handle time c bound)

-- a message that a world has handled, or that is pending in it
abbrev pub IsMessageOf : {S M N : Type 0} → Config (World S M N) M → M → Type 0
IsMessageOf w m = In m (map (λ e. e.msg) w.at.trace) ⊎ In m w.pending

module _ {S M N : Type 0} (sim : Simulation S M N) where
  -- the entries before a front
  abbrev pub entries_before : ℕ → List (Entry M N) → List (Entry M N)
  entries_before front es = filter (λ e. nat_lt (sim.time e.msg) front) es

  -- the trace of a clone rises strictly by time, then sender, then number
  abbrev pub TraceRises : (M → ℕ) → (M → ℕ) → Type 0
  TraceRises sender number = (c : Clone) (front : ℕ) → AreForStations sim c.plans →
      Sorted (key_order sim.time sender number) (map (λ e. e.msg) (run_of sim c front).at.trace)

  -- no two messages of a clone have the same sender and number
  abbrev pub NumbersAreOnce : (M → ℕ) → (M → ℕ) → Type 0
  NumbersAreOnce sender number = (c : Clone) (front : ℕ) (m k : M) → AreForStations sim c.plans →
      IsMessageOf (run_of sim c front) m → IsMessageOf (run_of sim c front) k → sender m ≡ sender k →
      number m ≡ number k → m ≡ k

  -- every due message is for a station, if the decisions are
  abbrev pub DueIsForStations : Type 0
  DueIsForStations = (c : Clone) (front : ℕ) (m : M) → AreForStations sim c.plans → In m (all_due sim c front) →
      IsStation sim (sim.to m)

  -- the state of a station at a front results from its opening state by the messages of its log
  abbrev pub StateIsReplay : Type 0
  StateIsReplay = (c : Clone) (s front : ℕ) →
      state_at sim c s front ≡ replay sim.to sim.handle s (sim.setup s).state (log_at sim c s front)

  -- that state is good for every log
  abbrev pub ReplayIsGood : (ℕ → S → Type 0) → Type 0
  ReplayIsGood Good = (s : ℕ) (es : List (Entry M N)) → Good s (replay sim.to sim.handle s (sim.setup s).state es)

  -- if two clones have equal logs at a station, they have it in the same state
  abbrev pub EqualLogsEqualStates : Type 0
  EqualLogsEqualStates = (c d : Clone) (s front : ℕ) →
      log_at sim c s front ≡ log_at sim d s front → state_at sim c s front ≡ state_at sim d s front

  -- the log of a station at a front is the part of any later log before the front
  abbrev pub LogAtFront : Type 0
  LogAtFront = (c : Clone) (s front bound : ℕ) → front ≤ bound →
      entries_before front (log_at sim c s bound) ≡ log_at sim c s front

  -- the changes at a front by a new decision, as the message m: m is due if it comes before the clone's end
  pub record AddsDue (c : Clone) (p : Planned) (m : M) (front : ℕ) : Type 0 where
    pub world : (run_of sim (with_plan c p) front).at ≡ (run_of sim c front).at
    pub due : all_due sim (with_plan c p) front
        ≡ (if nat_lt (sim.time m) (end_of sim c) then insert sim.order m (all_due sim c front) else all_due sim c front)
    pub due_here : (s : ℕ) →
        due_at sim (with_plan c p) s front
        ≡ (if nat_lt (sim.time m) (end_of sim c) && sim.to m == s then insert sim.order m
        (due_at sim c s front) else due_at sim c s front)

  -- a decision at or after a front adds its message to the due ones, and changes nothing else
  abbrev pub DecisionAddsDue : Type 0
  DecisionAddsDue = (c : Clone) (p : Planned) (front : ℕ) →
      front ≤ sim.time (sim.set_message (length c.plans) p) → AddsDue c p (sim.set_message (length c.plans) p) front

  -- the changes at a front by a new end: the messages from it on are no longer due
  pub record DropsDue (c : Clone) (at front : ℕ) : Type 0 where
    pub world : (run_of sim (with_end c at) front).at ≡ (run_of sim c front).at
    pub due : all_due sim (with_end c at) front ≡ earlier_than sim.time at (all_due sim c front)
    pub due_here : (s : ℕ) → due_at sim (with_end c at) s front ≡ earlier_than sim.time at (due_at sim c s front)

  -- an end at or after a front, and not past the clone's present end, drops the due messages from it on, and changes
  -- nothing else
  abbrev pub EndDropsDue : Type 0
  EndDropsDue = (c : Clone) (at front : ℕ) → IsTimelyEnd sim c front at → DropsDue c at front

  -- station s of a clone alone, from a front to a bound
  abbrev pub window : Clone → ℕ → ℕ → ℕ → Config (LocalStation S M N) M
  window c s front bound = local_run sim s (log_at sim c s front) (state_at sim c s front)
      (due_at sim c s front) bound (end_of sim c)
