-- The laws of due times and of branches, as statements that contracts cite.
use Rattle.std.specs.Prelude.{◌≡◌, ℕ, ◌+◌, ◌<◌, ◌≤◌, ◌⊎◌, List, [], ◌∷◌, ◌++◌, Bool, Option, Some, None, length, map}
use Rattle.std.specs.Prelude.{nat_lt, slice_get, take}
use Rattle.std.specs.List.{AllByRecursion, filter}
use Rattle.sim_base.specs.Clones.{Clone, clone_at, clones_with_fork, clones_with_plan, fork_of, place_of, with_plan}
use Rattle.sim_base.specs.declared.decision.Planned.{Planned}
use Rattle.sim_base.specs.declared.entry.Entry.{Entry}
use Rattle.run_laws.specs.Queue.{In}
use Rattle.run_laws.specs.Simulation.{Simulation}
use Rattle.run_laws.specs.Runs.{all_due, log_at}
use Rattle.run_laws.specs.Fronts.{IsWindow}
use Rattle.run_laws.specs.FrontLaws.{time_before}
use Rattle.run_laws.specs.Sharing.{IsBeyond}
use Rattle.run_laws.specs.Handlers.{AreForStations}
use Rattle.watch_points.specs.Due.{RisesByTime, due_in}
use Rattle.watch_points.specs.Branches.{Branch, Trigger, HaveNewNames, TargetsAreStations, branch_by, branch_named}
use Rattle.watch_points.specs.Branches.{branches_at, clones_with_branches, initial_branch, outcomes, present}
use Rattle.watch_points.specs.Keeping.{HoldsBranches, option_at}

-- a fork of a clone, and then a decision of the new clone, append one clone with both
abbrev pub ForkThenSetAppends : Type 0
ForkThenSetAppends = (cs : List Clone) (old : ℕ) (name : List ℕ) (p : Planned) →
    clones_with_plan (clones_with_fork cs name old) (length cs) p
    ≡ cs ++ with_plan (fork_of (clone_at cs old) name) p ∷ []

-- a clone of the script is found by its name
abbrev pub ScriptNameIsFound : Type 0
ScriptNameIsFound = (name : List ℕ) (ls : List Clone) (k : ℕ) → place_of name ls ≡ Some k →
    branch_named name (map initial_branch ls) ≡ Some (initial_branch (clone_at ls k))

module _ {S M N : Type 0} (sim : Simulation S M N) where
  -- if nothing is due before a time, a log stays the same up to that time
  abbrev pub NothingDueLeavesLogs : Type 0
  NothingDueLeavesLogs = (c : Clone) (s front until : ℕ) → front ≤ until →
      AllByRecursion (λ m. until ≤ sim.time m) (all_due sim c front) →
      log_at sim c s until ≡ log_at sim c s front

  -- the due time in the entries before a front is the log's due time, or none if that is at the front or later. The log
  -- rises by time
  abbrev pub DueBeforeFront : Type 0
  DueBeforeFront = (condition : N → Bool) (start front : ℕ) (es : List (Entry M N)) → RisesByTime sim.time es →
      due_in sim.time condition start (filter (λ e. nat_lt (sim.time e.msg) front) es)
      ≡ time_before front (due_in sim.time condition start es)

  -- the due time in the log at a front is that in each later log, or none if that is at the front or later
  abbrev pub DueAtFront : Type 0
  DueAtFront = (condition : N → Bool) (c : Clone) (s start front bound : ℕ) → AreForStations sim c.plans →
      front ≤ bound →
      due_in sim.time condition start (log_at sim c s front)
      ≡ time_before front (due_in sim.time condition start (log_at sim c s bound))

  -- a due time in a window is at most the lookahead before the window's end
  abbrev pub DueIsNotLate : Type 0
  DueIsNotLate = (condition : N → Bool) (cs : List Clone) (c : Clone) (s start front bound t : ℕ) →
      AreForStations sim c.plans → In c cs → IsWindow sim cs front bound →
      due_in sim.time condition start (log_at sim c s front) ≡ None →
      due_in sim.time condition start (log_at sim c s bound) ≡ Some t → bound ≤ t + sim.lookahead

  -- decisions and changes are for stations, the first branches have these names, and no name is given twice
  pub record AreValidTriggers (names : List (List ℕ)) (bs : List Branch) (ws : List (Trigger N)) : Type 0 where
    pub clones : (x : Branch) → In x bs → AreForStations sim x.clone.plans × In x.clone.name names
    pub new_names : HaveNewNames names ws
    pub targets : TargetsAreStations sim.stations ws

  -- a branch that follows from the logs before a front is a branch at every later front
  abbrev pub BranchesStay : Type 0
  BranchesStay = (names : List (List ℕ)) (bs : List Branch) (ws : List (Trigger N)) (front bound : ℕ) →
      AreValidTriggers names bs ws → front ≤ bound → (x : Branch) → In x (branches_at sim front bs ws) →
      In x (branches_at sim bound bs ws)

  -- a branch that is new in a window has its change at the window's end or later
  abbrev pub BranchIsNotLate : Type 0
  BranchIsNotLate = (names : List (List ℕ)) (bs : List Branch) (ws : List (Trigger N)) (cs : List Clone)
      (front bound : ℕ) →
      AreValidTriggers names bs ws → IsWindow sim cs front bound →
      ((x : Branch) → In x (branches_at sim front bs ws) → In x.clone cs) →
      (y : Branch) → In y (branches_at sim bound bs ws) → In y (branches_at sim front bs ws) ⊎ (bound ≤ y.start)

  -- a branch that a trigger makes has no end
  abbrev pub MadeBranchHasNoEnd : Type 0
  MadeBranchHasNoEnd = (front : ℕ) (bs : List Branch) (w : Trigger N) (b : Branch) →
      branch_by sim front bs w ≡ Some b → b.clone.end ≡ None

  -- triggers keep the existing branches, and append theirs in the order of the triggers
  abbrev pub BranchesAreAppended : Type 0
  BranchesAreAppended = (front : ℕ) (bs : List Branch) (ws : List (Trigger N)) →
      branches_at sim front bs ws ≡ bs ++ present (outcomes sim front bs ws)

  -- a trigger makes its branch from the branches after the triggers before it
  abbrev pub OutcomeIsOfEarlier : Type 0
  OutcomeIsOfEarlier = (front : ℕ) (bs : List Branch) (ws : List (Trigger N)) (i : ℕ) (w : Trigger N) →
      slice_get ws i ≡ Some w →
      option_at (outcomes sim front bs ws) i ≡ branch_by sim front (branches_at sim front bs (take i ws)) w

  -- the new name of an earlier trigger names the branch of that trigger, if it made one
  abbrev pub NewNameIsOutcome : Type 0
  NewNameIsOutcome = (front : ℕ) (names : List (List ℕ)) (bs : List Branch) (ws : List (Trigger N)) (i j : ℕ)
      (w : Trigger N) → ((x : Branch) → In x bs → In x.clone.name names) → HaveNewNames names ws → j < i →
      slice_get ws j ≡ Some w →
      branch_named w.new (branches_at sim front bs (take i ws)) ≡ option_at (outcomes sim front bs ws) j

  -- a clone that a world holds at a front is one of the clones of the whole run
  abbrev pub HeldClonesStay : Type 0
  HeldClonesStay = (names : List (List ℕ)) (front : ℕ) (ls : List Clone) (ws : List (Trigger N)) (cs : List Clone)
      (places : List (Option ℕ)) → AreValidTriggers names (map initial_branch ls) ws → front ≤ sim.horizon →
      HoldsBranches sim front ls ws cs places → (c : Clone) → In c cs → In c (clones_with_branches sim ls ws)

  -- a log that is beyond the limit at a front is beyond it at every later front
  abbrev pub BeyondStays : Type 0
  BeyondStays = (c : Clone) (s front bound : ℕ) → front ≤ bound → IsBeyond sim s front c → IsBeyond sim s bound c
