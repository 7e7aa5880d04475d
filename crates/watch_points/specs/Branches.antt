-- Triggers and the branches that they make. A trigger watches one station of one clone. When the log of that station
-- first meets the trigger's condition, a branch of the clone is made.
use Rattle.std.specs.Prelude.{ℕ, ◌+◌, nat_lt, if◌then◌else◌, List, [], ◌∷◌, ◌++◌, map, Bool, Option, Some, None, find}
use Rattle.std.specs.Prelude.{⊤}
use Rattle.std.specs.List.{AllByRecursion, filter_map}
use Rattle.std.specs.Str.{bytes_eq}
use Rattle.sim_base.specs.Clones.{Clone, fork_of, with_plan}
use Rattle.sim_base.specs.declared.message.Change.{Change}
use Rattle.run_laws.specs.Queue.{In}
use Rattle.run_laws.specs.Simulation.{Simulation}
use Rattle.run_laws.specs.Runs.{log_at}
use Rattle.run_laws.specs.Handlers.{IsStationOf}
use Rattle.watch_points.specs.Due.{due_in}

-- a clone, and the time from which triggers watch it
pub record Branch : Type 0 where
  pub clone : Clone
  pub start : ℕ

-- a clone of the script: triggers watch it from time 0
abbrev pub initial_branch : Clone → Branch
initial_branch c = record { clone = c; start = 0 }

-- a trigger: the clone and the station that it watches, and the condition on the station's counts. The branch that it
-- makes has a new name, and a change at a target station
pub record Trigger (N : Type 0) : Type 0 where
  pub who : List ℕ
  pub station : ℕ
  pub condition : N → Bool
  pub new : List ℕ
  pub target : ℕ
  pub change : Change

-- the first branch with this name
abbrev pub branch_named : List ℕ → List Branch → Option Branch
branch_named name bs = find (λ (b : Branch). bytes_eq b.clone.name name) bs

-- the branches, and one more at the end if there is one
abbrev pub with_branch : List Branch → Option Branch → List Branch
with_branch bs None = bs
with_branch bs (Some b) = bs ++ b ∷ []

-- the new name of each trigger is none of these names, and no earlier trigger has it
abbrev pub HaveNewNames : {N : Type 0} → List (List ℕ) → List (Trigger N) → Type 0
HaveNewNames names [] = ⊤
HaveNewNames names (w ∷ ws) = ¬ (In w.new names) × HaveNewNames (w.new ∷ names) ws

-- the values that are present, in their order
abbrev pub present : {X : Type 0} → List (Option X) → List X
present os = filter_map (λ o. o) os

-- every target is one of n stations
abbrev pub TargetsAreStations : {N : Type 0} → ℕ → List (Trigger N) → Type 0
TargetsAreStations n ws = AllByRecursion (λ w. IsStationOf n w.target) ws

module _ {S M N : Type 0} (sim : Simulation S M N) where
  -- the branch that a trigger makes of a clone when it is due at t. It has the decisions of the clone, then the change,
  -- later by the lookahead. Triggers watch it from the time of that change
  abbrev pub branch_of : Trigger N → Clone → ℕ → Branch
  branch_of w c t = record {
    clone = with_plan (fork_of c w.new)
        (record { at = t + sim.lookahead; station = w.target; change = w.change });
    start = t + sim.lookahead;
  }

  -- the branch of a trigger with this due time: it needs a due time, and a change before the horizon
  abbrev pub branch_if_due : Trigger N → Clone → Option ℕ → Option Branch
  branch_if_due w c None = None
  branch_if_due w c (Some t) = if nat_lt (t + sim.lookahead) sim.horizon then Some (branch_of w c t) else None

  -- the due time of a trigger that watches this branch, from the log before a front
  abbrev pub due_time : ℕ → Trigger N → Branch → Option ℕ
  due_time front w b = due_in sim.time w.condition b.start (log_at sim b.clone w.station front)

  -- the branch that a trigger makes of its source, the branch that it watches, if there is one
  abbrev pub branch_from : ℕ → Trigger N → Option Branch → Option Branch
  branch_from front w None = None
  branch_from front w (Some b) = branch_if_due w b.clone (due_time front w b)

  -- the branch that a trigger makes, given these branches
  abbrev pub branch_by : ℕ → List Branch → Trigger N → Option Branch
  branch_by front bs w = branch_from front w (branch_named w.who bs)

  -- the branches after all triggers in their order, from the logs before a front
  abbrev pub branches_at : ℕ → List Branch → List (Trigger N) → List Branch
  branches_at front bs [] = bs
  branches_at front bs (w ∷ ws) = branches_at front (with_branch bs (branch_by front bs w)) ws

  -- the outcome of each trigger in its order: the branch that it makes, if any, from the logs before a front
  abbrev pub outcomes : ℕ → List Branch → List (Trigger N) → List (Option Branch)
  outcomes front bs [] = []
  outcomes front bs (w ∷ ws) = branch_by front bs w
      ∷ outcomes front (with_branch bs (branch_by front bs w)) ws

  -- the clones of the whole run: those of the script, then the branches that the triggers make
  abbrev pub clones_with_branches : List Clone → List (Trigger N) → List Clone
  clones_with_branches cs ws = map (λ (b : Branch). b.clone) (branches_at sim.horizon (map initial_branch cs) ws)
