-- How far triggers have come on the way to the horizon.
use Rattle.std.specs.Prelude.{◌≡◌, ℕ, ◌+◌, ◌<◌, ◌≤◌, List, length, map, Option, Some, None, option_and_then, slice_get}
use Rattle.sim_base.specs.Clones.{Clone, clone_at, place_of}
use Rattle.run_laws.specs.Runs.{log_at}
use Rattle.run_laws.specs.Simulation.{Simulation}
use Rattle.watch_points.specs.Branches.{Branch, Trigger, due_time}
use Rattle.watch_points.specs.Keeping.{outcome_at}
use Rattle.watch_points.specs.PassLaws.{source_at}
use Rattle.watch_points.specs.declared.watcher.Progress.{Progress}
use Rattle.watch_points.specs.declared.watcher.Progress.TheVariants.{Waiting, PastHorizon, Made}
use Rattle.watch_points.specs.declared.watcher.Source.{Source}
use Rattle.watch_points.specs.declared.watcher.Source.TheVariants.{OfScript, OfWatch}

-- the place of a trigger's branch among the clones, if it was made
abbrev pub made_place : Progress → Option ℕ
made_place (Made place start) = Some place
made_place _ = None

-- the places of the branches, in the order of the triggers
abbrev pub places_of : List Progress → List (Option ℕ)
places_of progress = map made_place progress

-- the place and the start of a trigger's branch, if it was made
abbrev pub made_branch : Progress → Option (ℕ × ℕ)
made_branch (Made place start) = Some (place, start)
made_branch _ = None

-- the place of the clone that is watched, and the time from which it is watched, if it is there
abbrev pub source_place : List Progress → Source → Option (ℕ × ℕ)
source_place progress (OfScript c) = Some (c, 0)
source_place progress (OfWatch i) = option_and_then made_branch (slice_get progress i)

-- the place of the earlier trigger is below n
abbrev pub IsInRange : ℕ → Source → Type 0
IsInRange n (OfScript c) = Unit {0}
IsInRange n (OfWatch i) = i < n

module _ {S M N : Type 0} (sim : Simulation S M N) (script : List Clone) (ts : List (Trigger N)) where
  -- a trigger is not due in the log before a front, and this number of its entries were looked at
  abbrev pub IsWaiting : ℕ → Trigger N → ℕ → Option Branch → Type 0
  IsWaiting front t seen None = seen ≡ 0
  IsWaiting front t seen (Some b) =
      (due_time sim front t b ≡ None) × (seen ≤ length (log_at sim b.clone t.station front))

  -- a trigger is due, but its change would come at the horizon or later
  abbrev pub IsPastHorizon : ℕ → Trigger N → Option Branch → Type 0
  IsPastHorizon front t None = ⊥
  IsPastHorizon front t (Some b) =
      (due : ℕ) × (due_time sim front t b ≡ Some due) × (sim.horizon ≤ due + sim.lookahead)

  -- the trigger at place j has come so far in the logs before a front
  abbrev pub HasProgress : ℕ → ℕ → Trigger N → Progress → Type 0
  HasProgress front j t (Waiting seen) = IsWaiting front t seen (source_at sim front script ts j t)
  HasProgress front j t PastHorizon = IsPastHorizon front t (source_at sim front script ts j t)
  HasProgress front j t (Made place start) =
      (b : Branch) × (outcome_at sim front script ts j ≡ Some b) × (b.start ≡ start)

  -- each trigger j has come so far in the logs before its front
  abbrev pub HaveProgress : (ℕ → ℕ) → List Progress → Type 0
  HaveProgress front progress = (j : ℕ) (t : Trigger N) (p : Progress) → slice_get ts j ≡ Some t →
      slice_get progress j ≡ Some p → HasProgress (front j) j t p

module _ {N : Type 0} (script : List Clone) (ts : List (Trigger N)) where
  -- the trigger at place j watches a clone of the script without an end, or the branch of an earlier trigger
  abbrev pub IsSource : ℕ → List ℕ → Source → Type 0
  IsSource j who (OfScript c) = (place_of who script ≡ Some c) × ((clone_at script c).end ≡ None)
  IsSource j who (OfWatch i) = (i < j) × ((t : Trigger N) × (slice_get ts i ≡ Some t) × (t.new ≡ who))

  -- each trigger has its source
  abbrev pub HaveSources : List Source → Type 0
  HaveSources sources = (j : ℕ) (t : Trigger N) (s : Source) → slice_get ts j ≡ Some t →
      slice_get sources j ≡ Some s → IsSource j t.who s
