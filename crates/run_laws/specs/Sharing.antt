-- What the clones have in common, by their logs alone: classes, messages handled once and alone, the limit.
use Rattle.std.specs.Prelude.{ℕ, ◌<◌, List, [], ◌∷◌, ◌&&◌, Bool, true, false, map, length, take, sum_by}
use Rattle.std.specs.List.{flat_map}
use Rattle.std.specs.Set.{distinct_count}
use Rattle.sim_base.specs.Clones.{Clone}
use Rattle.sim_base.specs.declared.entry.Entry.{Entry}
use Rattle.run_laws.specs.Simulation.{Simulation}
use Rattle.run_laws.specs.Runs.{log_at}
use Rattle.run_laws.specs.Handlers.{IsStation}

-- the nonempty prefixes of a list
abbrev pub prefixes : {E : Type 0} → List E → List (List E)
prefixes [] = []
prefixes (e ∷ es) = (e ∷ []) ∷ map (λ p. e ∷ p) (prefixes es)

module _ {E : Type 0} (same : E → E → Bool) where
  -- whether two lists have the same elements in the same order
  abbrev pub same_list : List E → List E → Bool
  same_list [] [] = true
  same_list (x ∷ xs) (y ∷ ys) = same x y && same_list xs ys
  same_list xs ys = false

module _ {S M N : Type 0} (sim : Simulation S M N) where
  -- the logs of the clones at a station, in the order of the clones
  abbrev pub logs_at : List Clone → ℕ → ℕ → List (List (Entry M N))
  logs_at cs s front = map (λ c. log_at sim c s front) cs

  -- handled alone: each clone alone handles the messages of its log
  abbrev pub handled_alone : List Clone → ℕ → ℕ → ℕ
  handled_alone cs s front = sum_by length (logs_at cs s front)

  -- a clone's log at a station is beyond the limit
  abbrev pub IsBeyond : ℕ → ℕ → Clone → Type 0
  IsBeyond s front c = sim.limit < length (log_at sim c s front)

  -- and at no station is its log beyond the limit
  abbrev pub IsWithinLimit : ℕ → Clone → Type 0
  IsWithinLimit front c = (s : ℕ) → IsStation sim s → ¬ (IsBeyond s front c)

  module _ (same : Entry M N → Entry M N → Bool) where
    -- the number of classes at a station: of different logs
    abbrev pub copies : List Clone → ℕ → ℕ → ℕ
    copies cs s front = distinct_count (same_list same) (logs_at cs s front)

    -- handled once: the past that clones share counts once, so this is the number of different nonempty prefixes of
    -- their logs
    abbrev pub handled_once : List Clone → ℕ → ℕ → ℕ
    handled_once cs s front = distinct_count (same_list same) (flat_map prefixes (logs_at cs s front))

    -- handled once, with each log cut to the limit
    abbrev pub handled_to_limit : List Clone → ℕ → ℕ → ℕ
    handled_to_limit cs s front = distinct_count (same_list same)
        (flat_map prefixes (map (take sim.limit) (logs_at cs s front)))
