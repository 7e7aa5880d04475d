-- The least times that are due in the clones, and how accepted calls change them.
use Rattle.std.specs.Prelude.{ℕ, ◌-◌, List, [], ◌∷◌, ◌++◌, map, fold}
use Rattle.std.specs.Prelude.{length, take, drop, Option, Some, None, slice_get, slice_set}
use Rattle.sim_base.specs.declared.decision.Decision.{Decision}
use Rattle.sim_base.specs.declared.decision.Decision.TheVariants.{Fork, Set, End}
use Rattle.sim_base.specs.Clones.{Clone, place_of}
use Rattle.sim_base.specs.Decisions.{subject}
use Rattle.net_model.specs.Net.{Net}
use Rattle.run_laws.specs.Fronts.{earlier, least_of}
use Rattle.run_laws.specs.FrontLaws.{time_before}
use Rattle.stations.specs.Runs.{simulation}
use Rattle.decision_book.specs.declared.call.Call.{Call}
use Rattle.decision_book.specs.Journal.{Event, calls_of}

-- the least time that is due in each clone
abbrev pub leasts_of : Net → List Clone → ℕ → List (Option ℕ)
leasts_of net cs front = map (λ c. least_of (simulation net) c front) cs

-- the earliest of these times, if there is one
abbrev pub earliest : List (Option ℕ) → Option ℕ
earliest [] = None
earliest (t ∷ ts) = earlier t (earliest ts)

-- the least times after an accepted decision on the clone at this place, with its least time before: a fork starts with
-- it; a set takes the lesser of it and the set's time; an end drops it unless it is below the end
abbrev pub leasts_with_at : ℕ → Option (Option ℕ) → List (Option ℕ) → Decision → List (Option ℕ)
leasts_with_at p None ts d = ts
leasts_with_at p (Some t) ts (Fork new old) = ts ++ t ∷ []
leasts_with_at p (Some t) ts (Set who at station change) = slice_set ts p (earlier (Some at) t)
leasts_with_at p (Some t) ts (End who at) = slice_set ts p (time_before at t)

-- the least times after an accepted decision on the clone at this place, if any
abbrev pub leasts_with : Option ℕ → List (Option ℕ) → Decision → List (Option ℕ)
leasts_with None ts d = ts
leasts_with (Some p) ts d = leasts_with_at p (slice_get ts p) ts d

-- the least times after accepted calls, if these are the clones after all calls
abbrev pub leasts_with_calls : List Clone → List (Option ℕ) → List Call → List (Option ℕ)
leasts_with_calls clones ts calls =
    fold (λ us c. leasts_with (place_of (subject c.decision) clones) us c.decision) ts calls

-- a journal as it was when it had `known` calls, if only calls came since
abbrev pub helm_at : ℕ → List Event → List Event
helm_at known es = take (length es - (length (calls_of es) - known)) es

-- the calls since then
abbrev pub calls_at : ℕ → List Event → List Call
calls_at known es = drop known (calls_of es)
