-- The result of a window at its stations, each stepped to its bound.
use Rattle.std.specs.Prelude.{◌≡◌, ◌≢◌, ℕ, ◌+◌, ◌<◌, ◌≤◌, ◌++◌, List, length, map, slice_get, Option, Some, None}
use Rattle.std.specs.Prelude.{IfSome}
use Rattle.clone_sets.specs.Sets.{empty, IsFirst}
use Rattle.clone_sets.specs.declared.set.CloneSet.{CloneSet}
use Rattle.net_model.specs.Net.{Net}
use Rattle.net_model.specs.declared.limits.TheConstants.{MAX_STATIONS}
use Rattle.phys_proc.specs.Own.{MarkedMessages}
use Rattle.phys_proc.specs.Procs.{ProcView}
use Rattle.station_steps.specs.declared.station_step.StationStep.{StationStep}
use Rattle.station_steps.specs.Windows.{AllDelivered, AllFlow, IsFlow, NoneOver, all_handled, all_sent}

-- the result at place i is the first with a clone over the limit, and this clone is the first there
pub record IsFirstOver (flows : List StationStep) (i who : ℕ) : Type 0 where
  pub flow : StationStep
  pub is_there : slice_get flows i ≡ Some flow
  pub first : IsFirst flow.over who
  pub none_before : (j : ℕ) (f : StationStep) → j < i → slice_get flows j ≡ Some f → f.over ≡ empty

-- the place of the first station with a clone over the limit, and the first such clone there, if any
abbrev pub FirstOver : List StationStep → Option (ℕ × ℕ) → Type 0
FirstOver flows None = NoneOver flows
FirstOver flows (Some p) = IsFirstOver flows p.0 p.1

-- the place, if any, is less than the greatest number of stations
abbrev pub IsPlaceOfOver : Option (ℕ × ℕ) → Type 0
IsPlaceOfOver over = IfSome over (λ p. p.0 < MAX_STATIONS)

-- the station at place i was stepped, what it sent is appended to what the others sent before, and the other stations
-- are unchanged
pub record SteppedAt (net : Net) (ends : ℕ → ℕ) (bound i : ℕ) (olds news : List ProcView)
    (before after : MarkedMessages)
    (over : CloneSet) (handled : ℕ) : Type 0 where
  pub flow : StationStep
  pub is_flow : (p : ProcView) → slice_get olds i ≡ Some p → IsFlow net ends bound i p flow
  pub is_at : slice_get news i ≡ Some flow.done
  pub others : (j : ℕ) → j ≢ i → slice_get news j ≡ slice_get olds j
  pub long : length news ≡ length olds
  pub sent_is : after ≡ before ++ flow.sent.items
  pub over_is : over ≡ flow.over
  pub handled_is : handled ≡ flow.handled

-- the first n stations were stepped: what they sent, the first over the limit, and the number of steps
pub record SteppedTo (net : Net) (ends bounds : ℕ → ℕ) (n : ℕ) (olds news : List ProcView) (sent : MarkedMessages)
    (over : Option (ℕ × ℕ)) (steps0 steps : ℕ) : Type 0 where
  pub flows : List StationStep
  pub count : length flows ≡ n
  pub each : AllFlow net ends bounds olds flows
  pub procs : (i : ℕ) → i < n → slice_get news i ≡ slice_get (map (λ f. f.done) flows) i
  pub others : (i : ℕ) → n ≤ i → slice_get news i ≡ slice_get olds i
  pub long : length news ≡ length olds
  pub sent_is : sent ≡ all_sent flows
  pub first : FirstOver flows over
  pub steps_are : steps ≡ steps0 + all_handled flows

-- all stations were stepped
pub record AllStepped (net : Net) (ends bounds : ℕ → ℕ) (olds news : List ProcView) (sent : MarkedMessages)
    (over : Option (ℕ × ℕ)) (steps0 steps : ℕ) : Type 0 where
  pub flows : List StationStep
  pub count : length flows ≡ length olds
  pub each : AllFlow net ends bounds olds flows
  pub procs : news ≡ map (λ f. f.done) flows
  pub sent_is : sent ≡ all_sent flows
  pub first : FirstOver flows over
  pub steps_are : steps ≡ steps0 + all_handled flows

-- all stations were stepped, and if no clone went over the limit, each got what the others sent to it
pub record AllSteppedAndGiven (net : Net) (ends bounds : ℕ → ℕ) (olds given : List ProcView) (over : Option (ℕ × ℕ))
    (steps0 steps : ℕ) : Type 0 where
  pub news : List ProcView
  pub sent : MarkedMessages
  pub stepped : AllStepped net ends bounds olds news sent over steps0 steps
  pub delivered : over ≡ None → AllDelivered sent news given
