-- A window of all stations: each steps its own copies to its bound, and then each gets what the others sent to it.
use Rattle.std.specs.Prelude.{◌≡◌, ℕ, ◌+◌, ◌≤◌, List, []}
use Rattle.std.specs.Prelude.{length, slice_get, slice_index, unwrap_or, option_map, Some, sum_by}
use Rattle.std.specs.List.{All, flat_map}
use Rattle.clone_sets.specs.Sets.{has, empty}
use Rattle.clone_sets.specs.declared.set.CloneSet.{CloneSet}
use Rattle.net_model.specs.Net.{Net}
use Rattle.net_model.specs.declared.limits.TheConstants.{MAX_STATIONS}
use Rattle.stations.specs.Runs.{simulation}
use Rattle.run_laws.specs.Copies.{IsStepped, AreOver, GainTogether}
use Rattle.phys_proc.specs.Own.{StationCopy, MarkedMessages}
use Rattle.phys_proc.specs.Procs.{ProcView, IsProc}
pub use Rattle.station_steps.specs.Mail.{mail_for, with_mail}
use Rattle.station_steps.specs.declared.station_step.StationStep.{StationStep}

-- what the tasks of a window share: the network, and when clones end
pub record WindowView : Type 0 where
  pub net : Net
  pub ends : List (ℕ × ℕ)

-- the copies at place i are those of station i + 1
pub record IsNumbered (net : Net) (i : ℕ) (p : ProcView) : Type 0 where
  pub proc : IsProc net p
  pub number : p.station ≡ i + 1

-- the same at every place
abbrev pub AreProcsInOrder : Net → List ProcView → Type 0
AreProcsInOrder net procs = (i : ℕ) (p : ProcView) → slice_get procs i ≡ Some p → IsNumbered net i p

-- the copies of a network's stations, in the order of their numbers, and at most as many as the limit on stations
pub record AreStations (net : Net) (procs : List ProcView) : Type 0 where
  pub at_most : length procs ≤ MAX_STATIONS
  pub procs_in_order : AreProcsInOrder net procs

-- a bound for each station, none past the horizon
pub record AreBounds (net : Net) (procs : List ProcView) (bounds : List ℕ) : Type 0 where
  pub count : length bounds ≡ length procs
  pub time_max : All (λ b. b ≤ net.horizon) bounds

-- the bound of the station at a place
abbrev pub bound_of : List ℕ → ℕ → ℕ
bound_of bounds i = slice_index bounds i

-- the copies of station s are stepped to the bound, and count messages were handled: each clone has the result of its
-- own window unless some clone is over the limit; `full` has just the clones over the limit; the count is what the
-- copies gained
pub record HasAdvanced (net : Net) (s : ℕ) (ends : ℕ → ℕ) (bound : ℕ) (old new : ProcView) (sent : MarkedMessages)
    (full : CloneSet) (count : ℕ) : Type 0 where
  pub windows : full ≡ empty → IsStepped (simulation net) has ends s bound old.copies new.copies sent
  pub over : AreOver (simulation net) has ends s bound old.copies full
  pub gain : GainTogether (simulation net) has ends s bound old.copies count
  pub proc : IsProc net new
  pub number : new.station ≡ s
  pub living : full ≡ empty → new.living ≡ old.living
  pub once : full ≡ empty → new.handled ≡ old.handled + count

-- the result of the task of place i: that of a step of station i + 1
abbrev pub IsFlow : Net → (ℕ → ℕ) → ℕ → ℕ → ProcView → StationStep → Type 0
IsFlow net ends bound i old flow =
    HasAdvanced net (i + 1) ends bound old flow.done flow.sent.items flow.over flow.handled

-- the result of each task, for the bound of its place
abbrev pub AllFlow : Net → (ℕ → ℕ) → (ℕ → ℕ) → List ProcView → List StationStep → Type 0
AllFlow net ends bounds procs flows = (i : ℕ) (p : ProcView) (flow : StationStep) → slice_get procs i ≡ Some p
    → slice_get flows i ≡ Some flow → IsFlow net ends (bounds i) i p flow

-- the messages that all stations have handled
abbrev pub all_handled : List StationStep → ℕ
all_handled flows = sum_by (λ f. f.handled) flows

-- the messages that all stations sent, station after station
abbrev pub all_sent : List StationStep → MarkedMessages
all_sent flows = flat_map (λ f. f.sent.items) flows

-- the messages for the station at place i
abbrev pub sent_to : ℕ → MarkedMessages → MarkedMessages
sent_to i ms = mail_for (i + 1) ms

-- the copies of the station at a place of the list
abbrev pub copies_at : List ProcView → ℕ → List StationCopy
copies_at procs i = unwrap_or (option_map (λ p. p.copies) (slice_get procs i)) []

-- the copies at place i, as its task returns them
abbrev pub done_at : List StationStep → ℕ → List StationCopy
done_at flows i = unwrap_or (option_map (λ f. f.done.copies) (slice_get flows i)) []

-- the messages that the copies at place i sent
abbrev pub sent_at : List StationStep → ℕ → MarkedMessages
sent_at flows i = unwrap_or (option_map (λ f. f.sent.items) (slice_get flows i)) []

-- the copies at place i after the window
abbrev pub after_window : List StationStep → ℕ → List StationCopy
after_window flows i = with_mail (sent_to i (all_sent flows)) (done_at flows i)

-- no clone went over the limit
abbrev pub NoneOver : List StationStep → Type 0
NoneOver flows = (i : ℕ) (flow : StationStep) → slice_get flows i ≡ Some flow → flow.over ≡ empty

-- the stations are in the order of their numbers
abbrev pub AreStationsInOrder : List ProcView → Type 0
AreStationsInOrder procs = (i : ℕ) (p : ProcView) → slice_get procs i ≡ Some p → p.station ≡ i + 1

-- messages may be delivered to these stations: they are in the order of their numbers, and not too many
pub record MayGiveAll (procs : List ProcView) : Type 0 where
  pub at_most : length procs ≤ MAX_STATIONS
  pub in_order : AreStationsInOrder procs

-- messages were delivered to the copies of one station, and nothing else changed
pub record IsDeliveredTo (msgs : MarkedMessages) (old new : ProcView) : Type 0 where
  pub copies : new.copies ≡ with_mail msgs old.copies
  pub station : new.station ≡ old.station
  pub living : new.living ≡ old.living
  pub once : new.handled ≡ old.handled
  pub proc : (net : Net) → IsProc net old → IsProc net new

-- every station got the messages for it
pub record AllDelivered (msgs : MarkedMessages) (old new : List ProcView) : Type 0 where
  pub count : length new ≡ length old
  pub each : (i : ℕ) (p q : ProcView) → slice_get old i ≡ Some p → slice_get new i ≡ Some q
      → IsDeliveredTo (sent_to i msgs) p q
