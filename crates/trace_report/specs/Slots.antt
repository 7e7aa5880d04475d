-- What lines show of a station's number.
use Rattle.std.specs.Prelude.{◌≡◌, ℕ, ◌<◌, ◌≤◌, List, length, Some, slice_get}
use Rattle.net_model.specs.Net.{Net, class_from}
use Rattle.net_model.specs.declared.limits.TheConstants.{MAX_STATIONS}
use Rattle.trace_report.specs.declared.names.Slot.{Slot}
use Rattle.trace_report.specs.declared.names.TheConstants.{SLOTS}
use Rattle.trace_report.specs.TraceText.{station_name}

-- the slot of a number: the station's name, or the analyst's, and the class of the jobs that it makes
abbrev pub slot_of : Net → ℕ → Slot
slot_of net s = record { name = station_name net s; class = class_from net s }

-- the slots of a network, for the numbers from 0 to the greatest possible station number
pub record AreNames (net : Net) (slots : List Slot) : Type 0 where
  pub at_most : length net.sites ≤ MAX_STATIONS
  pub size : length slots ≡ SLOTS
  pub each : (s : ℕ) → s < SLOTS → slice_get slots s ≡ Some (slot_of net s)
