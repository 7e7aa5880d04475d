use Rattle.std.proofs.Common.{◌≡◌, ℕ, ◌<◌, length, Some, slice_get}
use Rattle.trace_report.specs.Slots.{slot_of}
use Rattle.trace_report.specs.declared.names.TheConstants.{SLOTS}
use Rattle.trace_report.proofs.names.Names.of.Given as goal

abbrev pub invariant-loop-s : goal.invariant-loop-s
invariant-loop-s l = (length l.slots ≡ SLOTS) × ((i : ℕ) → i < l.s → slice_get l.slots i ≡ Some (slot_of l.model i))
