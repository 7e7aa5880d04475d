-- The numbers and the places of faults, as a program reports them.
use Rattle.std.specs.Prelude.{ℕ}
use Rattle.snapshot_text.specs.declared.fault.SnapshotFault.{SnapshotFault}
use Rattle.snapshot_text.specs.declared.fault.SnapshotFault.TheVariants.{TooLong, BadLine, Unfit, BadPending}
use Rattle.snapshot_text.specs.declared.fault.SnapshotFault.TheVariants.{NoMemory, BadFront}

abbrev pub fault_number : SnapshotFault → ℕ
fault_number TooLong = 1
fault_number (BadLine line) = 2
fault_number (Unfit station) = 3
fault_number (BadPending index) = 4
fault_number NoMemory = 5
fault_number BadFront = 6

abbrev pub fault_place : SnapshotFault → ℕ
fault_place (BadLine line) = line
fault_place (Unfit station) = station
fault_place (BadPending index) = index
fault_place _ = 0
