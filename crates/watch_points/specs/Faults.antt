-- The number of a fault, and its line.
use Rattle.std.specs.Prelude.{ℕ}
use Rattle.watch_points.specs.declared.fault.WatchFault.{WatchFault}
use Rattle.watch_points.specs.declared.fault.WatchFault.TheVariants.{TooLong, NotAscii, BadLine, BadNumber}
use Rattle.watch_points.specs.declared.fault.WatchFault.TheVariants.{TooManyLines, NoMemory}

-- the number of a refusal
abbrev pub fault_number : WatchFault → ℕ
fault_number TooLong = 1
fault_number (NotAscii line) = 2
fault_number (BadLine line) = 3
fault_number (BadNumber line) = 4
fault_number (TooManyLines line) = 5
fault_number NoMemory = 6

-- the number of the line that breaks the rule, or 0
abbrev pub fault_line : WatchFault → ℕ
fault_line (NotAscii line) = line
fault_line (BadLine line) = line
fault_line (BadNumber line) = line
fault_line (TooManyLines line) = line
fault_line _ = 0
