-- The number of a fault, and its line.
use Rattle.std.specs.Prelude.{ℕ}
use Rattle.decision_script.specs.declared.fault.ScriptFault.{ScriptFault}
use Rattle.decision_script.specs.declared.fault.ScriptFault.TheVariants.{TooLong, NotAscii, BadLine, BadNumber}
use Rattle.decision_script.specs.declared.fault.ScriptFault.TheVariants.{TooManyLines, TooManyAnalysts, NoMemory}

-- the numbers of the refusals
abbrev pub fault_number : ScriptFault → ℕ
fault_number TooLong = 1
fault_number (NotAscii line) = 2
fault_number (BadLine line) = 3
fault_number (BadNumber line) = 4
fault_number (TooManyLines line) = 5
fault_number (TooManyAnalysts line) = 6
fault_number NoMemory = 7

-- the faulty line, or 0
abbrev pub fault_line : ScriptFault → ℕ
fault_line (NotAscii line) = line
fault_line (BadLine line) = line
fault_line (BadNumber line) = line
fault_line (TooManyLines line) = line
fault_line (TooManyAnalysts line) = line
fault_line _ = 0
