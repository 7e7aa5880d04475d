-- What a text of watches states.
use Rattle.std.specs.Prelude.{ℕ, ◌+◌, nat_lt, if◌then◌else◌, List, [], ◌∷◌, ◌++◌, length, Option, Some, None}
use Rattle.std.specs.Prelude.{Result, Ok, Err}
use Rattle.sim_base.specs.Chain.{◌>>=◌}
use Rattle.sim_base.specs.declared.limits.TheConstants.{MAX_FILE_BYTES}
use Rattle.decision_script.specs.declared.fault.LineFault.{LineFault}
use Rattle.decision_script.specs.declared.fault.LineFault.TheVariants as broken
use Rattle.decision_script.specs.Lines.{lines}
use Rattle.watch_points.specs.declared.fault.WatchFault.{WatchFault}
use Rattle.watch_points.specs.declared.fault.WatchFault.TheVariants.{TooLong, NotAscii, BadLine, BadNumber}
use Rattle.watch_points.specs.declared.fault.WatchFault.TheVariants.{TooManyLines, NoMemory}
use Rattle.watch_points.specs.declared.watch.TheConstants.{MAX_WATCHES}
use Rattle.watch_points.specs.declared.watch.Watch.{Watch}
use Rattle.watch_points.specs.Sentences.{line_saying}

-- a line's fault, with the line's number
abbrev pub fault_at : ℕ → LineFault → WatchFault
fault_at line broken.NotAscii = NotAscii line
fault_at line broken.BadLine = BadLine line
fault_at line broken.BadNumber = BadNumber line
fault_at line broken.NoMemory = NoMemory

-- what a line says, or its fault with the line's number
abbrev pub at_line : ℕ → Result (Option Watch) LineFault → Result (Option Watch) WatchFault
at_line line (Ok said) = Ok said
at_line line (Err fault) = Err (fault_at line fault)

-- the watches and what a line says, if there is room
abbrev pub after_saying : ℕ → List Watch → Option Watch → Result (List Watch) WatchFault
after_saying line ws None = Ok ws
after_saying line ws (Some w) = if nat_lt (length ws) MAX_WATCHES then Ok (ws ++ w ∷ []) else Err (TooManyLines line)

-- the watches after the line of this number
unfoldable pub after_line : ℕ → List Watch → List ℕ → Result (List Watch) WatchFault
after_line line ws text = at_line line (line_saying line text) >>= after_saying line ws

-- the watches after these lines, the first of which has this number
unfoldable pub after_lines : ℕ → List Watch → List (List ℕ) → Result (List Watch) WatchFault
after_lines line ws [] = Ok ws
after_lines line ws (l ∷ ls) = after_line line ws l >>= λ next. after_lines (line + 1) next ls

-- the watches that a text states, or the first rule that it breaks
abbrev pub watches : List ℕ → Result (List Watch) WatchFault
watches text = if nat_lt MAX_FILE_BYTES (length text) then Err TooLong else after_lines 1 [] (lines text)
