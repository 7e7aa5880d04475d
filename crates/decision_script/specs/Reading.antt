-- The script of a text.
use Rattle.std.specs.Prelude.{ℕ, ◌+◌, nat_lt, codes, if◌then◌else◌, List, [], ◌∷◌, ◌++◌}
use Rattle.std.specs.Prelude.{length, position, Option, Some, None, Result, Ok, Err}
use Rattle.std.specs.Str.{bytes_eq}
use Rattle.sim_base.specs.declared.limits.TheConstants.{MAX_FILE_BYTES}
use Rattle.decision_script.specs.declared.item.Act.{Act}
use Rattle.decision_script.specs.declared.item.Item.{Item}
use Rattle.decision_script.specs.declared.line.ParsedLine.{ParsedLine}
use Rattle.decision_script.specs.declared.line.ParsedLine.TheVariants.{Nothing, Section, Action}
use Rattle.decision_script.specs.declared.fault.LineFault.{LineFault}
use Rattle.decision_script.specs.declared.fault.LineFault.TheVariants as broken
use Rattle.decision_script.specs.declared.fault.ScriptFault.{ScriptFault}
use Rattle.decision_script.specs.declared.fault.ScriptFault.TheVariants.{TooLong, NotAscii, BadLine, BadNumber}
use Rattle.decision_script.specs.declared.fault.ScriptFault.TheVariants.{TooManyLines, TooManyAnalysts, NoMemory}
use Rattle.decision_script.specs.declared.script.TheConstants.{MAX_ANALYSTS, MAX_ITEMS}
use Rattle.decision_script.specs.Lines.{lines}
use Rattle.sim_base.specs.Chain.{◌>>=◌}
use Rattle.decision_script.specs.Sentences.{line_saying}
use Rattle.decision_script.specs.Stating.{ScriptView}

-- the state of the reading so far: analysts and items up to here, and the number of the current analyst
pub record ReaderView : Type 0 where
  pub analysts : List (List ℕ)
  pub current : ℕ
  pub items : List Item

-- a line's fault, with the line's number
abbrev pub fault_at : ℕ → LineFault → ScriptFault
fault_at line broken.NotAscii = NotAscii line
fault_at line broken.BadLine = BadLine line
fault_at line broken.BadNumber = BadNumber line
fault_at line broken.NoMemory = NoMemory

-- the meaning of a line, or its fault with the line's number
abbrev pub at_line : ℕ → Result ParsedLine LineFault → Result ParsedLine ScriptFault
at_line line (Ok said) = Ok said
at_line line (Err broken) = Err (fault_at line broken)

-- the place of the analyst with this name, from 0
abbrev pub analyst_place : List ℕ → List (List ℕ) → Option ℕ
analyst_place name analysts = position (λ other. bytes_eq other name) analysts

-- a section of a known analyst continues with that analyst; a new name makes the next analyst, unless there are too
-- many
abbrev pub in_section : ℕ → ReaderView → List ℕ → Option ℕ → Result ReaderView ScriptFault
in_section line r name (Some i) = Ok (record r { current = i + 1 })
in_section line r name None = if nat_lt (length r.analysts) MAX_ANALYSTS
    then Ok (record { analysts = r.analysts ++ name ∷ []; current = length r.analysts + 1; items = r.items })
    else Err (TooManyAnalysts line)

-- a decision or look is an item of the current analyst, unless there are too many
abbrev pub with_act : ℕ → ReaderView → Act → Result ReaderView ScriptFault
with_act line r act = if nat_lt (length r.items) MAX_ITEMS
    then Ok (record r { items = r.items ++ (record { line = line; analyst = r.current; act = act }) ∷ [] })
    else Err (TooManyLines line)

-- the state after the line with this number and meaning
abbrev pub after_saying : ℕ → ReaderView → ParsedLine → Result ReaderView ScriptFault
after_saying line r Nothing = Ok r
after_saying line r (Section name) = in_section line r name (analyst_place name r.analysts)
after_saying line r (Action act) = with_act line r act

-- the state after the line with this number
unfoldable pub after_line : ℕ → ReaderView → List ℕ → Result ReaderView ScriptFault
after_line line r text = at_line line (line_saying text) >>= after_saying line r

-- the state after these lines, the first with this number
unfoldable pub after_lines : ℕ → ReaderView → List (List ℕ) → Result ReaderView ScriptFault
after_lines line r [] = Ok r
after_lines line r (l ∷ ls) = after_line line r l >>= λ next. after_lines (line + 1) next ls

-- before the first line the current analyst is main
abbrev pub new_reader : ReaderView
new_reader = record { analysts = codes "main" ∷ []; current = 1; items = [] }

-- the analysts and items that were read, as a script
abbrev pub script_of : ReaderView → ScriptView
script_of r = record { analysts = r.analysts; items = r.items }

-- the script of a text, or the first rule that it breaks
abbrev pub script : List ℕ → Result ScriptView ScriptFault
script text = if nat_lt MAX_FILE_BYTES (length text) then Err TooLong
    else (after_lines 1 new_reader (lines text) >>= λ r. Ok (script_of r))
