-- The exit statuses and the error lines.
use Rattle.std.specs.Prelude.{ℕ, List, codes}
use Rattle.command_words.specs.declared.request.WordsFault.{WordsFault}
use Rattle.command_words.specs.declared.request.WordsFault.TheVariants as fault
use Rattle.command_words.specs.Usage.{usage_line}
use Rattle.cloner_top.specs.declared.refusal.Refusal.{Refusal}
use Rattle.cloner_top.specs.declared.refusal.Refusal.TheVariants.{OutOfMemory, Usage, NotRead}
use Rattle.cloner_top.specs.declared.refusal.Refusal.TheVariants.{Stopped, Exceeded, CannotWrite}
use Rattle.cloner_top.specs.declared.refusal.Text.{Text}
use Rattle.cloner_top.specs.declared.refusal.Text.TheVariants.{Model, Script, Snapshot, Watches}
use Rattle.cloner_top.specs.declared.stop.Stop.{Stop}
use Rattle.cloner_top.specs.Stops.{excess_line, excess_status, stop_line, stop_status}

-- the status for each cause
abbrev pub status_of : Refusal → ℕ
status_of OutOfMemory = 1
status_of Usage = 2
status_of (NotRead text) = 3
status_of (Stopped stop) = stop_status stop
status_of (Exceeded excess) = excess_status excess
status_of CannotWrite = 8

-- the line for a text that was not read
abbrev pub unread_line : Text → List ℕ
unread_line Model = codes "cloner: cannot read the model\n"
unread_line Script = codes "cloner: cannot read the script\n"
unread_line Watches = codes "cloner: cannot read the watches\n"
unread_line Snapshot = codes "cloner: cannot read the snapshot\n"

-- the line for each cause
abbrev pub error_line : Refusal → List ℕ
error_line OutOfMemory = codes "cloner: out of memory\n"
error_line Usage = usage_line
error_line (NotRead text) = unread_line text
error_line (Stopped stop) = stop_line stop
error_line (Exceeded excess) = excess_line excess
error_line CannotWrite = codes "cloner: cannot write\n"

-- out of memory, or a stop with this property
abbrev pub IsMemoryOrStop : (Stop → Type 0) → Refusal → Type 0
IsMemoryOrStop P OutOfMemory = Unit {0}
IsMemoryOrStop P (Stopped stop) = P stop
IsMemoryOrStop P refusal = ⊥

-- the refusal for each error in the command line
abbrev pub words_refusal : WordsFault → Refusal
words_refusal fault.NoMemory = OutOfMemory
words_refusal fault.Usage = Usage
