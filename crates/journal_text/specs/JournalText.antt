-- The text of a journal: its calls and fronts in order, and then what the analysts saw at their looks.
use Rattle.std.specs.Prelude.{ℕ, ◌++◌, List, length, Option, Some, None, codes, decimal}
use Rattle.std.specs.List.{flat_map, join_with_byte}
use Rattle.sim_base.specs.declared.decision.Decision.{Decision}
use Rattle.phys_proc.specs.declared.rack.Glance.{Glance}
use Rattle.phys_proc.specs.declared.rack.Found.{Found}
use Rattle.decision_script.specs.Printing.{words_of_decision}
use Rattle.decision_script.specs.Stating.{analyst_name}
use Rattle.decision_book.specs.declared.call.Reply.{Reply}
use Rattle.decision_book.specs.declared.call.Reply.TheVariants.{Accepted, Late}
use Rattle.decision_book.specs.Numbers.{reply_number}
use Rattle.decision_book.specs.Journal.{Event, NewFront, NewCall, calls_of, fronts_of}
use Rattle.journal_text.specs.declared.looked.Looked.{Looked}

-- a decision in script syntax
abbrev pub decision_text : Decision → List ℕ
decision_text d = join_with_byte 32 (words_of_decision d)

-- why a decision was refused: the number of the refusal, and the front if the decision was late
abbrev pub refusal_text : Reply → List ℕ
refusal_text (Late front) = decimal (reply_number (Late front)) ++ codes " front " ++ decimal front
refusal_text reply = decimal (reply_number reply)

-- an accepted decision in script syntax, or a refused one after a '#' and the reason
abbrev pub call_line : Reply → Decision → List ℕ
call_line Accepted d = decision_text d
call_line reply d = codes "# refused " ++ refusal_text reply ++ codes ": " ++ decision_text d

-- a front, or a call with the name of its analyst
abbrev pub event_text : List (List ℕ) → Event → List ℕ
event_text analysts (NewFront front) = codes "# front " ++ decimal front ++ codes "\n"
event_text analysts (NewCall call) =
    codes "analyst " ++ analyst_name analysts call.caller ++ codes "\n" ++ call_line call.reply call.decision
    ++ codes "\n"

-- all events in order, of analysts with these names
abbrev pub events_text : List (List ℕ) → List Event → List ℕ
events_text analysts events = flat_map (event_text analysts) events

-- what a look found of the clone: the number of messages handled, and the number of clones with the same log
abbrev pub found_text : Option Found → List ℕ
found_text None = codes " absent"
found_text (Some found) = codes " handled=" ++ decimal found.handled ++ codes " shared=" ++ decimal found.shared

-- what a look showed: its front, and the number of clones
abbrev pub glance_text : Option Glance → List ℕ
glance_text None = codes " unknown"
glance_text (Some glance) = codes " front=" ++ decimal glance.front ++ codes " clones=" ++ decimal glance.clones
    ++ found_text glance.found

-- the line of a look: the analyst, the clone, the station, and what it showed
abbrev pub look_line : List (List ℕ) → Looked → List ℕ
look_line analysts look =
    codes "look " ++ analyst_name analysts look.analyst ++ codes " " ++ look.who ++ codes " " ++ look.station
    ++ glance_text look.glance ++ codes "\n"

-- the number of looks, and a line for each
abbrev pub looks_text : List (List ℕ) → List Looked → List ℕ
looks_text analysts looks = codes "looks " ++ decimal (length looks) ++ codes "\n"
    ++ flat_map (look_line analysts) looks

-- the numbers of calls and fronts
abbrev pub counts_line : ℕ → ℕ → List ℕ
counts_line calls fronts = codes "journal " ++ decimal calls ++ codes " " ++ decimal fronts ++ codes "\n"

-- the same for these events
abbrev pub head_line : List Event → List ℕ
head_line events = counts_line (length (calls_of events)) (length (fronts_of events))

-- the text of a journal, followed by the looks
abbrev pub journal_text : List (List ℕ) → List Event → List Looked → List ℕ
journal_text analysts events looks = head_line events ++ events_text analysts events ++ looks_text analysts looks
