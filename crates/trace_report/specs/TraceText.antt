-- The text of a clone's trace: a head, and then a line for each message that was handled.
use Rattle.std.specs.Prelude.{◌==◌, ℕ, ◌++◌, if◌then◌else◌, List}
use Rattle.std.specs.Prelude.{[], Option, Some, None, codes, decimal}
use Rattle.std.specs.List.{flat_map, join_with_byte}
use Rattle.sim_base.specs.Params.{param_values, value_words, words_of_change}
use Rattle.sim_base.specs.declared.entry.Entry.{Entry}
use Rattle.sim_base.specs.declared.entry.Line.{Line}
use Rattle.sim_base.specs.declared.entry.Line.TheVariants.{Source, Server, Passed, Sink}
use Rattle.sim_base.specs.declared.message.Change.{Change}
use Rattle.sim_base.specs.declared.message.Job.{Job as JobOf}
use Rattle.sim_base.specs.declared.message.Key.{Key}
use Rattle.sim_base.specs.declared.message.Msg.{Msg}
use Rattle.sim_base.specs.declared.message.Payload.{Payload}
use Rattle.sim_base.specs.declared.message.Payload.TheVariants.{Tick, Job, Done, Set}
use Rattle.net_model.specs.Net.{Net, Site, site_at, class_from}

-- the name of a station, or that of the analyst if there is no station
abbrev pub name_or_analyst : Option Site → List ℕ
name_or_analyst None = codes "analyst"
name_or_analyst (Some site) = site.name

-- the sender or receiver of a number: that station, or otherwise the analyst, whose number is 0
abbrev pub station_name : Net → ℕ → List ℕ
station_name net s = name_or_analyst (site_at net s)

-- the class of a source's jobs; only format 2 has classes
abbrev pub class_text : Net → ℕ → List ℕ
class_text net source = if net.format == 2 then codes ":" ++ decimal (class_from net source) else []

-- a job, by its source and its count among that source's jobs
abbrev pub job_text : Net → JobOf → List ℕ
job_text net job = station_name net job.source ++ codes "." ++ decimal job.count ++ class_text net job.source

-- the one value of a change, or both of its values
abbrev pub values_text : Change → List ℕ
values_text change = join_with_byte 32 (value_words (param_values change.param) change.a change.b)

-- a change in script syntax
abbrev pub change_text : Change → List ℕ
change_text change = join_with_byte 32 (words_of_change change.param change.a change.b)

-- the payload of a message
abbrev pub payload_text : Net → Payload → List ℕ
payload_text net Tick = codes "tick"
payload_text net (Job job) = codes "job " ++ job_text net job
payload_text net (Done job) = codes "done " ++ job_text net job
payload_text net (Set change) = codes "set " ++ change_text change

-- the counts of a station after the message
abbrev pub counts_text : Line → List ℕ
counts_text (Source sent) = codes "sent=" ++ decimal sent
counts_text (Server busy wait done lost) =
    codes "busy=" ++ decimal busy ++ codes " wait=" ++ decimal wait ++ codes " done=" ++ decimal done
    ++ codes " lost=" ++ decimal lost
counts_text (Passed passed) = codes "passed=" ++ decimal passed
counts_text (Sink got stay) = codes "got=" ++ decimal got ++ codes " stay=" ++ decimal stay

-- the start of a line, up to the payload: the time, the receiver, the sender and its running count
abbrev pub line_start : Net → Key → ℕ → List ℕ
line_start net key to =
    decimal key.time ++ codes " " ++ station_name net to ++ codes " " ++ station_name net key.sender ++ codes " "
    ++ decimal key.number ++ codes " "

-- the line of an entry: its start, the payload, and the counts
abbrev pub entry_line : Net → Entry Msg Line → List ℕ
entry_line net entry =
    line_start net entry.msg.key entry.msg.to ++ payload_text net entry.msg.payload ++ codes " "
    ++ counts_text entry.line ++ codes "\n"

-- the trace text of a clone of this name with these entries
abbrev pub trace_text : Net → List ℕ → List (Entry Msg Line) → List ℕ
trace_text net name entries = codes "clone " ++ name ++ codes "\n" ++ flat_map (entry_line net) entries
