-- Exit statuses and error lines of studies that are not run, or that exceed a limit.
use Rattle.std.specs.Prelude.{ℕ, ◌++◌, List, [], Option, Some, None, codes, decimal}
use Rattle.net_model.specs.declared.fault.ModelFault.{ModelFault}
use Rattle.net_model.specs.Faults.{fault_key, fault_number, fault_place}
use Rattle.decision_script.specs.declared.fault.ScriptFault.{ScriptFault}
use Rattle.decision_script.specs.Faults as script
use Rattle.decision_book.specs.declared.call.Reply.{Reply}
use Rattle.decision_book.specs.Numbers.{reply_number}
use Rattle.watch_points.specs.declared.fault.WatchFault.{WatchFault}
use Rattle.watch_points.specs.Faults as watch
use Rattle.snapshot_text.specs.declared.fault.SnapshotFault.{SnapshotFault}
use Rattle.snapshot_text.specs.Faults as snapshot
use Rattle.cloner_top.specs.declared.stop.Stop.{Stop}
use Rattle.cloner_top.specs.declared.stop.Stop.TheVariants.{BadModel, BadScript, BadDecision, BadWatch, BadWatches}
use Rattle.cloner_top.specs.declared.stop.Stop.TheVariants.{BadSnapshot, NoClone}
use Rattle.cloner_top.specs.declared.excess.Excess.{Excess}
use Rattle.cloner_top.specs.declared.excess.Excess.TheVariants.{LimitMet, LongSnapshot}

-- the status for each stop
abbrev pub stop_status : Stop → ℕ
stop_status (BadModel fault) = 4
stop_status (BadScript fault) = 5
stop_status (BadDecision reply line) = 6
stop_status (NoClone name) = 6
stop_status (BadWatches fault) = 9
stop_status (BadWatch reply line) = 9
stop_status (BadSnapshot fault) = 10

-- the status for each excess
abbrev pub excess_status : Excess → ℕ
excess_status (LimitMet limit station clone) = 7
excess_status LongSnapshot = 11

-- how a line names a key; empty if there is none
abbrev pub key_part : Option (List ℕ) → List ℕ
key_part None = []
key_part (Some key) = codes " key " ++ key

-- the first broken rule of a model: its number, the station, and the key if it has one
abbrev pub model_line : ModelFault → List ℕ
model_line fault =
    codes "cloner: model: refusal " ++ decimal (fault_number fault) ++ codes " at station "
    ++ decimal (fault_place fault)
    ++ key_part (fault_key fault) ++ codes "\n"

-- the first broken rule of a script
abbrev pub script_line : ScriptFault → List ℕ
script_line fault =
    codes "cloner: script: refusal " ++ decimal (script.fault_number fault) ++ codes " at line "
    ++ decimal (script.fault_line fault) ++ codes "\n"

-- the first refused decision
abbrev pub decision_line : Reply → ℕ → List ℕ
decision_line reply line =
    codes "cloner: decision: refusal " ++ decimal (reply_number reply) ++ codes " at line " ++ decimal line
    ++ codes "\n"

-- the first broken rule of watches
abbrev pub watches_line : WatchFault → List ℕ
watches_line fault =
    codes "cloner: watches: refusal " ++ decimal (watch.fault_number fault) ++ codes " at line "
    ++ decimal (watch.fault_line fault) ++ codes "\n"

-- the first watch that does not fit
abbrev pub watch_line : Reply → ℕ → List ℕ
watch_line reply line =
    codes "cloner: watch: refusal " ++ decimal (reply_number reply) ++ codes " at line " ++ decimal line
    ++ codes "\n"

-- the first broken rule of a snapshot, and its line, station or message
abbrev pub snapshot_line : SnapshotFault → List ℕ
snapshot_line fault =
    codes "cloner: snapshot: refusal " ++ decimal (snapshot.fault_number fault) ++ codes " at "
    ++ decimal (snapshot.fault_place fault) ++ codes "\n"

-- the name that no clone has
abbrev pub no_clone_line : List ℕ → List ℕ
no_clone_line name = codes "cloner: no clone " ++ name ++ codes "\n"

-- the limit that was met, the station and the clone
abbrev pub limit_line : ℕ → List ℕ → List ℕ → List ℕ
limit_line limit station clone =
    codes "cloner: limit " ++ decimal limit ++ codes " met at station " ++ station ++ codes " in clone " ++ clone
    ++ codes "\n"

-- the snapshot's text would be too long
abbrev pub long_snapshot_line : List ℕ
long_snapshot_line = codes "cloner: snapshot too long\n"

-- the line for each stop
abbrev pub stop_line : Stop → List ℕ
stop_line (BadModel fault) = model_line fault
stop_line (BadScript fault) = script_line fault
stop_line (BadDecision reply line) = decision_line reply line
stop_line (NoClone name) = no_clone_line name
stop_line (BadWatches fault) = watches_line fault
stop_line (BadWatch reply line) = watch_line reply line
stop_line (BadSnapshot fault) = snapshot_line fault

-- the line for each excess
abbrev pub excess_line : Excess → List ℕ
excess_line (LimitMet limit station clone) = limit_line limit station clone
excess_line LongSnapshot = long_snapshot_line
