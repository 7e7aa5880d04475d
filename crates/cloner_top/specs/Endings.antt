-- The endings that each mode allows, in one table.
use Rattle.std.specs.Prelude.{◌≡◌, ℕ, ◌+◌, ◌/◌, ◌≤◌, List, [], ◌∷◌, ◌++◌, map, length, Some, None, Result, Ok, Err}
use Rattle.std.specs.Prelude.{codes, decimal, nat_le, if◌then◌else◌}
use Rattle.sim_base.specs.Clones.{Clone, clone_at, place_of}
use Rattle.sim_base.specs.declared.limits.TheConstants.{MAX_FILE_BYTES}
use Rattle.net_model.specs.Net.{Net, site_of}
use Rattle.net_model.specs.Text.{model}
use Rattle.net_model.specs.declared.fault.ModelFault.{ModelFault}
use Rattle.decision_script.specs.Reading.{script}
use Rattle.decision_script.specs.Stating.{ScriptView}
use Rattle.decision_script.specs.declared.fault.ScriptFault.{ScriptFault}
use Rattle.decision_book.specs.declared.call.Reply.{Reply}
use Rattle.decision_book.specs.Books.{BookView}
use Rattle.decision_book.specs.Journal.{after}
use Rattle.stations.specs.Runs.{trace_of}
use Rattle.world_core.specs.Overs.{most_handled}
use Rattle.world_core.specs.Worlds.{total_handled}
use Rattle.trace_report.specs.Outputs.{clone_text, report}
use Rattle.study_run.specs.Limits.{AreWithin, IsWithin, MeetsLimit, MeetsLimitAlone, until}
use Rattle.queue_stats.specs.Rows.{statistics}
use Rattle.link_clocks.specs.NetClocks.{AreAllRounds}
use Rattle.journal_text.specs.declared.looked.Looked.{Looked}
use Rattle.journal_text.specs.JournalText.{journal_text}
use Rattle.study_run.specs.Linking.{IsOverrun}
use Rattle.live_study.specs.Engines.{MeetsLimitLast}
use Rattle.live_study.specs.Looks.{AreLooks, AreMadeLooks}
use Rattle.live_study.specs.Scripts.{IsJournalOf}
use Rattle.watch_points.specs.Checking.{fit}
use Rattle.watch_points.specs.Reading.{watches}
use Rattle.watch_points.specs.Triggers.{clones_with_branches}
use Rattle.watch_points.specs.declared.fault.WatchFault.{WatchFault}
use Rattle.watch_points.specs.declared.watch.Watch.{Watch}
use Rattle.checkpoint.specs.Laws.{StaysOnward}
use Rattle.checkpoint.specs.Snapshots.{SnapshotView, onward, resumed_text}
use Rattle.snapshot_text.specs.Reading.{snapshot}
use Rattle.snapshot_text.specs.declared.fault.SnapshotFault.{SnapshotFault}
use Rattle.study_run.specs.Saving.{MeetsLimitOnward, saved_text}
use Rattle.command_words.specs.declared.request.Mode.{Mode}
use Rattle.command_words.specs.declared.request.Mode.TheVariants.{Links, Report, Save, Solo, Stats}
use Rattle.command_words.specs.Requests as asked
use Rattle.command_words.specs.Requests.{AssignmentView, Live, Resume, Study}
use Rattle.cloner_top.specs.declared.excess.Excess.{Excess}
use Rattle.cloner_top.specs.declared.excess.Excess.TheVariants.{LimitMet, LongSnapshot}
use Rattle.cloner_top.specs.declared.refusal.Text.{Text}
use Rattle.cloner_top.specs.declared.refusal.Text.TheVariants.{Model, Script, Snapshot, Watches}
use Rattle.cloner_top.specs.declared.stop.Stop.{Stop}
use Rattle.cloner_top.specs.declared.stop.Stop.TheVariants.{BadModel, BadScript, BadDecision, BadWatch, BadWatches}
use Rattle.cloner_top.specs.declared.stop.Stop.TheVariants.{BadSnapshot, NoClone}
use Rattle.cloner_top.specs.Deciding.{clones_of, first_refused}

-- an ending: these texts are written after this number of handled messages; or the study is not run; or a limit is
-- exceeded, these texts are put before the error line, and at most this number of messages was handled
pub data Ending : Type 0 where
  whole_output : List (List ℕ) → ℕ → Ending
  early_stop : Stop → Ending
  overrun : List (List ℕ) → Excess → ℕ → Ending

-- the excess at a station and a clone: the limit and both names
abbrev pub limit_met_at : Net → ℕ → List ℕ → Excess
limit_met_at net station clone = LimitMet net.limit (site_of net station).name clone

-- ---- all clones

-- how a run of these clones may end: it writes these texts, or it exceeds the limit at a station and a clone for which
-- `meets` holds
pub data MayRun (net : Net) (clones : List Clone) (meets : ℕ → ℕ → Type 0) (texts : List (List ℕ)) :
    Ending → Type 0 where
  within : AreWithin net clones
      → MayRun net clones meets texts (whole_output texts (total_handled net clones net.horizon))
  over : (station who : ℕ) → meets station who
      → MayRun net clones meets texts (overrun [] (limit_met_at net station (clone_at clones who).name)
      (most_handled net (length clones)))

-- what a run of all clones writes: the trace of each, in creation order, and then the report
unfoldable pub run_texts : Net → List Clone → List (List ℕ)
run_texts net clones = map (clone_text net) clones ++ report net clones ∷ []

-- what each mode writes: the report only, the statistics of the servers, or the texts of a run
abbrev pub mode_texts : Mode → Net → List Clone → List (List ℕ)
mode_texts Report net clones = report net clones ∷ []
mode_texts Stats net clones = statistics net clones ∷ []
mode_texts mode net clones = run_texts net clones

-- the station and the clone that are reported at the limit: the first, in each mode of all clones
abbrev pub mode_meets : Mode → Net → List Clone → ℕ → ℕ → Type 0
mode_meets mode net clones = MeetsLimit net clones

-- ---- all clones, in rounds with a clock for each station

-- the line with the number of rounds
abbrev pub rounds_line : ℕ → List ℕ
rounds_line k = codes "rounds " ++ decimal k ++ codes "\n"

-- how a run in rounds may end: it writes what `run` writes, and then the least number of rounds after which all clocks
-- are at the horizon; at the limit any station and clone with a log beyond it may be reported
pub data MayRunLinked (net : Net) (clones : List Clone) : Ending → Type 0 where
  linked : (k : ℕ) → AreAllRounds net k → k ≤ net.horizon / net.lookahead + 1 → AreWithin net clones
      → MayRunLinked net clones (whole_output (run_texts net clones ++ rounds_line k ∷ [])
      (total_handled net clones net.horizon))
  over_linked : (station who : ℕ) → IsOverrun net clones station who
      → MayRunLinked net clones (overrun [] (limit_met_at net station (clone_at clones who).name)
      (most_handled net (length clones)))

-- ---- all clones, with the branches of watches

-- how a run of these clones with these watches may end: its clones are these and the branches; at the limit any station
-- and clone with a log beyond it may be reported
abbrev pub MayRunWatched : Net → List Clone → List Watch → Ending → Type 0
MayRunWatched net clones ws end = MayRun net (clones_with_branches net clones ws)
    (IsOverrun net (clones_with_branches net clones ws)) (run_texts net (clones_with_branches net clones ws)) end

-- how a study with a text of watches may end: the text is refused, a watch does not fit, or it is run
pub data MayWatch (text : List ℕ) (net : Net) (clones : List Clone) : Ending → Type 0 where
  bad_watches : (fault : WatchFault) → watches text ≡ Err fault
      → MayWatch text net clones (early_stop (BadWatches fault))
  bad_watch : (ws : List Watch) (reply : Reply) (line : ℕ) → watches text ≡ Ok ws
      → fit net clones ws ≡ Err (record { line = line; reply = reply })
      → MayWatch text net clones (early_stop (BadWatch reply line))
  watched : (ws : List Watch) (end : Ending) → watches text ≡ Ok ws → fit net clones ws ≡ Ok tt
      → MayRunWatched net clones ws end → MayWatch text net clones end

-- ---- one clone alone

-- how a run of the named clone alone may end: this part of the clone is run, and `written` is its text, unless it
-- exceeds a limit
pub data MayRunAlone (net : Net) (clones : List Clone) (name : List ℕ) (part : Clone → Clone)
    (written : Clone → Result (List ℕ) Excess) : Ending → Type 0 where
  no_clone : place_of name clones ≡ None → MayRunAlone net clones name part written (early_stop (NoClone name))
  fits : (k : ℕ) (text : List ℕ) → place_of name clones ≡ Some k → IsWithin net (part (clone_at clones k))
      → written (clone_at clones k) ≡ Ok text
      → MayRunAlone net clones name part written (whole_output (text ∷ [])
      (length (trace_of net (part (clone_at clones k)))))
  too_long : (k : ℕ) (excess : Excess) → place_of name clones ≡ Some k → IsWithin net (part (clone_at clones k))
      → written (clone_at clones k) ≡ Err excess
      → MayRunAlone net clones name part written (overrun [] excess (length (trace_of net (part (clone_at clones k)))))
  limit_met : (k station : ℕ) → place_of name clones ≡ Some k
      → MeetsLimitAlone net (part (clone_at clones k)) station
      → MayRunAlone net clones name part written (overrun [] (limit_met_at net station name) (most_handled net 1))

-- `solo` runs the whole clone
abbrev pub whole : Clone → Clone
whole c = c

-- the text that `solo` writes: the clone's trace
abbrev pub solo_text : Net → Clone → Result (List ℕ) Excess
solo_text net c = Ok (clone_text net c)

-- the text that `save` writes if it stops a clone at a time: that of the clone's snapshot, unless it is too long
abbrev pub saved_or_too_long : Net → ℕ → Clone → Result (List ℕ) Excess
saved_or_too_long net time c =
    if nat_le (length (saved_text net time c)) MAX_FILE_BYTES then Ok (saved_text net time c) else Err LongSnapshot

-- ---- one clone, from a snapshot on

-- how the run from a snapshot may end: the clone's name, the snapshot's lines and those that follow are written, or the
-- limit is met
pub data MayGoOn (net : Net) (x : SnapshotView) : Ending → Type 0 where
  resumed : StaysOnward net x → MayGoOn net x (whole_output (resumed_text net x ∷ []) (length (onward net x)))
  limit_met_onward : (station : ℕ) → MeetsLimitOnward net x station
      → MayGoOn net x (overrun [] (limit_met_at net station x.who) (most_handled net 1))

-- how a run from a text may end: the text is no snapshot of the model, or the run goes on from the snapshot
pub data MayResume (text : List ℕ) (net : Net) : Ending → Type 0 where
  bad_snapshot : (fault : SnapshotFault) → snapshot net text ≡ Err fault
      → MayResume text net (early_stop (BadSnapshot fault))
  going_on : (x : SnapshotView) (end : Ending) → snapshot net text ≡ Ok x → MayGoOn net x end
      → MayResume text net end

-- ---- the modes

-- how the simulation of a plan may end
abbrev pub MaySimulate : Mode → Net → List Clone → Ending → Type 0
MaySimulate (Solo name) net clones end = MayRunAlone net clones name whole (solo_text net) end
MaySimulate (Save name time) net clones end =
    MayRunAlone net clones name (until net time) (saved_or_too_long net time) end
MaySimulate Links net clones end = MayRunLinked net clones end
MaySimulate mode net clones end = MayRun net clones (mode_meets mode net clones) (mode_texts mode net clones) end

-- how a live study of a script may end: it writes the text of some journal of its analysts, with what they saw, and
-- then what `run` writes for that journal's clones; or the limit is met at the journal's last front, and the journal is
-- put before the error line
pub data MayLive (net : Net) (s : ScriptView) : Ending → Type 0 where
  finished : (book : BookView) (looks : List Looked) → IsJournalOf net s book
      → (after net book.events).front ≡ net.horizon → AreLooks net s book.events looks
      → AreWithin net (after net book.events).clones
      → MayLive net s
      (whole_output (journal_text s.analysts book.events looks ∷ run_texts net (after net book.events).clones)
      (total_handled net (after net book.events).clones net.horizon))
  over_live : (book : BookView) (looks : List Looked) (station who : ℕ) → IsJournalOf net s book
      → AreMadeLooks net s looks
      → MeetsLimitLast net book.events station who
      → MayLive net s (overrun (journal_text s.analysts book.events looks ∷ [])
      (limit_met_at net station (clone_at (after net book.events).clones who).name)
      (most_handled net (length (after net book.events).clones)))

-- how a study of a script may end if its decisions are all made first: one is refused, or their clones are simulated
pub data MayDecide (simulates : List Clone → Ending → Type 0) (net : Net) (s : ScriptView) : Ending → Type 0 where
  refused_decision : (reply : Reply) (line : ℕ) → first_refused net s ≡ Some (reply, line)
      → MayDecide simulates net s (early_stop (BadDecision reply line))
  simulation : (end : Ending) → first_refused net s ≡ None → simulates (clones_of net s) end
      → MayDecide simulates net s end

-- and in a mode
abbrev pub MayEnd : Mode → Net → ScriptView → Ending → Type 0
MayEnd mode net s end = MayDecide (MaySimulate mode net) net s end

-- how a study with a script of this text may end
pub data MayStudy (ends : ScriptView → Ending → Type 0) (s : List ℕ) : Ending → Type 0 where
  bad_script : (fault : ScriptFault) → script s ≡ Err fault → MayStudy ends s (early_stop (BadScript fault))
  study : (stated : ScriptView) (end : Ending) → script s ≡ Ok stated → ends stated end → MayStudy ends s end

-- how an assignment over a model may end, from its other texts
abbrev pub MayFollow : AssignmentView → (Text → List ℕ) → Net → Ending → Type 0
MayFollow (Study source mode) t net end = MayStudy (MayEnd mode net) (t Script) end
MayFollow (Live m s) t net end = MayStudy (MayLive net) (t Script) end
MayFollow (asked.Watch m s w) t net end = MayStudy (MayDecide (MayWatch (t Watches) net) net) (t Script) end
MayFollow (Resume m x) t net end = MayResume (t Snapshot) net end

-- how an assignment with these texts may end
pub data MayEndByTexts (a : AssignmentView) (t : Text → List ℕ) : Ending → Type 0 where
  bad_model : (fault : ModelFault) → model (t Model) ≡ Err fault → MayEndByTexts a t (early_stop (BadModel fault))
  read : (net : Net) (end : Ending) → model (t Model) ≡ Ok net → MayFollow a t net end → MayEndByTexts a t end

-- ---- what was written, or why nothing was

-- what was written for an ending with property `P`; the steps are the messages handled
pub record HasWritten (P : Ending → Type 0) (old_steps new_steps : ℕ) (texts : List (List ℕ)) : Type 0 where
  pub work : ℕ
  pub may : P (whole_output texts work)
  pub steps : new_steps ≡ old_steps + work

-- the excess of an ending with property `P`, and what is put before its error line
pub record IsExcessOf (P : Ending → Type 0) (old_steps new_steps : ℕ) (told : List (List ℕ)) (excess : Excess) :
    Type 0 where
  pub most : ℕ
  pub may : P (overrun told excess most)
  pub steps : new_steps ≤ old_steps + most
