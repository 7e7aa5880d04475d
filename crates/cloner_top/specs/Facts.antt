-- What each status means, one fact at a time.
use Rattle.std.specs.Prelude.{◌≡◌, ◌⊎◌, ℕ, ◌+◌, ◌/◌, ◌≤◌, List, [], ◌∷◌, ◌++◌, length, Option, Some, None, Result, Ok}
use Rattle.sim_base.specs.Clones.{Clone, clone_at, place_of}
use Rattle.sim_outer.specs.Counts.{AreCounted, HasRisen}
use Rattle.sim_outer.specs.Files.{Files}
use Rattle.net_model.specs.Net.{Net}
use Rattle.net_model.specs.Text.{model}
use Rattle.decision_script.specs.Reading.{script}
use Rattle.decision_script.specs.Stating.{ScriptView}
use Rattle.decision_book.specs.Books.{BookView}
use Rattle.decision_book.specs.Journal.{after as after_events}
use Rattle.stations.specs.Runs.{trace_of}
use Rattle.world_core.specs.Worlds.{total_handled}
use Rattle.study_run.specs.Limits.{AreWithin, IsWithin, until}
use Rattle.link_clocks.specs.NetClocks.{AreAllRounds}
use Rattle.journal_text.specs.declared.looked.Looked.{Looked}
use Rattle.journal_text.specs.JournalText.{journal_text}
use Rattle.live_study.specs.Looks.{AreLooks}
use Rattle.live_study.specs.Scripts.{IsJournalOf}
use Rattle.watch_points.specs.Checking.{fit}
use Rattle.watch_points.specs.Reading.{watches}
use Rattle.watch_points.specs.Triggers.{clones_with_branches}
use Rattle.watch_points.specs.declared.watch.Watch as watch
use Rattle.command_words.specs.declared.request.Mode.{Mode}
use Rattle.checkpoint.specs.Laws.{StaysOnward}
use Rattle.checkpoint.specs.Snapshots.{SnapshotView, onward, resumed_text}
use Rattle.snapshot_text.specs.Reading.{snapshot}
use Rattle.command_words.specs.declared.request.Mode.TheVariants.{Links, Save, Solo}
use Rattle.command_words.specs.Requests.{AssignmentView, Live, Resume, Study, Watch}
use Rattle.cloner_top.specs.declared.excess.Excess.{Excess}
use Rattle.cloner_top.specs.declared.refusal.Refusal.{Refusal}
use Rattle.cloner_top.specs.declared.refusal.Text.{Text}
use Rattle.cloner_top.specs.declared.refusal.Text.TheVariants.{Model, Script, Snapshot, Watches}
use Rattle.cloner_top.specs.declared.stop.Stop.{Stop}
use Rattle.cloner_top.specs.Answers.{InputsFailed, IsLawfulEnding, Outside}
use Rattle.cloner_top.specs.Deciding.{clones_of, first_refused}
use Rattle.cloner_top.specs.Endings.{Ending, IsExcessOf, early_stop, mode_texts, overrun, rounds_line, run_texts}
use Rattle.cloner_top.specs.Endings.{saved_or_too_long, solo_text, whole, whole_output}
use Rattle.cloner_top.specs.Outsides.{ArePut, ArePutOrCut, IsStudyCut}
use Rattle.cloner_top.specs.Refusals.{error_line, status_of}
use Rattle.cloner_top.specs.Stops.{excess_line, excess_status, stop_line, stop_status}
use Rattle.cloner_top.specs.Texts.{AreTexts, IsDue, IsUnread, all_fetches}

-- the texts of an assignment are a model and a script
pub record IsReadStudy (files : Option Files) (a : AssignmentView) (net : Net) (stated : ScriptView) : Type 0 where
  pub t : Text → List ℕ
  pub texts : AreTexts a files t
  pub is_model : model (t Model) ≡ Ok net
  pub is_script : script (t Script) ≡ Ok stated

-- and all decisions of the script are accepted
pub record IsStudy (files : Option Files) (a : AssignmentView) (net : Net) (stated : ScriptView) : Type 0 where
  pub read : IsReadStudy files a net stated
  pub accepted : first_refused net stated ≡ None

-- all clones were run, none of their logs is beyond the limit, and these texts were put, each in one call; the steps
-- count each message that clones share once
pub record WritesAll (texts : Net → List Clone → List (List ℕ)) (before after : Outside) (a : AssignmentView) :
    Type 0 where
  pub net : Net
  pub stated : ScriptView
  pub study : IsStudy before.inputs.files a net stated
  pub within : AreWithin net (clones_of net stated)
  pub put : ArePut (texts net (clones_of net stated)) before.output after.output
  pub steps : after.steps ≡ before.steps + total_handled net (clones_of net stated) net.horizon

-- this part of the named clone was run alone, none of its logs is beyond the limit, and its text was put
pub record WritesOne (name : List ℕ) (part : Net → Clone → Clone) (written : Net → Clone → Result (List ℕ) Excess)
    (before after : Outside) (a : AssignmentView) : Type 0 where
  pub net : Net
  pub stated : ScriptView
  pub study : IsStudy before.inputs.files a net stated
  pub place : ℕ
  pub named : place_of name (clones_of net stated) ≡ Some place
  pub within : IsWithin net (part net (clone_at (clones_of net stated) place))
  pub text : List ℕ
  pub text_is : written net (clone_at (clones_of net stated) place) ≡ Ok text
  pub put : ArePut (text ∷ []) before.output after.output
  pub steps : after.steps ≡ before.steps + length (trace_of net (part net (clone_at (clones_of net stated) place)))

-- analysts decided and looked while all clones were run up to the horizon; the journal is legal, has exactly the
-- decisions of each analyst in order, and what was seen at each look is true; its text was put, and then what `run`
-- writes for the journal's clones
pub record WritesLive (before after : Outside) (a : AssignmentView) : Type 0 where
  pub net : Net
  pub stated : ScriptView
  pub read : IsReadStudy before.inputs.files a net stated
  pub book : BookView
  pub looks : List Looked
  pub journal : IsJournalOf net stated book
  pub at_horizon : (after_events net book.events).front ≡ net.horizon
  pub looks_are : AreLooks net stated book.events looks
  pub within : AreWithin net (after_events net book.events).clones
  pub put : ArePut
      (journal_text stated.analysts book.events looks ∷ run_texts net (after_events net book.events).clones)
      before.output after.output
  pub steps : after.steps ≡ before.steps + total_handled net (after_events net book.events).clones net.horizon

-- all clones were run in rounds, and none of their logs is beyond the limit; what `run` writes was put, followed by the
-- line with the number of rounds
pub record WritesLinked (before after : Outside) (a : AssignmentView) : Type 0 where
  pub net : Net
  pub stated : ScriptView
  pub study : IsStudy before.inputs.files a net stated
  pub rounds : ℕ
  pub are_rounds : AreAllRounds net rounds
  pub rounds_max : rounds ≤ net.horizon / net.lookahead + 1
  pub within : AreWithin net (clones_of net stated)
  pub put : ArePut (run_texts net (clones_of net stated) ++ rounds_line rounds ∷ []) before.output after.output
  pub steps : after.steps ≡ before.steps + total_handled net (clones_of net stated) net.horizon

-- all clones of the script and the branches of the watches were run, and none of their logs is beyond the limit; what
-- `run` writes was put, in the order of the watches
pub record WritesWatched (before after : Outside) (a : AssignmentView) : Type 0 where
  pub net : Net
  pub stated : ScriptView
  pub study : IsStudy before.inputs.files a net stated
  pub ws : List watch.Watch
  pub are_watches : watches (study.read.t Watches) ≡ Ok ws
  pub fits : fit net (clones_of net stated) ws ≡ Ok tt
  pub within : AreWithin net (clones_with_branches net (clones_of net stated) ws)
  pub put : ArePut (run_texts net (clones_with_branches net (clones_of net stated) ws)) before.output after.output
  pub steps : after.steps
      ≡ before.steps + total_handled net (clones_with_branches net (clones_of net stated) ws) net.horizon

-- the run of the snapshot's clone went on from the snapshot, no station handled more than the limit, and the trace was
-- put: the clone's name, the snapshot's lines, and those that follow
pub record WritesResumed (before after : Outside) (a : AssignmentView) : Type 0 where
  pub t : Text → List ℕ
  pub texts : AreTexts a before.inputs.files t
  pub net : Net
  pub is_model : model (t Model) ≡ Ok net
  pub x : SnapshotView
  pub is_snapshot : snapshot net (t Snapshot) ≡ Ok x
  pub stays : StaysOnward net x
  pub put : ArePut (resumed_text net x ∷ []) before.output after.output
  pub steps : after.steps ≡ before.steps + length (onward net x)

-- what a mode writes: the trace of one clone, the text of its snapshot, the texts of a run and the rounds, or the texts
-- of its row
abbrev pub WritesIn : Mode → Outside → Outside → AssignmentView → Type 0
WritesIn (Solo name) before after a = WritesOne name (λ net. whole) solo_text before after a
WritesIn (Save name time) before after a =
    WritesOne name (λ net. until net time) (λ net. saved_or_too_long net time) before after a
WritesIn Links before after a = WritesLinked before after a
WritesIn mode before after a = WritesAll (mode_texts mode) before after a

-- what is written: the texts of a study's mode; the journal of a live study and the texts of a run; with watches, the
-- texts of a run with their branches; or the trace of a resumed run
abbrev pub Writes : AssignmentView → Outside → Outside → Type 0
Writes (Study source mode) before after = WritesIn mode before after (Study source mode)
Writes (Live m s) before after = WritesLive before after (Live m s)
Writes (Watch m s w) before after = WritesWatched before after (Watch m s w)
Writes (Resume m x) before after = WritesResumed before after (Resume m x)

-- status 0: the whole output is written, and the error sink is unchanged
pub record IsWritten (words : Option AssignmentView) (before after : Outside) : Type 0 where
  pub a : AssignmentView
  pub asks : words ≡ Some a
  pub writes : Writes a before after
  pub fetches : AreCounted (all_fetches a) before.inputs.calls after.inputs.calls
  pub quiet : after.errors ≡ before.errors

-- status 3: a required text was not read
pub record IsUnreadFor (words : Option AssignmentView) (before after : Outside) : Type 0 where
  pub a : AssignmentView
  pub asks : words ≡ Some a
  pub text : Text
  pub due : IsDue a before.inputs.files text
  pub unread : IsUnread (InputsFailed before after) a before.inputs.files text

-- the cause of a status, with what is put before its error line: the study is not run, or a limit is exceeded after at
-- most as many messages as it allows
pub data IsCause (words : Option AssignmentView) (before after : Outside) : ℕ → List (List ℕ) → List ℕ → Type 0 where
  at_once : (a : AssignmentView) (stop : Stop) → words ≡ Some a
      → IsLawfulEnding before.inputs.files a (early_stop stop) → after.steps ≡ before.steps
      → IsCause words before after (stop_status stop) [] (stop_line stop)
  at_limit : (a : AssignmentView) (told : List (List ℕ)) (excess : Excess) → words ≡ Some a
      → IsExcessOf (IsLawfulEnding before.inputs.files a) before.steps after.steps told excess
      → IsCause words before after (excess_status excess) told (excess_line excess)

-- statuses from 4 except 8: the study is not run, or a limit is exceeded; an error line is put, and before it the
-- journal of a live study that met the limit
pub record IsStoppedFor (words : Option AssignmentView) (before after : Outside) (status : ℕ) : Type 0 where
  pub told : List (List ℕ)
  pub line : List ℕ
  pub cause : IsCause words before after status told line
  pub told_is : ArePutOrCut (told ++ line ∷ []) before.errors after.errors

-- status 8: a prefix of the output was written, and a write failed
pub record IsCutFor (words : Option AssignmentView) (before after : Outside) : Type 0 where
  pub a : AssignmentView
  pub asks : words ≡ Some a
  pub cut : IsStudyCut (IsLawfulEnding before.inputs.files a) before.steps after.steps before.output after.output

-- the decisions are made while the study runs
abbrev pub IsLive : AssignmentView → Type 0
IsLive (Study source mode) = ⊥
IsLive (Live m s) = Unit {0}
IsLive (Watch m s w) = ⊥
IsLive (Resume m x) = ⊥

-- what is put before the error line: nothing, or one text at the limit of a live study
abbrev pub ArePreceded : Option AssignmentView → ℕ → List (List ℕ) → Type 0
ArePreceded words status told = (told ≡ [])
    ⊎ ((status ≡ 7) × ((length told ≡ 1) × ((a : AssignmentView) × ((words ≡ Some a) × IsLive a))))

-- after any status except 0 an error line is put
pub record IsToldFor (words : Option AssignmentView) (before after : Outside) (status : ℕ) : Type 0 where
  pub told : List (List ℕ)
  pub refusal : Refusal
  pub is : status ≡ status_of refusal
  pub preceded : ArePreceded words status told
  pub told_is : ArePutOrCut (told ++ error_line refusal ∷ []) before.errors after.errors

-- the status of an ending: if it writes texts 0, or 8 if a write failed
abbrev pub IsStatusOf : Ending → Type 0 → ℕ → Type 0
IsStatusOf (whole_output texts work) output_failed status = (status ≡ 0) ⊎ ((status ≡ 8) × output_failed)
IsStatusOf (early_stop stop) output_failed status = status ≡ stop_status stop
IsStatusOf (overrun told excess most) output_failed status = status ≡ excess_status excess

-- if no input operation fails, the program runs out of memory, or reaches an allowed ending, or a required file is
-- known to be missing
abbrev pub Completes : Option AssignmentView → Outside → Outside → ℕ → Type 0
Completes None before after status = (status ≡ 1) ⊎ (status ≡ 2)
Completes (Some a) before after status = ¬ (InputsFailed before after)
    → (status ≡ 1)
    ⊎ (((status ≡ 3) × ((text : Text) × (IsDue a before.inputs.files text × IsUnread ⊥ a before.inputs.files text)))
    ⊎ ((end : Ending) × (IsLawfulEnding before.inputs.files a end
    × IsStatusOf end (HasRisen before.output.faults after.output.faults) status)))

-- the number of fetches for the words
abbrev pub fetches_for : Option AssignmentView → ℕ
fetches_for None = 0
fetches_for (Some a) = all_fetches a

-- at most this number of fetches was made
pub record AreFewFetches (words : Option AssignmentView) (before after : Outside) : Type 0 where
  pub fetches : ℕ
  pub at_most : fetches ≤ fetches_for words
  pub calls : AreCounted fetches before.inputs.calls after.inputs.calls
