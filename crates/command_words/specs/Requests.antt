-- The request of a command line.
use Rattle.std.specs.Prelude.{◌≡◌, ◌&&◌, ℕ, Bool, true, false, codes, if◌then◌else◌, List}
use Rattle.std.specs.Prelude.{[], ◌∷◌, Option, Some, None, option_map, option_and_then}
use Rattle.std.specs.Str.{bytes_eq}
use Rattle.sim_base.specs.Names.{is_name}
use Rattle.command_words.specs.declared.request.Assignment.{Assignment}
use Rattle.command_words.specs.declared.request.Assignment.TheVariants as task
use Rattle.command_words.specs.declared.request.Mode.{Mode}
use Rattle.command_words.specs.declared.request.Mode.TheVariants.{Links, Report, Run, Save, Solo, Stats}
use Rattle.command_words.specs.declared.request.Request.{Request}
use Rattle.command_words.specs.declared.request.Source.{Source}
use Rattle.command_words.specs.declared.request.Source.TheVariants as origin
use Rattle.command_words.specs.declared.request.TheConstants.{MAX_STUDY, MAX_UNTIL, MAX_WORKERS}
use Rattle.command_words.specs.Numbers.{number_in}
use Rattle.command_words.specs.Rules.{values}
use Rattle.command_words.specs.Values.{GivenView}

-- the source of the model and the script: two files by their names, or a number from which both are generated
pub data SourceView : Type 0 where
  FileNames : List ℕ → List ℕ → SourceView
  Number : ℕ → SourceView

-- an assignment: what to do, without the number of workers
pub data AssignmentView : Type 0 where
  -- a study of a model and a script in a mode
  Study : SourceView → Mode → AssignmentView
  -- a study of two files, the model and the script, while analysts decide
  Live : List ℕ → List ℕ → AssignmentView
  -- a study of three files, the third with watches
  Watch : List ℕ → List ℕ → List ℕ → AssignmentView
  -- the rest of a clone's run, from two files, the model and a snapshot of the clone
  Resume : List ℕ → List ℕ → AssignmentView

-- what to do, and with how many workers
pub record RequestView : Type 0 where
  pub assignment : AssignmentView
  pub workers : ℕ

-- ---- a request as plain data

-- the source of a study's texts, as plain data
abbrev pub source_view : Source → SourceView
source_view (origin.FileNames model script) = FileNames model.now script.now
source_view (origin.Number number) = Number number

-- an assignment as plain data
abbrev pub assignment_view : Assignment → AssignmentView
assignment_view (task.Study source mode) = Study (source_view source) mode
assignment_view (task.Live model script) = Live model.now script.now
assignment_view (task.Watch model script watches) = Watch model.now script.now watches.now
assignment_view (task.Resume model snapshot) = Resume model.now snapshot.now

-- a request as plain data
abbrev pub request_view : Request → RequestView
request_view r = record { assignment = assignment_view r.assignment; workers = r.workers }

-- ---- the values of options and positionals

-- a positional is not empty
abbrev pub is_text : List ℕ → Bool
is_text [] = false
is_text (b ∷ bs) = true

-- 1 to `MAX_WORKERS`, and 1 if there is no such option
abbrev pub workers_of : Option (List ℕ) → Option ℕ
workers_of None = Some 1
workers_of (Some word) = number_in 1 MAX_WORKERS word

-- a word as a name
abbrev pub name_of : List ℕ → Option (List ℕ)
name_of word = if is_name word then Some word else None

-- the number of workers, if there is no other option
abbrev pub workers_alone : Option (List ℕ) → Option (List ℕ) → Option (List ℕ) → Option ℕ
workers_alone workers None None = workers_of workers
workers_alone workers (Some clone) until = None
workers_alone workers None (Some until) = None

-- the name of the clone, if there is no other option
abbrev pub clone_alone : Option (List ℕ) → Option (List ℕ) → Option (List ℕ) → Option (List ℕ)
clone_alone None (Some clone) None = name_of clone
clone_alone _ _ _ = None

-- the clone to save and the time, if there is no other option
abbrev pub saving : Option (List ℕ) → Option (List ℕ) → Option (List ℕ) → Option Mode
saving None (Some clone) (Some until) =
    option_and_then (λ name. option_map (Save name) (number_in 0 MAX_UNTIL until)) (name_of clone)
saving _ _ _ = None

-- there is no option
abbrev pub none_given : Option (List ℕ) → Option (List ℕ) → Option (List ℕ) → Bool
none_given None None None = true
none_given _ _ _ = false

-- ---- the forms

-- a study with this number of workers
abbrev pub study_of : SourceView → Mode → ℕ → RequestView
study_of source mode workers = record { assignment = Study source mode; workers = workers }

-- a live study with this number of workers
abbrev pub live_by : List ℕ → List ℕ → ℕ → RequestView
live_by model script workers = record { assignment = Live model script; workers = workers }

-- a study with watches, with this number of workers
abbrev pub watch_by : List ℕ → List ℕ → List ℕ → ℕ → RequestView
watch_by model script watches workers = record { assignment = Watch model script watches; workers = workers }

-- the request, if neither file name is empty
abbrev pub if_named : List ℕ → List ℕ → Option RequestView → Option RequestView
if_named first second request = if is_text first && is_text second then request else None

-- `run MODEL SCRIPT [--workers N]`, and the same for `stats` and `links`
abbrev pub study_form : Mode → List ℕ → List ℕ → GivenView → Option RequestView
study_form mode model script v = if_named model script
    (option_map (study_of (FileNames model script) mode) (workers_alone v.workers v.clone v.until))

-- `live MODEL SCRIPT [--workers N]`
abbrev pub live_form : List ℕ → List ℕ → GivenView → Option RequestView
live_form model script v = if_named model script
    (option_map (live_by model script) (workers_alone v.workers v.clone v.until))

-- `solo MODEL SCRIPT --clone NAME`
abbrev pub solo_form : List ℕ → List ℕ → GivenView → Option RequestView
solo_form model script v = if_named model script
    (option_map (λ name. study_of (FileNames model script) (Solo name) 1) (clone_alone v.workers v.clone v.until))

-- `save MODEL SCRIPT --clone NAME --until T`
abbrev pub save_form : List ℕ → List ℕ → GivenView → Option RequestView
save_form model script v = if_named model script
    (option_map (λ mode. study_of (FileNames model script) mode 1) (saving v.workers v.clone v.until))

-- `resume MODEL SNAPSHOT`
abbrev pub resume_form : List ℕ → List ℕ → GivenView → Option RequestView
resume_form model snapshot v = if_named model snapshot
    (if none_given v.workers v.clone v.until
    then Some (record { assignment = Resume model snapshot; workers = 1 })
    else None)

-- `watch MODEL SCRIPT WATCHES [--workers N]`
abbrev pub watch_form : List ℕ → List ℕ → List ℕ → GivenView → Option RequestView
watch_form model script watches v =
    if is_text watches then if_named model script
    (option_map (watch_by model script watches) (workers_alone v.workers v.clone v.until))
    else None

-- `gen NUMBER [--workers N]`
abbrev pub gen_form : List ℕ → GivenView → Option RequestView
gen_form number v =
    option_and_then (λ n. option_map (study_of (Number n) Report) (workers_alone v.workers v.clone v.until))
    (number_in 1 MAX_STUDY number)

-- the mode with one more positional
abbrev pub form_of_one : List ℕ → List ℕ → GivenView → Option RequestView
form_of_one mode number v = if bytes_eq mode (codes "gen") then gen_form number v else None

-- the modes with two more positionals; a later mode of two files adds one `else if`
abbrev pub form_of_two : List ℕ → List ℕ → List ℕ → GivenView → Option RequestView
form_of_two mode first second v =
    if bytes_eq mode (codes "run") then study_form Run first second v
    else if bytes_eq mode (codes "solo") then solo_form first second v
    else if bytes_eq mode (codes "live") then live_form first second v
    else if bytes_eq mode (codes "stats") then study_form Stats first second v
    else if bytes_eq mode (codes "save") then save_form first second v
    else if bytes_eq mode (codes "resume") then resume_form first second v
    else if bytes_eq mode (codes "links") then study_form Links first second v
    else None

-- the mode with three more positionals
abbrev pub form_of_three : List ℕ → List ℕ → List ℕ → List ℕ → GivenView → Option RequestView
form_of_three mode first second third v =
    if bytes_eq mode (codes "watch") then watch_form first second third v else None

-- the first positional is the mode, and the mode determines how many follow
abbrev pub by_positionals : List (List ℕ) → GivenView → Option RequestView
by_positionals (mode ∷ first ∷ []) v = form_of_one mode first v
by_positionals (mode ∷ first ∷ second ∷ []) v = form_of_two mode first second v
by_positionals (mode ∷ first ∷ second ∷ third ∷ []) v = form_of_three mode first second third v
by_positionals _ v = None

-- the request of the values, None if they have no known form
abbrev pub form_of : GivenView → Option RequestView
form_of v = by_positionals v.positionals v

-- the request of the words, None if the command line has no known form
abbrev pub form : List (List ℕ) → Option RequestView
form words = option_and_then form_of (values words)

-- a study whose texts are generated from a number writes the report only
abbrev pub MadeIsReported : Type 0
MadeIsReported = (words : List (List ℕ)) (r : RequestView) (number : ℕ) (mode : Mode) → form words ≡ Some r
    → r.assignment ≡ Study (Number number) mode → mode ≡ Report
