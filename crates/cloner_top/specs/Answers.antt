-- The program's result: its exit status, and what it did to files and sinks.
use Rattle.std.specs.Prelude.{◌≡◌, ℕ, List, [], ◌∷◌, ◌++◌, Option, Some, None, option_map}
use Rattle.sim_outer.specs.Counts.{AreCounted, HasRisen}
use Rattle.sim_outer.specs.Files.{Files}
use Rattle.sim_outer.specs.Views.{InputsView, SinkView}
use Rattle.command_words.specs.Requests.{AssignmentView, form}
use Rattle.cloner_top.specs.declared.excess.Excess.{Excess}
use Rattle.cloner_top.specs.declared.halt.Halt.{Halt}
use Rattle.cloner_top.specs.declared.halt.Halt.TheVariants.{Refused, Overrun}
use Rattle.cloner_top.specs.declared.refusal.Refusal.{Refusal}
use Rattle.cloner_top.specs.declared.refusal.Refusal.TheVariants.{OutOfMemory, Usage, NotRead}
use Rattle.cloner_top.specs.declared.refusal.Refusal.TheVariants.{Stopped, Exceeded, CannotWrite}
use Rattle.cloner_top.specs.declared.refusal.Text.{Text}
use Rattle.cloner_top.specs.declared.stop.Stop.{Stop}
use Rattle.cloner_top.specs.Endings.{Ending, IsExcessOf, MayEndByTexts, early_stop}
use Rattle.cloner_top.specs.Outsides.{ArePutOrCut, IsFailed, IsHalted, IsStudyCut, IsStudyPut}
use Rattle.cloner_top.specs.Refusals.{error_line}
use Rattle.cloner_top.specs.Stops.{excess_status, stop_status}
use Rattle.cloner_top.specs.Texts.{AreTexts, IsDue, IsUnread, all_fetches}

-- the assignment of the words, if the command line has a known form
abbrev pub assignment_of : List (List ℕ) → Option AssignmentView
assignment_of words = option_map (λ r. r.assignment) (form words)

-- the inputs, the output, the error sink, and the number of messages handled
pub record Outside : Type 0 where
  pub inputs : InputsView
  pub output : SinkView
  pub errors : SinkView
  pub steps : ℕ

-- these inputs and sinks, with the number of messages handled
abbrev pub outside_of : InputsView → SinkView → SinkView → ℕ → Outside
outside_of inputs output errors steps = record { inputs = inputs; output = output; errors = errors; steps = steps }

-- an ending that the assignment allows, for texts that agree with the known files
pub record IsLawfulEnding (files : Option Files) (a : AssignmentView) (end : Ending) : Type 0 where
  pub t : Text → List ℕ
  pub texts : AreTexts a files t
  pub may : MayEndByTexts a t end

-- the output is unchanged, and an error line is put after the texts `told`
pub record IsRefused (before after : Outside) (told : List (List ℕ)) (refusal : Refusal) : Type 0 where
  pub output : after.output ≡ before.output
  pub told_is : ArePutOrCut (told ++ error_line refusal ∷ []) before.errors after.errors

-- an input operation failed
abbrev pub InputsFailed : Outside → Outside → Type 0
InputsFailed before after = HasRisen before.inputs.faults after.inputs.faults

-- how the program ends, by its status
pub data IsAnswer (words : Option AssignmentView) (before after : Outside) : ℕ → Type 0 where
  -- everything is written: each text is put once, and each file is fetched once
  success : (a : AssignmentView) → words ≡ Some a
      → IsStudyPut (IsLawfulEnding before.inputs.files a) before.steps after.steps before.output after.output
      → AreCounted (all_fetches a) before.inputs.calls after.inputs.calls → after.errors ≡ before.errors
      → IsAnswer words before after 0
  -- out of memory
  memory : IsRefused before after [] OutOfMemory → IsAnswer words before after 1
  -- the command line has no known form; nothing is fetched
  usage : words ≡ None → IsRefused before after [] Usage → after.inputs ≡ before.inputs → after.steps ≡ before.steps
      → IsAnswer words before after 2
  -- a required text was not read
  unread : (a : AssignmentView) (text : Text) → words ≡ Some a → IsDue a before.inputs.files text
      → IsUnread (InputsFailed before after) a before.inputs.files text
      → IsRefused before after [] (NotRead text) → after.steps ≡ before.steps → IsAnswer words before after 3
  -- the study is not run
  stopped : (a : AssignmentView) (stop : Stop) → words ≡ Some a
      → IsLawfulEnding before.inputs.files a (early_stop stop) → IsRefused before after [] (Stopped stop)
      → after.steps ≡ before.steps → IsAnswer words before after (stop_status stop)
  -- a limit is exceeded; the journal of a live study is put before the error line
  exceeded : (a : AssignmentView) (told : List (List ℕ)) (excess : Excess) → words ≡ Some a
      → IsExcessOf (IsLawfulEnding before.inputs.files a) before.steps after.steps told excess
      → IsRefused before after told (Exceeded excess) → IsAnswer words before after (excess_status excess)
  -- the output was cut off
  cut : (a : AssignmentView) → words ≡ Some a
      → IsStudyCut (IsLawfulEnding before.inputs.files a) before.steps after.steps before.output after.output
      → ArePutOrCut (error_line CannotWrite ∷ []) before.errors after.errors → IsAnswer words before after 8

-- why the assignment's output was not written
abbrev pub IsFailedFor : Type 0 → Option Files → AssignmentView → ℕ → ℕ → SinkView → SinkView → Refusal → Type 0
IsFailedFor rose files a old_steps new_steps old new (NotRead text) =
    IsDue a files text × IsUnread rose a files text × (new ≡ old) × (new_steps ≡ old_steps)
IsFailedFor rose files a old_steps new_steps old new refusal =
    IsFailed (IsLawfulEnding files a) old_steps new_steps old new refusal

-- the same, with what is put before the error line
abbrev pub IsHaltedFor : Type 0 → Option Files → AssignmentView → ℕ → ℕ → SinkView → SinkView → Halt → Type 0
IsHaltedFor rose files a old_steps new_steps old new (Refused refusal) =
    IsFailedFor rose files a old_steps new_steps old new refusal
IsHaltedFor rose files a old_steps new_steps old new (Overrun journal excess) =
    IsHalted (IsLawfulEnding files a) old_steps new_steps old new (Overrun journal excess)
