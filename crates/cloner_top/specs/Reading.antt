-- Texts that are fetched and read, and the errors in them.
use Rattle.std.specs.Prelude.{◌≡◌, ℕ, List, [], Option, Ok, Err}
use Rattle.sim_base.specs.Clones.{Clone}
use Rattle.sim_outer.specs.Files.{Files}
use Rattle.net_model.specs.Net.{Net}
use Rattle.net_model.specs.Text.{model}
use Rattle.decision_script.specs.Printing.{canonical_text}
use Rattle.decision_script.specs.Reading.{script}
use Rattle.decision_script.specs.Stating.{ScriptView}
use Rattle.study_generator.specs.Scripts.{made_script}
use Rattle.study_generator.specs.Texts.{model_text}
use Rattle.watch_points.specs.Checking.{fit}
use Rattle.watch_points.specs.Reading.{watches}
use Rattle.watch_points.specs.declared.watch.Watch.{Watch}
use Rattle.snapshot_text.specs.Reading.{snapshot}
use Rattle.command_words.specs.Requests.{AssignmentView}
use Rattle.cloner_top.specs.declared.reading.Origin as code
use Rattle.cloner_top.specs.declared.reading.Origin.TheVariants as from
use Rattle.cloner_top.specs.declared.refusal.Refusal.{Refusal}
use Rattle.cloner_top.specs.declared.refusal.Refusal.TheVariants.{NotRead, OutOfMemory, Stopped}
use Rattle.cloner_top.specs.declared.refusal.Text.{Text}
use Rattle.cloner_top.specs.declared.refusal.Text.TheVariants.{Model, Script, Snapshot, Watches}
use Rattle.cloner_top.specs.declared.stop.Stop.{Stop}
use Rattle.cloner_top.specs.declared.stop.Stop.TheVariants.{BadModel, BadScript, BadSnapshot, BadWatch, BadWatches}
use Rattle.cloner_top.specs.Texts.{IsTextOf, IsUnread, Origin, in_file, made, not_asked}

-- the text that is generated from a number: a model or a script
abbrev pub made_text : Text → ℕ → List ℕ
made_text Model n = model_text n
made_text Script n = canonical_text made_script
made_text Watches n = []
made_text Snapshot n = []

-- the source of a text, as plain data
abbrev pub origin_view : code.Origin → Text → Origin
origin_view (from.InFile name) text = in_file name.now
origin_view (from.Made number) text = made (made_text text number)
origin_view from.NotAsked text = not_asked

-- out of memory, or the text was not read
abbrev pub IsNotFetched : Type 0 → AssignmentView → Option Files → Text → Refusal → Type 0
IsNotFetched rose a files text OutOfMemory = Unit {0}
IsNotFetched rose a files text (NotRead which) = (which ≡ text) × IsUnread rose a files text
IsNotFetched rose a files text refusal = ⊥

-- the model rule that a text breaks
abbrev pub IsBadModel : List ℕ → Stop → Type 0
IsBadModel text (BadModel fault) = model text ≡ Err fault
IsBadModel text stop = ⊥

-- the script rule that a text breaks
abbrev pub IsBadScript : List ℕ → Stop → Type 0
IsBadScript text (BadScript fault) = script text ≡ Err fault
IsBadScript text stop = ⊥

-- the rule of watches that a text breaks
abbrev pub IsBadWatches : List ℕ → Stop → Type 0
IsBadWatches text (BadWatches fault) = watches text ≡ Err fault
IsBadWatches text stop = ⊥

-- the rule of snapshots that a text breaks
abbrev pub IsBadSnapshot : Net → List ℕ → Stop → Type 0
IsBadSnapshot net text (BadSnapshot fault) = snapshot net text ≡ Err fault
IsBadSnapshot net text stop = ⊥

-- the first watch that does not fit
abbrev pub IsBadWatch : Net → List Clone → List Watch → Stop → Type 0
IsBadWatch net clones ws (BadWatch reply line) = fit net clones ws ≡ Err (record { line = line; reply = reply })
IsBadWatch net clones ws stop = ⊥

-- the model's text is this model
pub record IsModelOf (a : AssignmentView) (files : Option Files) (net : Net) : Type 0 where
  pub m : List ℕ
  pub text : IsTextOf a files Model m
  pub is_model : model m ≡ Ok net

-- the script's text is this script
pub record IsScriptOf (a : AssignmentView) (files : Option Files) (stated : ScriptView) : Type 0 where
  pub s : List ℕ
  pub text : IsTextOf a files Script s
  pub is_script : script s ≡ Ok stated

-- the script's text is not a script, which this stop reports
pub record IsNoScriptOf (a : AssignmentView) (files : Option Files) (stop : Stop) : Type 0 where
  pub s : List ℕ
  pub text : IsTextOf a files Script s
  pub is_bad : IsBadScript s stop

-- why there is no script
abbrev pub IsUnscripted : Type 0 → AssignmentView → Option Files → Refusal → Type 0
IsUnscripted rose a files OutOfMemory = Unit {0}
IsUnscripted rose a files (NotRead text) = (text ≡ Script) × IsUnread rose a files Script
IsUnscripted rose a files (Stopped stop) = IsNoScriptOf a files stop
IsUnscripted rose a files refusal = ⊥
