-- The part of a file that a fetch returns is read as the whole file is.
use Rattle.std.specs.Prelude.{◌≡◌, ℕ, List}
use Rattle.sim_outer.specs.Files.{prefix_of}
use Rattle.net_model.specs.Text.{model}
use Rattle.decision_script.specs.Reading.{script}
use Rattle.watch_points.specs.Reading.{watches}
use Rattle.net_model.specs.Net.{Net}
use Rattle.snapshot_text.specs.Reading.{snapshot}

-- the bytes that a fetch returns are read as the same model, script, watches and snapshot as the whole file
pub record StatesTheSame (file : List ℕ) : Type 0 where
  pub model_is : model (prefix_of file) ≡ model file
  pub script_is : script (prefix_of file) ≡ script file
  pub watches_are : watches (prefix_of file) ≡ watches file
  pub snapshot_is : (net : Net) → snapshot net (prefix_of file) ≡ snapshot net file

-- this holds for each file, however long
abbrev pub PrefixesStateTheSame : Type 0
PrefixesStateTheSame = (file : List ℕ) → StatesTheSame file
