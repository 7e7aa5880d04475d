-- A clone's own script has the decisions that reach the clone, and writes what the whole script does.
use Rattle.std.specs.Prelude.{◌≡◌, ◌↔◌, ℕ, List, None}
use Rattle.net_model.specs.Net.{Net}
use Rattle.decision_script.specs.Alone.{alone_of}
use Rattle.decision_script.specs.Stating.{ScriptView}
use Rattle.command_words.specs.declared.request.Mode.TheVariants.{Solo}
use Rattle.cloner_top.specs.Deciding.{first_refused}
use Rattle.cloner_top.specs.Endings.{Ending, MayEnd}

-- if all decisions of a script are accepted, `solo` has the same possible endings with the clone's own script as with
-- the whole script
abbrev pub OwnScriptWritesTheSame : Type 0
OwnScriptWritesTheSame = (net : Net) (s : ScriptView) (who : List ℕ) (end : Ending)
    → first_refused net s ≡ None
    → MayEnd (Solo who) net (alone_of s who) end ↔ MayEnd (Solo who) net s end
