-- Clones that words can say: what the text of a script gives to its clones.
use Rattle.std.specs.Prelude.{◌≡◌, List, true}
use Rattle.std.specs.List.{AllByRecursion}
use Rattle.sim_base.specs.Clones.{Clone}
use Rattle.sim_base.specs.Names.{is_name}
use Rattle.net_model.specs.Net.{Net}
use Rattle.decision_script.specs.Alone.{decisions}
use Rattle.decision_script.specs.Stating.{IsScript, ScriptView}
use Rattle.decision_book.specs.Scripts.{lists_of}
use Rattle.checkpoint.specs.Due.{is_sayable}

-- words can say the clone's name and its changes
pub record IsSayable (c : Clone) : Type 0 where
  pub name : is_name c.name ≡ true
  pub changes : AllByRecursion (λ p. is_sayable p.change ≡ true) c.plans

-- and those of all clones
abbrev pub AreSayable : List Clone → Type 0
AreSayable clones = AllByRecursion IsSayable clones

-- the clones after the decisions of a script are such clones
abbrev pub ScriptsAreSayable : Type 0
ScriptsAreSayable = (net : Net) (s : ScriptView) → IsScript s → AreSayable (lists_of net (decisions s.items))
