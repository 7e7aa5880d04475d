-- The laws of canonical texts.
use Rattle.std.specs.Prelude.{ℕ, ◌≡◌, map, Ok}
use Rattle.decision_script.specs.declared.item.Act.{Act}
use Rattle.decision_script.specs.declared.item.Item.{Item}
use Rattle.decision_script.specs.Stating.{ScriptView, IsScript}
use Rattle.decision_script.specs.Reading.{script}
use Rattle.decision_script.specs.Printing.{canonical_text}

-- an item without the number of its line
abbrev pub without_line : Item → ℕ × Act
without_line item = (item.analyst, item.act)

-- the script that is read again: the same except for the line numbers
pub record ReadAgain (s : ScriptView) : Type 0 where
  pub again : ScriptView
  pub read : script (canonical_text s) ≡ Ok again
  pub analysts : again.analysts ≡ s.analysts
  pub items : map without_line again.items ≡ map without_line s.items

-- the canonical text of every script is read as that script
abbrev pub CanonicalTextReadsAgain : Type 0
CanonicalTextReadsAgain = (s : ScriptView) → IsScript s → ReadAgain s
