-- The canonical text of a script.
use Rattle.std.specs.Prelude.{ℕ, ◌==◌, codes, if◌then◌else◌, List, [], ◌∷◌, ◌++◌, length, map, drop, decimal}
use Rattle.std.specs.List.{join_with_byte, flat_map}
use Rattle.sim_base.specs.declared.decision.Decision.{Decision}
use Rattle.sim_base.specs.declared.decision.Decision.TheVariants.{Fork, Set, End}
use Rattle.sim_base.specs.Params.{words_of_change}
use Rattle.decision_script.specs.declared.item.Act.{Act}
use Rattle.decision_script.specs.declared.item.Act.TheVariants.{Decide, Look}
use Rattle.decision_script.specs.declared.item.Item.{Item}
use Rattle.decision_script.specs.Stating.{ScriptView, analyst_name}

-- the words of a decision's line
abbrev pub words_of_decision : Decision → List (List ℕ)
words_of_decision (Fork new old) = codes "fork" ∷ new ∷ codes "from" ∷ old ∷ []
words_of_decision (Set who at station change) =
    codes "set" ∷ who ∷ codes "at" ∷ decimal at ∷ station ∷ words_of_change change.param change.a change.b
words_of_decision (End who at) = codes "end" ∷ who ∷ codes "at" ∷ decimal at ∷ []

-- the words of an item's line: of a decision, or of a look
abbrev pub words_of_act : Act → List (List ℕ)
words_of_act (Decide decision) = words_of_decision decision
words_of_act (Look who station) = codes "look" ∷ who ∷ station ∷ []

-- the words of the line that begins an analyst's section
abbrev pub words_of_section : List ℕ → List (List ℕ)
words_of_section name = codes "analyst" ∷ name ∷ []

-- the section line before an item whose analyst is not the current one
abbrev pub section_before : List (List ℕ) → ℕ → Item → List (List (List ℕ))
section_before analysts force i =
    if i.analyst == force then [] else words_of_section (analyst_name analysts i.analyst) ∷ []

-- the lines of the items, with this current analyst before them
abbrev pub item_lines : List (List ℕ) → ℕ → List Item → List (List (List ℕ))
item_lines analysts force [] = []
item_lines analysts force (i ∷ is) =
    section_before analysts force i ++ (words_of_act i.act ∷ item_lines analysts i.analyst is)

-- a section line for each analyst from the second on, then the items
abbrev pub script_lines : ScriptView → List (List (List ℕ))
script_lines s = map words_of_section (drop 1 s.analysts) ++ item_lines s.analysts (length s.analysts) s.items

-- words with one space between them, and a line feed
abbrev pub line_text : List (List ℕ) → List ℕ
line_text words = join_with_byte 32 words ++ 10 ∷ []

-- the most bytes of an item's line together with a section line before it
abbrev pub longest_item : ℕ
longest_item = 172

-- the canonical text of a script: its lines, one after another
unfoldable pub canonical_text : ScriptView → List ℕ
canonical_text s = flat_map line_text (script_lines s)
