-- Scripts and their texts.
use Rattle.std.specs.Prelude.{ℕ, zero, suc, ◌+◌, List, [], ◌∷◌, ◌++◌, codes, decimal}
use Rattle.std.specs.List.{flat_map}
use Rattle.sim_base.specs.declared.decision.Decision.TheVariants.{Fork, Set, End}
use Rattle.sim_base.specs.declared.message.Param.TheVariants.{Service, Room}
use Rattle.decision_script.specs.declared.item.Act.{Act}
use Rattle.decision_script.specs.declared.item.Act.TheVariants.{Decide, Look}
use Rattle.decision_script.specs.declared.item.Item.{Item}
use Rattle.decision_script.specs.Stating.{ScriptView}

-- lines, each with a line feed at its end
abbrev pub text_of_lines : List (List ℕ) → List ℕ
text_of_lines ls = flat_map (λ l. l ++ 10 ∷ []) ls

-- an item: the act of this analyst in this line
abbrev pub item_at : ℕ → ℕ → Act → Item
item_at line analyst act = record { line = line; analyst = analyst; act = act }

-- set WHO at TIME desk service A B
abbrev pub set_service : List ℕ → ℕ → ℕ → ℕ → Act
set_service who at a b = Decide (Set who at (codes "desk") (record { param = Service; a = a; b = b }))

-- two clones of the base, each with a faster desk
abbrev pub two_clones_text : List ℕ
two_clones_text = text_of_lines (codes "fork a from base" ∷ codes "fork b from base" ∷ codes
    "set a at 8 desk service 2 2" ∷ codes "set b at 8 desk service 2 2" ∷ [])

-- its script
abbrev pub two_clones : ScriptView
two_clones = record {
  analysts = codes "main" ∷ [];
  items = item_at 1 1 (Decide (Fork (codes "a") (codes "base")))
      ∷ item_at 2 1 (Decide (Fork (codes "b") (codes "base")))
      ∷ item_at 3 1 (set_service (codes "a") 8 2 2)
      ∷ item_at 4 1 (set_service (codes "b") 8 2 2) ∷ [];
}

-- the part of it that reaches the second clone
abbrev pub b_alone_text : List ℕ
b_alone_text = text_of_lines (codes "fork b from base" ∷ codes "set b at 8 desk service 2 2" ∷ [])

-- a clone of a clone: it inherits the first one's decisions before the fork
abbrev pub clone_of_clone_text : List ℕ
clone_of_clone_text = text_of_lines (codes "fork a from base" ∷ codes "set a at 8 desk service 2 2" ∷ codes
    "fork b from a" ∷ codes "set a at 9 desk service 3 3" ∷ codes "look b desk" ∷ codes "end b at 12" ∷ [])

-- its script, with a look among the items
abbrev pub clone_of_clone : ScriptView
clone_of_clone = record {
  analysts = codes "main" ∷ [];
  items = item_at 1 1 (Decide (Fork (codes "a") (codes "base")))
      ∷ item_at 2 1 (set_service (codes "a") 8 2 2)
      ∷ item_at 3 1 (Decide (Fork (codes "b") (codes "a")))
      ∷ item_at 4 1 (set_service (codes "a") 9 3 3)
      ∷ item_at 5 1 (Look (codes "b") (codes "desk"))
      ∷ item_at 6 1 (Decide (End (codes "b") 12)) ∷ [];
}

-- the part of it that reaches the second clone: neither the later set of the first nor the look
abbrev pub clone_of_clone_alone_text : List ℕ
clone_of_clone_alone_text = text_of_lines
    (codes "fork a from base" ∷ codes "set a at 8 desk service 2 2" ∷ codes "fork b from a" ∷ codes "end b at 12" ∷ [])

-- two analysts, and a comment
abbrev pub two_planners_text : List ℕ
two_planners_text = text_of_lines (codes "# two planners" ∷ codes "fork fast from base" ∷ codes "analyst ben" ∷ codes
    "look   fast desk" ∷ [])

-- its script: each item has its own analyst
abbrev pub two_planners : ScriptView
two_planners = record {
  analysts = codes "main" ∷ codes "ben" ∷ [];
  items = item_at 2 1 (Decide (Fork (codes "fast") (codes "base"))) ∷ item_at 4 2
      (Look (codes "fast") (codes "desk")) ∷ [];
}

-- its canonical text: a section line at the top for the second analyst, and one before each item
abbrev pub two_planners_canonical : List ℕ
two_planners_canonical = text_of_lines
    (codes "analyst ben" ∷ codes "analyst main" ∷ codes "fork fast from base" ∷ codes "analyst ben" ∷ codes
    "look fast desk" ∷ [])

-- carriage returns, an empty line, tabs, a section, and a last line without a line feed
abbrev pub loose_text : List ℕ
loose_text = codes "fork fast from base\r\n\n\tanalyst \t ada\r\n# set\n\tset fast at 8 desk  room 7 \r"

-- its script
abbrev pub loose : ScriptView
loose = record {
  analysts = codes "main" ∷ codes "ada" ∷ [];
  items = item_at 1 1 (Decide (Fork (codes "fast") (codes "base")))
      ∷ item_at 5 2 (Decide (Set (codes "fast") 8 (codes "desk") (record { param = Room; a = 7; b = 0 }))) ∷ [];
}

-- the script with one end, at the greatest number
abbrev pub late_end : ScriptView
late_end = record {
  analysts = codes "main" ∷ [];
  items = item_at 1 1 (Decide (End (codes "base") 4294967295)) ∷ [];
}

-- sections of `n` analysts, `x1` and so on, the last first
abbrev pub sections : ℕ → List ℕ
sections zero = []
sections (suc n) = codes "analyst x" ++ decimal (n + 1) ++ 10 ∷ sections n
