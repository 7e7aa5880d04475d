-- The decisions of a script that reach one clone.
use Rattle.std.specs.Prelude.{◌≡◌, ℕ, Bool, true, false, List, [], ◌∷◌}
use Rattle.std.specs.Str.{bytes_eq}
use Rattle.sim_base.specs.declared.decision.Decision.{Decision}
use Rattle.sim_base.specs.declared.decision.Decision.TheVariants.{Fork, Set, End}
use Rattle.sim_base.specs.Decisions.{subject}
use Rattle.decision_script.specs.declared.item.Act.{Act}
use Rattle.decision_script.specs.declared.item.Act.TheVariants.{Decide, Look}
use Rattle.decision_script.specs.declared.item.Item.{Item}
use Rattle.decision_script.specs.Stating.{ScriptView}

-- the clone that a decision makes or changes
abbrev pub changed_clone : Decision → List ℕ
changed_clone (Fork new old) = new
changed_clone (Set who at station change) = who
changed_clone (End who at) = who

-- one decision before the others: if it belongs to them, the clone before it is the one that it is about
abbrev pub history_if : {A : Type 0} → Bool → A → List ℕ → List ℕ × List A → List ℕ × List A
history_if true x target later = (target, x ∷ later.1)
history_if false x target later = later

-- the history of a clone: the clone that it was before these decisions, and those that it has. Each of these changes
-- the clone of that time
abbrev pub history : List ℕ → List Decision → List ℕ × List Decision
history who [] = (who, [])
history who (d ∷ ds) = history_if (bytes_eq (changed_clone d) (history who ds).0) d (subject d) (history who ds)

-- the decisions that reach the clone
abbrev pub alone : List ℕ → List Decision → List Decision
alone who ds = (history who ds).1

-- the history with one item before others: a look is left out, a decision keeps its line and analyst
abbrev pub act_history : Item → Act → List ℕ × List Item → List ℕ × List Item
act_history item (Decide d) later = history_if (bytes_eq (changed_clone d) later.0) item (subject d) later
act_history item (Look who station) later = later

-- the history of a clone over items
abbrev pub item_history : List ℕ → List Item → List ℕ × List Item
item_history who [] = (who, [])
item_history who (i ∷ is) = act_history i i.act (item_history who is)

-- the script with only these items; the analysts do not change
abbrev pub alone_of : ScriptView → List ℕ → ScriptView
alone_of s who = record s { items = (item_history who s.items).1 }

-- the decision of an act put before others; a look adds none
abbrev pub decisions_onto : Act → List Decision → List Decision
decisions_onto (Decide d) ds = d ∷ ds
decisions_onto (Look who station) ds = ds

-- the decisions among the items, in order
abbrev pub decisions : List Item → List Decision
decisions [] = []
decisions (i ∷ is) = decisions_onto i.act (decisions is)

-- the decisions of the clone's own script are those of the whole script that reach the clone
abbrev pub AloneIsOfDecisions : Type 0
AloneIsOfDecisions = (s : ScriptView) (who : List ℕ) → decisions (alone_of s who).items ≡ alone who (decisions s.items)
