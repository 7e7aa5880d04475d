-- The decisions of a clone's own script.
use Rattle.std.proofs.Common.{◌≡◌, ℕ, Bool, true, false, List, [], ◌∷◌, refl, ap, ◌∙◌, subst}
use Rattle.std.specs.Str.{bytes_eq}
use Rattle.sim_base.specs.declared.decision.Decision.{Decision}
use Rattle.sim_base.specs.Decisions.{subject}
use Rattle.decision_script.specs.declared.item.Act.{Act}
use Rattle.decision_script.specs.declared.item.Act.TheVariants.{Decide, Look}
use Rattle.decision_script.specs.declared.item.Item.{Item}
use Rattle.decision_script.specs.Alone.{changed_clone, history_if, history, act_history}
use Rattle.decision_script.specs.Alone.{item_history, decisions, decisions_onto, AloneIsOfDecisions}

-- ---- histories of items and of decisions

-- the clone that two histories go back to is the same, and so are their decisions
record Agree (items : List ℕ × List Item) (own : List ℕ × List Decision) : Type 0 where
  pub target : items.0 ≡ own.0
  pub list : decisions items.1 ≡ own.1

-- so they are with one decision before them, or without
history_if-agree : (b : Bool) (item : Item) (d : Decision) (target : List ℕ) (items : List ℕ × List Item)
    (own : List ℕ × List Decision)
    → item.act ≡ Decide d → Agree items own → Agree (history_if b item target items) (history_if b d target own)
history_if-agree true item d target items own is h =
    record { target = refl; list = ap (λ a. decisions_onto a (decisions items.1)) is ∙ ap (λ ds. d ∷ ds) h.list }
history_if-agree false item d target items own is h = h

-- and by the act of an item
act_history-agree : (item : Item) (act : Act) (items : List ℕ × List Item) (who : List ℕ) (ds : List Decision)
    → item.act ≡ act → Agree items (history who ds)
    → Agree (act_history item act items) (history who (decisions_onto act ds))
act_history-agree item (Decide d) items who ds is h =
    subst (λ t. Agree (act_history item (Decide d) items)
    (history_if (bytes_eq (changed_clone d) t) d (subject d) (history who ds))) h.target
    (history_if-agree (bytes_eq (changed_clone d) items.0) item d (subject d) items (history who ds) is h)
act_history-agree item (Look look station) items who ds is h = h

-- so they are for all items
item_history-agree : (who : List ℕ) (items : List Item) → Agree (item_history who items) (history who (decisions items))
item_history-agree who [] = record { target = refl; list = refl }
item_history-agree who (i ∷ is) =
    act_history-agree i i.act (item_history who is) who (decisions is) refl (item_history-agree who is)

-- the decisions of a clone's own script are those of the whole script that reach the clone
pub decisions_of_alone : AloneIsOfDecisions
decisions_of_alone s who = (item_history-agree who s.items).list
