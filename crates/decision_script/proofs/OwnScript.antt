-- A clone's own script, item after item from the last one.
use Rattle.std.proofs.Common.{◌≡◌, ℕ, ◌+◌, ◌<◌, ◌≤◌, Bool, true, false, List, []}
use Rattle.std.proofs.Common.{◌∷◌, ◌++◌, length, take, reverse, get_or, sym, ap, ◌∙◌, arith}
use Rattle.std.specs.List.{All}
use Rattle.std.specs.Str.{bytes_eq}
use Rattle.std.proofs.lemmas.List.{take_more, take_all, reverse-append, reverse-reverse}
use Rattle.std.proofs.lemmas.List.Elements.{All-nil, All-cons, All-head, All-tail}
use Rattle.sim_base.specs.Decisions.{subject}
use Rattle.decision_script.specs.declared.item.Act.{Act}
use Rattle.decision_script.specs.declared.item.Act.TheVariants.{Decide, Look}
use Rattle.decision_script.specs.declared.item.Item.{Item}
use Rattle.decision_script.specs.Stating.{ScriptView, IsItem, IsScript}
use Rattle.decision_script.specs.Alone.{changed_clone, history_if, act_history, item_history, alone_of}

-- ---- item_history, item after item

-- one item more, before those that were taken
pub history_more : (items : List Item) (who : List ℕ) (n : ℕ) (item : Item) (history : List ℕ × List Item)
    → n < length (reverse items) → item ≡ get_or (reverse items) n item
    → history ≡ item_history who (reverse (take n (reverse items)))
    → act_history item item.act history ≡ item_history who (reverse (take (n + 1) (reverse items)))
history_more items who n item history within at same =
    let next : take (n + 1) (reverse items) ≡ take n (reverse items) ++ item ∷ [] =
    take_more (reverse items) n item within ∙ ap (λ x. take n (reverse items) ++ x ∷ []) (sym at) in
    ap (act_history item item.act) same
    ∙ ap (item_history who) (sym (reverse-append (take n (reverse items)) (item ∷ [])))
    ∙ ap (λ xs. item_history who (reverse xs)) (sym next)

-- all items
pub history_all : (items : List Item) (who : List ℕ) (n : ℕ) (history : List ℕ × List Item)
    → n ≡ length (reverse items) → history ≡ item_history who (reverse (take n (reverse items)))
    → history ≡ item_history who items
history_all items who n history end same =
    same ∙ ap (λ xs. item_history who (reverse xs)) (take_all n (reverse items) (omega arith))
    ∙ ap (item_history who) (reverse-reverse items)

-- ---- the rest of the items

-- they are no more than all, and P holds of each
record AreLeft (P : Item → Type 0) (items own : List Item) : Type 0 where
  pub fewer : length own ≤ length items
  pub all : All P own

-- if P holds of an item and of the rest of those after it, it holds with the item or without
history_if-left : (P : Item → Type 0) (b : Bool) (item : Item) (target : List ℕ) (items : List Item)
    (later : List ℕ × List Item) → P item → AreLeft P items later.1
    → AreLeft P (item ∷ items) (history_if b item target later).1
history_if-left P true item target items later is h =
    record { fewer = omega (arith, h.fewer); all = All-cons P item later.1 is h.all }
history_if-left P false item target items later is h = record { fewer = omega (arith, h.fewer); all = h.all }

-- and by its act
act_history-left : (P : Item → Type 0) (item : Item) (act : Act) (items : List Item) (later : List ℕ × List Item)
    → P item → AreLeft P items later.1 → AreLeft P (item ∷ items) (act_history item act later).1
act_history-left P item (Decide d) items later is h =
    history_if-left P (bytes_eq (changed_clone d) later.0) item (subject d) items later is h
act_history-left P item (Look who station) items later is h = record { fewer = omega (arith, h.fewer); all = h.all }

-- so it is with all items
item_history-left : (P : Item → Type 0) (who : List ℕ) (items : List Item) → All P items
    → AreLeft P items (item_history who items).1
item_history-left P who [] h = record { fewer = omega arith; all = All-nil P }
item_history-left P who (i ∷ is) h = act_history-left P i i.act is (item_history who is) (All-head P i is h)
    (item_history-left P who is (All-tail P i is h))

-- a clone's own script is a script
pub alone_is_script : (s : ScriptView) (who : List ℕ) → IsScript s → IsScript (alone_of s who)
alone_is_script s who h =
    let left = item_history-left (IsItem (length s.analysts)) who s.items h.valid in
    record {
      first = h.first;
      named = h.named;
      distinct = h.distinct;
      few_analysts = h.few_analysts;
      few_items = omega (arith, left.fewer, h.few_items);
      valid = left.all;
    }
