-- The lengths of the lines that are not comments.
use Rattle.std.proofs.Common.{◌≡◌, ⊎_elim, ℕ, ◌+◌, ◌*◌, ◌≤◌, ◌==◌, false, List, []}
use Rattle.std.proofs.Common.{◌∷◌, ◌++◌, length, refl, sym, ap, subst, arith, append-nil, length-append}
use Rattle.std.specs.List.{AllByRecursion, flat_map}
use Rattle.std.proofs.lemmas.Bool.Decides.{nat_tests}
use Rattle.decision_script.specs.declared.item.Act.TheVariants.{Decide}
use Rattle.decision_script.specs.declared.item.Item.{Item}
use Rattle.decision_script.specs.Stating.{IsItem, analyst_name}
use Rattle.decision_script.specs.Printing.{item_lines, line_text, longest_item, words_of_decision}
use Rattle.decision_script.specs.Printing.{words_of_section}
use Rattle.decision_script.proofs.ItemsReadAgain.{AreKnown}
use Rattle.decision_script.proofs.Lengths.{items_length, section_length}
use Rattle.decision_book.specs.declared.call.Call.{Call}
use Rattle.decision_book.specs.declared.call.Reply.TheVariants.{Accepted}
use Rattle.decision_book.specs.Journal.{Event, NewFront, NewCall, calls_of}
use Rattle.journal_text.proofs.Lines.{IsRefused, accepted_or_refused, said_onto, said_lines, said_onto-refused}
use Rattle.journal_text.proofs.Reading.{IsCallBy}

-- ---- line_text
-- the length of a decision and its section
decided_length : (analysts : List (List ℕ)) (c : Call) → AreKnown analysts → IsCallBy analysts c
    → length (line_text (words_of_section (analyst_name analysts c.caller))) + length
    (line_text (words_of_decision c.decision)) ≤ longest_item
decided_length analysts c known h =
    let item : Item = record { line = 0; analyst = c.caller; act = Decide c.decision } in
    let is_item : IsItem (length analysts) item = record { analyst = h.analyst; act = h.decision } in
    let all = items_length analysts 0 (item ∷ []) known (is_item, tt) in
    let other : (c.caller == 0) ≡ false = (let low = h.analyst.low in grind (arith, nat_tests)) in
    let lines : item_lines analysts 0 (item ∷ []) ≡ words_of_section
    (analyst_name analysts c.caller) ∷ words_of_decision c.decision ∷ [] = rw other refl in
    let text : length (line_text (words_of_section (analyst_name analysts c.caller))
    ++ (line_text (words_of_decision c.decision) ++ [])) ≤ longest_item
    = subst (λ ls. length (flat_map line_text ls) ≤ longest_item) lines all in
    let one : length (line_text (words_of_decision c.decision) ++ [])
    ≡ length (line_text (words_of_decision c.decision)) =
    ap length (append-nil (line_text (words_of_decision c.decision))) in
    omega (
      arith,
      text,
      one,
      length-append (line_text (words_of_section (analyst_name analysts c.caller)))
          (line_text (words_of_decision c.decision) ++ []),
    )

-- ---- said_lines
-- the lines without comments take at most `longest_item` bytes for each call
pub said_length : (analysts : List (List ℕ)) (es : List Event) → AreKnown analysts
    → AllByRecursion (IsCallBy analysts) (calls_of es)
    → length (flat_map line_text (said_lines analysts es)) ≤ longest_item * length (calls_of es)
said_length analysts [] known h = omega arith
said_length analysts (NewFront f ∷ es) known h = said_length analysts es known h
said_length analysts (NewCall c ∷ es) known h =
    let section = line_text (words_of_section (analyst_name analysts c.caller)) in
    let decision = line_text (words_of_decision c.decision) in
    let rest = flat_map line_text (said_lines analysts es) in
    let more = said_length analysts es known h.1 in
    ⊎_elim
    (λ (e : c.reply ≡ Accepted).
    subst (λ x. length (section ++ flat_map line_text (said_onto x c.decision (said_lines analysts es))) ≤
    longest_item * length (calls_of (NewCall c ∷ es))) (sym e)
    (omega (
      arith,
      more,
      decided_length analysts c known h.0,
      length-append section (decision ++ rest),
      length-append decision rest,
    )))
    (λ (e : IsRefused c.reply).
    subst (λ ls. length (section ++ flat_map line_text ls) ≤ longest_item * length (calls_of (NewCall c ∷ es)))
    (sym (said_onto-refused c.reply e c.decision (said_lines analysts es)))
    (omega (arith, more, section_length (analyst_name analysts c.caller) h.0.named, length-append section rest)))
    (accepted_or_refused c.reply)
