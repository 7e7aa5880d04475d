-- The lines of a journal that are not comments are read as the accepted decisions.
use Rattle.std.proofs.Common.{◌≡◌, ⊎_elim, ℕ, ◌+◌, ◌<◌, ◌≤◌, List, [], ◌∷◌, ◌++◌, length}
use Rattle.std.proofs.Common.{map, Result, Ok, refl, sym, ap, ap₂, ◌∙◌, subst, arith, append_assoc, append-nil}
use Rattle.std.specs.List.{AllByRecursion, join_with_byte}
use Rattle.std.proofs.lemmas.List.{length_push}
use Rattle.sim_base.specs.declared.decision.Decision.{Decision}
use Rattle.decision_script.specs.declared.fault.ScriptFault.{ScriptFault}
use Rattle.decision_script.specs.declared.item.Act.{Act}
use Rattle.decision_script.specs.declared.item.Act.TheVariants.{Decide}
use Rattle.decision_script.specs.declared.item.Item.{Item}
use Rattle.decision_script.specs.declared.script.TheConstants.{MAX_ANALYSTS, MAX_ITEMS}
use Rattle.decision_script.specs.Stating.{IsAnalyst, IsDecision, IsName, analyst_name}
use Rattle.decision_script.specs.Reading.{ReaderView, after_line, after_lines}
use Rattle.decision_script.specs.Printing.{words_of_decision, words_of_section}
use Rattle.decision_script.specs.Alone.{decisions, decisions_onto}
use Rattle.decision_script.proofs.ItemsReadAgain.{after_act, after_lines-Ok}
use Rattle.decision_script.proofs.Saying.{act_words, section_words}
use Rattle.decision_script.proofs.JoinedWords.{IsWord}
use Rattle.decision_book.specs.declared.call.Call.{Call}
use Rattle.decision_book.specs.declared.call.Reply.TheVariants.{Accepted}
use Rattle.decision_book.specs.Journal.{Event, NewFront, NewCall, calls_of}
use Rattle.decision_book.specs.Scripts.{accepted_of, accepted_onto}
use Rattle.journal_text.specs.Laws.{who_does, who_decided}
use Rattle.journal_text.proofs.Lines.{IsRefused, accepted_or_refused, said_onto, joined, said_lines, said_onto-refused}
use Rattle.journal_text.proofs.Sections.{IsInForce, missing, analyst_name-append, section_read}

-- ---- after_lines
-- the result of reading: the analysts and items before, followed by those of these calls
pub record ReadOn (analysts : List (List ℕ)) (r : ReaderView) (given : Result ReaderView ScriptFault)
    (calls : List Call) : Type 0 where
  pub after : ReaderView
  pub names : List (List ℕ)
  pub new : List Item
  pub read : given ≡ Ok after
  pub analysts_are : after.analysts ≡ r.analysts ++ names
  pub items_are : after.items ≡ r.items ++ new
  pub said : map (who_does after.analysts) new ≡ map (who_decided analysts) calls

-- after a section
ReadOn-section : (analysts : List (List ℕ)) (line : ℕ) (r : ReaderView) (name l : List ℕ) (rest : List (List ℕ))
    (calls : List Call) → (s : IsInForce analysts r name (after_line line r l))
    → ReadOn analysts s.next (after_lines (line + 1) s.next rest) calls
    → ReadOn analysts r (after_lines line r (l ∷ rest)) calls
ReadOn-section analysts line r name l rest calls s m = record {
  after = m.after;
  names = s.names ++ m.names;
  new = m.new;
  read = after_lines-Ok line r s.next l rest s.read ∙ m.read;
  analysts_are = m.analysts_are ∙ ap (λ a. a ++ m.names) s.analysts_are ∙ append_assoc r.analysts s.names m.names;
  items_are = m.items_are ∙ ap (λ i. i ++ m.new) s.items;
  said = m.said;
}

-- with the item of a line
abbrev with_item : ℕ → ReaderView → Act → ReaderView
with_item line r act = record r { items = r.items ++ (record { line = line; analyst = r.current; act = act }) ∷ [] }

-- after a decision
ReadOn-decision : (analysts : List (List ℕ)) (line : ℕ) (r : ReaderView) (c : Call) (rest : List (List ℕ))
    (calls : List Call) → IsDecision c.decision → length r.items < MAX_ITEMS
    → IsAnalyst (length r.analysts) r.current → analyst_name r.analysts r.current ≡ analyst_name analysts c.caller
    → ReadOn analysts (with_item line r (Decide c.decision))
    (after_lines (line + 1) (with_item line r (Decide c.decision)) rest) calls
    → ReadOn analysts r (after_lines line r (join_with_byte 32 (words_of_decision c.decision) ∷ rest)) (c ∷ calls)
ReadOn-decision analysts line r c rest calls h few is name m =
    let item : Item = record { line = line; analyst = r.current; act = Decide c.decision } in
    let same : analyst_name m.after.analysts r.current ≡ analyst_name analysts c.caller =
    ap (λ names. analyst_name names r.current) m.analysts_are
    ∙ analyst_name-append r.analysts m.names r.current is ∙ name in
    record {
      after = m.after;
      names = m.names;
      new = item ∷ m.new;
      read = after_lines-Ok line r (with_item line r (Decide c.decision))
          (join_with_byte 32 (words_of_decision c.decision))
          rest (after_act line r (Decide c.decision) h few) ∙ m.read;
      analysts_are = m.analysts_are;
      items_are = m.items_are ∙ append_assoc r.items (item ∷ []) m.new;
      said = ap₂ (λ n more. (n, Decide c.decision) ∷ more) same m.said;
    }

-- a call by an analyst
pub record IsCallBy (analysts : List (List ℕ)) (c : Call) : Type 0 where
  pub analyst : IsAnalyst (length analysts) c.caller
  pub named : IsName (analyst_name analysts c.caller)
  pub decision : IsDecision c.decision

-- the lines of events, up to the end of the text
pub events_read : (analysts : List (List ℕ)) (line : ℕ) (r : ReaderView) (es : List Event)
    → length analysts ≤ MAX_ANALYSTS → length r.analysts + missing r.analysts analysts ≤ length analysts
    → AllByRecursion (IsCallBy analysts) (calls_of es) → length r.items + length (calls_of es) ≤ MAX_ITEMS
    → ReadOn analysts r (after_lines line r (joined (said_lines analysts es))) (accepted_of (calls_of es))
unfolding after_lines after_line
events_read analysts line r [] most fits h few =
    record {
      after = r;
      names = [];
      new = [];
      read = refl;
      analysts_are = sym (append-nil r.analysts);
      items_are = sym (append-nil r.items);
      said = refl;
    }
events_read analysts line r (NewFront f ∷ es) most fits h few = events_read analysts line r es most fits h few
events_read analysts line r (NewCall c ∷ es) most fits h few =
    let s = section_read analysts line r c.caller h.0.analyst h.0.named most fits in
    let len : length s.next.items ≡ length r.items = ap length s.items in
    ReadOn-section analysts line r (analyst_name analysts c.caller)
    (join_with_byte 32 (words_of_section (analyst_name analysts c.caller)))
    (joined (said_onto c.reply c.decision (said_lines analysts es)))
    (accepted_onto c.reply c (accepted_of (calls_of es))) s
    (⊎_elim
    (λ (e : c.reply ≡ Accepted).
    let next : ReaderView = with_item (line + 1) s.next (Decide c.decision) in
    let longer = length_push s.next.items
    (record { line = line + 1; analyst = s.next.current; act = Decide c.decision }) in
    let more = events_read analysts (line + 1 + 1) next es most s.fits h.1 (omega (arith, longer, len, few)) in
    subst (λ x. ReadOn analysts s.next
    (after_lines (line + 1) s.next (joined (said_onto x c.decision (said_lines analysts es))))
    (accepted_onto x c (accepted_of (calls_of es)))) (sym e)
    (ReadOn-decision analysts (line + 1) s.next c (joined (said_lines analysts es))
    (accepted_of (calls_of es)) h.0.decision (omega (arith, len, few)) s.current s.name_is more))
    (λ (e : IsRefused c.reply).
    let more = events_read analysts (line + 1) s.next es most s.fits h.1 (omega (arith, len, few)) in
    subst (λ ls. ReadOn analysts s.next (after_lines (line + 1) s.next (joined ls))
    (accepted_onto c.reply c (accepted_of (calls_of es))))
    (sym (said_onto-refused c.reply e c.decision (said_lines analysts es)))
    (subst (λ cs. ReadOn analysts s.next (after_lines (line + 1) s.next (joined (said_lines analysts es))) cs)
    (sym (e.taken c (accepted_of (calls_of es)))) more))
    (accepted_or_refused c.reply))

-- the words of these lines are valid words
pub said_words : (analysts : List (List ℕ)) (es : List Event) → AllByRecursion (IsCallBy analysts) (calls_of es)
    → AllByRecursion (AllByRecursion IsWord) (said_lines analysts es)
said_words analysts [] h = tt
said_words analysts (NewFront f ∷ es) h = said_words analysts es h
said_words analysts (NewCall c ∷ es) h = (
  section_words (analyst_name analysts c.caller) h.0.named,
  ⊎_elim
      (λ (e : c.reply ≡ Accepted). subst (λ x. AllByRecursion (AllByRecursion IsWord)
      (said_onto x c.decision (said_lines analysts es))) (sym e) (
        act_words (Decide c.decision) h.0.decision,
        said_words analysts es h.1,
      ))
      (λ (e : IsRefused c.reply). subst (λ ls. AllByRecursion (AllByRecursion IsWord) ls)
      (sym (said_onto-refused c.reply e c.decision (said_lines analysts es))) (said_words analysts es h.1))
      (accepted_or_refused c.reply),
)

-- ---- decisions
-- the decisions of items or calls, from their analysts and acts
abbrev decisions_said : List (List ℕ × Act) → List Decision
decisions_said [] = []
decisions_said (p ∷ ps) = decisions_onto p.1 (decisions_said ps)

-- the decisions of items
decisions-who_does : (analysts : List (List ℕ)) (items : List Item)
    → decisions items ≡ decisions_said (map (who_does analysts) items)
decisions-who_does analysts [] = refl
decisions-who_does analysts (i ∷ items) = ap (decisions_onto i.act) (decisions-who_does analysts items)

-- the decisions of calls
decisions_said-who_decided : (analysts : List (List ℕ)) (cs : List Call)
    → decisions_said (map (who_decided analysts) cs) ≡ map (λ c. c.decision) cs
decisions_said-who_decided analysts [] = refl
decisions_said-who_decided analysts (c ∷ cs) = ap (λ ds. c.decision ∷ ds) (decisions_said-who_decided analysts cs)

-- items with the same acts as these calls have their decisions
pub same_decisions : (names analysts : List (List ℕ)) (items : List Item) (cs : List Call)
    → map (who_does names) items ≡ map (who_decided analysts) cs → decisions items ≡ map (λ c. c.decision) cs
same_decisions names analysts items cs h =
    decisions-who_does names items ∙ ap decisions_said h ∙ decisions_said-who_decided analysts cs
