-- The sections and items of a canonical text are read line by line as those of the script.
use Rattle.std.proofs.Common.{◌≡◌, ℕ, ◌+◌, ◌-◌, ◌<◌, ◌≤◌, ◌==◌, Bool, true, false, nat_lt}
use Rattle.std.proofs.Common.{List, [], ◌∷◌, ◌++◌, length, map, refl, sym, ap, ◌∙◌, arith}
use Rattle.std.proofs.Common.{cond, Ok, Some, None, Result, append_assoc, length-append, codes, append-nil}
use Rattle.std.proofs.lemmas.List.{map-append, length_push}
use Rattle.std.specs.List.{AllByRecursion, join_with_byte}
use Rattle.std.proofs.lemmas.Bool.Decides.{nat_tests}
use Rattle.sim_base.proofs.ListLaws.{all_append}
use Rattle.decision_script.specs.declared.fault.ScriptFault.{ScriptFault}
use Rattle.decision_script.specs.declared.item.Act.{Act}
use Rattle.decision_script.specs.declared.item.Item.{Item}
use Rattle.sim_base.specs.Chain.{◌>>=◌}
use Rattle.decision_script.specs.Sentences.{saying}
use Rattle.decision_script.specs.Stating.{IsAnalyst, IsName, IsAct, IsItem, analyst_name}
use Rattle.decision_script.specs.declared.script.TheConstants.{MAX_ANALYSTS, MAX_ITEMS}
use Rattle.decision_script.specs.Reading.{ReaderView, after_line, after_lines, after_saying}
use Rattle.decision_script.specs.Reading.{at_line, analyst_place, in_section, new_reader}
use Rattle.decision_script.specs.Printing.{words_of_act, words_of_section, item_lines, canonical_text}
use Rattle.decision_script.specs.Laws.{without_line}
use Rattle.decision_script.proofs.JoinedWords.{IsWord, line_saying-join, lines-text}
use Rattle.decision_script.specs.Lines.{lines}
use Rattle.decision_script.proofs.Saying.{saying-act, saying-section, act_words, section_words}

-- each name is new after these names and the earlier ones
abbrev pub AreNew : List (List ℕ) → List (List ℕ) → Type 0
AreNew before [] = Unit {0}
AreNew before (name ∷ more) = IsName name × (analyst_place name before ≡ None) × AreNew (before ++ name ∷ []) more

-- ---- after_line

-- a line written from words has the meaning of the words
after_words : (line : ℕ) (r : ReaderView) (ws : List (List ℕ)) → AllByRecursion IsWord ws
    → after_line line r (join_with_byte 32 ws) ≡ (at_line line (saying ws) >>= after_saying line r)
unfolding after_line
after_words line r ws h = ap (λ x. at_line line x >>= after_saying line r) (line_saying-join ws h)

-- the line of an act adds it as an item
pub after_act : (line : ℕ) (r : ReaderView) (act : Act) → IsAct act → length r.items < MAX_ITEMS
    → after_line line r (join_with_byte 32 (words_of_act act))
    ≡ Ok (record r { items = r.items ++ (record { line = line; analyst = r.current; act = act }) ∷ [] })
after_act line r act h few =
    let lt : nat_lt (length r.items) MAX_ITEMS ≡ true = grind (arith, nat_tests) in
    after_words line r (words_of_act act) (act_words act h) ∙ ap (λ x. at_line line x >>= after_saying line r)
    (saying-act act h) ∙ rw lt refl

-- the line of a section begins it
pub after_section : (line : ℕ) (r : ReaderView) (name : List ℕ) → IsName name
    → after_line line r (join_with_byte 32 (words_of_section name))
    ≡ in_section line r name (analyst_place name r.analysts)
after_section line r name h = after_words line r (words_of_section name) (section_words name h)
    ∙ ap (λ x. at_line line x >>= after_saying line r) (saying-section name h)

-- a new name makes the next analyst
after_new : (line : ℕ) (r : ReaderView) (name : List ℕ) → IsName name → analyst_place name r.analysts ≡ None
    → length r.analysts < MAX_ANALYSTS
    → after_line line r (join_with_byte 32 (words_of_section name))
    ≡ Ok (record { analysts = r.analysts ++ name ∷ []; current = length r.analysts + 1; items = r.items })
after_new line r name h new few =
    let lt : nat_lt (length r.analysts) MAX_ANALYSTS ≡ true = grind (arith, nat_tests) in
    after_section line r name h ∙ ap (in_section line r name) new ∙ rw lt refl

-- a known one is in force again
after_known : (line : ℕ) (r : ReaderView) (name : List ℕ) (i : ℕ) → IsName name
    → analyst_place name r.analysts ≡ Some i
    → after_line line r (join_with_byte 32 (words_of_section name)) ≡ Ok (record r { current = i + 1 })
after_known line r name i h known = after_section line r name h ∙ ap (in_section line r name) known

-- ---- after_lines

-- a line that is read, and the lines after it
pub after_lines-Ok : (line : ℕ) (r next : ReaderView) (l : List ℕ) (ls : List (List ℕ)) → after_line line r l ≡ Ok next
    → after_lines line r (l ∷ ls) ≡ after_lines (line + 1) next ls
unfolding after_lines
after_lines-Ok line r next l ls one = ap (λ x. x >>= λ next. after_lines (line + 1) next ls) one

-- the sections at the top add their analysts
headers_read : (line c : ℕ) (before more : List (List ℕ)) (items : List Item) (rest : List (List ℕ))
    → c ≡ length before → AreNew before more → length before + length more ≤ MAX_ANALYSTS
    → (end : ℕ) × (after_lines line (record { analysts = before; current = c; items = items })
    (map (join_with_byte 32) (map words_of_section more) ++ rest)
    ≡ after_lines end (record { analysts = before ++ more; current = length (before ++ more); items = items }) rest)
headers_read line c before [] items rest e h few = (line, rw (append-nil, e) refl)
headers_read line c before (name ∷ more) items rest e h few =
    let longer : c + 1 ≡ length (before ++ name ∷ []) = omega (arith, length-append before (name ∷ [])) in
    let new : after_line line (record { analysts = before; current = c; items = items })
    (join_with_byte 32 (words_of_section name))
    ≡ Ok (record { analysts = before ++ name ∷ []; current = c + 1; items = items })
    = after_new line (record { analysts = before; current = c; items = items }) name h.0 h.1 (omega arith)
    ∙ ap (λ n. Ok (record { analysts = before ++ name ∷ []; current = n + 1; items = items })) (sym e) in
    let (end, again) = headers_read (line + 1) (c + 1) (before ++ name ∷ []) more items rest longer h.2
    (omega (arith, length-append before (name ∷ []))) in
    (end, after_lines-Ok line _ _ _ _ new ∙ rw append_assoc at again)

-- these items are read, and the analysts stay
pub record AreRead (before : ReaderView) (given : Result ReaderView ScriptFault) (more : List Item) : Type 0 where
  pub after : ReaderView
  pub read : given ≡ Ok after
  pub analysts : after.analysts ≡ before.analysts
  pub items : map without_line after.items ≡ map without_line before.items ++ map without_line more

-- each analyst is the first of its name
pub record AreKnown (analysts : List (List ℕ)) : Type 0 where
  pub known : (a : ℕ) → IsAnalyst (length analysts) a → analyst_place (analyst_name analysts a) analysts ≡ Some (a - 1)
  pub named : (a : ℕ) → IsAnalyst (length analysts) a → IsName (analyst_name analysts a)

-- the line of an item is read if its analyst is current, and then those of the others
act_read : (line : ℕ) (r : ReaderView) (item : Item) (more : List Item) (rest : List (List ℕ)) → IsAct item.act
    → length r.items < MAX_ITEMS → r.current ≡ item.analyst
    → AreRead (record r { items = r.items ++ (record { line = line; analyst = r.current; act = item.act }) ∷ [] })
    (after_lines (line + 1) (record r {
      items = r.items
          ++ (record { line = line; analyst = r.current; act = item.act }) ∷ [];
    }) rest) more
    → AreRead r (after_lines line r (join_with_byte 32 (words_of_act item.act) ∷ rest)) (item ∷ more)
act_read line r item more rest h few same read = record {
  after = read.after;
  read = after_lines-Ok line _ _ _ _ (after_act line r item.act h few) ∙ read.read;
  analysts = read.analysts;
  items = read.items ∙ ap (λ before. before ++ map without_line more)
      (map-append without_line r.items (record { line = line; analyst = r.current; act = item.act } ∷ []))
      ∙ append_assoc (map without_line r.items) ((r.current, item.act) ∷ []) (map without_line more)
      ∙ ap (λ a. map without_line r.items ++ ((a, item.act) ∷ map without_line more)) same;
}

-- the lines of one item, if the current analyst is its own or not
item_read : (line force : ℕ) (r : ReaderView) (item : Item) (more : List Item) (rest : List (List (List ℕ)))
    → AreKnown r.analysts → r.current ≡ force → IsItem (length r.analysts) item → length r.items < MAX_ITEMS
    → ((n c : ℕ) → c ≡ item.analyst
    → AreRead (record r { current = c })
    (after_lines n (record r { current = c }) (map (join_with_byte 32) (words_of_act item.act ∷ rest)
    ++ ([] ∷ []))) (item ∷ more))
    → (b : Bool) → (item.analyst == force) ≡ b
    → AreRead r (after_lines line r (map (join_with_byte 32)
    (cond b [] (words_of_section (analyst_name r.analysts item.analyst) ∷ []) ++ (words_of_act item.act ∷ rest))
    ++ ([] ∷ []))) (item ∷ more)
item_read line force r item more rest known e h few go true same = go line r.current (grind (arith, nat_tests))
item_read line force r item more rest known e h few go false other =
    let back : item.analyst - 1 + 1 ≡ item.analyst = omega (arith, h.analyst.low) in
    let section = after_known line r (analyst_name r.analysts item.analyst) (item.analyst - 1)
    (known.named item.analyst h.analyst) (known.known item.analyst h.analyst) in
    let read = go (line + 1) (item.analyst - 1 + 1) back in
    record {
      after = read.after;
      read = after_lines-Ok line _ _ _ _ section ∙ read.read;
      analysts = read.analysts;
      items = read.items;
    }

-- the lines written from items are read as these items, except for the numbers of the lines
items_read : (line force : ℕ) (r : ReaderView) (items : List Item) → AreKnown r.analysts → r.current ≡ force
    → AllByRecursion (IsItem (length r.analysts)) items → length r.items + length items ≤ MAX_ITEMS
    → AreRead r (after_lines line r (map (join_with_byte 32) (item_lines r.analysts force items) ++ ([] ∷ []))) items
unfolding after_lines after_line
items_read line force r [] known e h few =
    record { after = r; read = refl; analysts = refl; items = sym (append-nil (map without_line r.items)) }
items_read line force r (item ∷ items) known e h few =
    item_read line force r item items (item_lines r.analysts item.analyst items) known e h.0 (omega arith)
    (λ n c same. act_read n (record r { current = c }) item items
    (map (join_with_byte 32) (item_lines r.analysts item.analyst items) ++ ([] ∷ [])) h.0.act (omega arith) same
    (items_read (n + 1) item.analyst
    (record {
      analysts = r.analysts;
      current = c;
      items = r.items ++ (record { line = n; analyst = c; act = item.act }) ∷ [];
    }) items known same h.1
    (omega (arith, length_push r.items (record { line = n; analyst = c; act = item.act })))))
    (item.analyst == force) refl

-- ---- the written texts consist of words

-- each section at the top
header_words : (before more : List (List ℕ)) → AreNew before more
    → AllByRecursion (AllByRecursion IsWord) (map words_of_section more)
header_words before [] h = tt
header_words before (name ∷ more) h = (section_words name h.0, header_words (before ++ name ∷ []) more h.2)

-- an item, with the section before it, if there is one
one_item_words : (analysts : List (List ℕ)) (item : Item) (rest : List (List (List ℕ))) → AreKnown analysts
    → IsItem (length analysts) item → AllByRecursion (AllByRecursion IsWord) rest
    → (b : Bool) → AllByRecursion (AllByRecursion IsWord)
    (cond b [] (words_of_section (analyst_name analysts item.analyst) ∷ []) ++ (words_of_act item.act ∷ rest))
one_item_words analysts item rest known h all true = (act_words item.act h.act, all)
one_item_words analysts item rest known h all false = (
  section_words (analyst_name analysts item.analyst) (known.named item.analyst h.analyst),
  (act_words item.act h.act, all),
)

-- and all items
item_words : (analysts : List (List ℕ)) (force : ℕ) (items : List Item) → AreKnown analysts
    → AllByRecursion (IsItem (length analysts)) items
    → AllByRecursion (AllByRecursion IsWord) (item_lines analysts force items)
item_words analysts force [] known h = tt
item_words analysts force (item ∷ items) known h =
    one_item_words analysts item (item_lines analysts item.analyst items) known h.0
    (item_words analysts item.analyst items known h.1) (item.analyst == force)

-- ---- canonical_text

-- the canonical text is read as the script, except for the numbers of the lines
pub text_read : (more : List (List ℕ)) (items : List Item) → AreNew (codes "main" ∷ []) more
    → AreKnown (codes "main" ∷ more) → length (codes "main" ∷ more) ≤ MAX_ANALYSTS → length items ≤ MAX_ITEMS
    → AllByRecursion (IsItem (length (codes "main" ∷ more))) items
    → (t : ReaderView) × (after_lines 1 new_reader
    (lines (canonical_text (record { analysts = codes "main" ∷ more; items = items }))) ≡ Ok t)
    × (t.analysts ≡ codes "main" ∷ more) × (map without_line t.items ≡ map without_line items)
unfolding canonical_text
text_read more items new known few many all =
    let ls = item_lines (codes "main" ∷ more) (length (codes "main" ∷ more)) items in
    let written = lines-text (map words_of_section more ++ ls)
    (all_append _ (map words_of_section more) ls (header_words (codes "main" ∷ []) more new)
    (item_words (codes "main" ∷ more) (length (codes "main" ∷ more)) items known all)) in
    let parts = map-append (join_with_byte 32) (map words_of_section more) ls in
    let (end, headers) = headers_read 1 1 (codes "main" ∷ []) more [] (map (join_with_byte 32) ls ++ ([] ∷ [])) refl
    new (omega arith) in
    let read = items_read end (length (codes "main" ∷ more))
    (record { analysts = codes "main" ∷ more; current = length (codes "main" ∷ more); items = [] }) items known
    refl all (omega arith) in
    (read.after, rw (written, parts, append_assoc) (headers ∙ read.read), read.analysts, read.items)
