-- The length of a canonical text.
use Rattle.std.proofs.Common.{ℕ, ◌+◌, ◌*◌, ◌≤◌, ◌==◌, Bool, true, false, cond}
use Rattle.std.proofs.Common.{List, [], ◌∷◌, ◌++◌, length, map, arith, length-append}
use Rattle.std.specs.List.{AllByRecursion, flat_map, join_with_byte}
use Rattle.std.proofs.lemmas.Bool.Decides.{nat_tests}
use Rattle.std.proofs.lemmas.List.Concat.{flat_map-append}
use Rattle.sim_base.specs.Params.{words_of_change}
use Rattle.sim_base.specs.declared.name.TheConstants.{MAX_NAME_LEN}
use Rattle.sim_base.specs.declared.decision.Decision.TheVariants.{Fork, Set, End}
use Rattle.sim_base.specs.declared.message.Param.{Param}
use Rattle.sim_base.specs.declared.message.Param.TheVariants.{Every, Service, Hold, Servers, Room, Weight}
use Rattle.decision_script.specs.declared.item.Act.{Act}
use Rattle.decision_script.specs.declared.item.Act.TheVariants.{Decide, Look}
use Rattle.decision_script.specs.declared.item.Item.{Item}
use Rattle.decision_script.specs.Stating.{IsAct, IsItem, IsName, analyst_name}
use Rattle.decision_script.specs.Printing.{item_lines, line_text, longest_item, section_before}
use Rattle.decision_script.specs.Printing.{words_of_act, words_of_section}
use Rattle.decision_script.proofs.ItemsReadAgain.{AreKnown, AreNew}
use Rattle.decision_script.proofs.Saying.{act_words, section_words}
use Rattle.decision_script.proofs.JoinedWords.{IsWord}

-- ---- join_with_byte and line_text

-- words of at most `MAX_NAME_LEN` bytes, each followed by one byte
joined_length : (ws : List (List ℕ)) → AllByRecursion IsWord ws → length (join_with_byte 32 ws) ≤ 17 * length ws
joined_length [] h = omega arith
joined_length (w ∷ []) h = let short = h.0.length_max in grind (arith, nat_tests)
joined_length (w ∷ v ∷ ws) h =
    let short : length w ≤ MAX_NAME_LEN = (let s = h.0.length_max in grind (arith, nat_tests)) in
    omega (arith, length-append w (32 ∷ join_with_byte 32 (v ∷ ws)), joined_length (v ∷ ws) h.1)

-- and the line feed
line_length : (ws : List (List ℕ)) → AllByRecursion IsWord ws → length (line_text ws) ≤ 17 * length ws + 1
line_length ws h = omega (arith, length-append (join_with_byte 32 ws) (10 ∷ []), joined_length ws h)

-- ---- the words of acts and of sections

-- a change is at most three words
few_change_words : (param : Param) (a b : ℕ) → length (words_of_change param a b) ≤ 3
few_change_words Every a b = omega arith
few_change_words Service a b = omega arith
few_change_words Hold a b = omega arith
few_change_words Servers a b = omega arith
few_change_words Room a b = omega arith
few_change_words Weight a b = omega arith

-- an act is at most eight
few_words : (act : Act) → length (words_of_act act) ≤ 8
few_words (Look who station) = omega arith
few_words (Decide (Fork new old)) = omega arith
few_words (Decide (Set who at station change)) = omega (arith, few_change_words change.param change.a change.b)
few_words (Decide (End who at)) = omega arith

-- a section line is two words, and has at most 35 bytes
pub section_length : (name : List ℕ) → IsName name → length (line_text (words_of_section name)) ≤ 35
section_length name h = omega (arith, line_length (words_of_section name) (section_words name h))

-- and that of an act at most 137
act_length : (act : Act) → IsAct act → length (line_text (words_of_act act)) ≤ 137
act_length act h = omega (arith, line_length (words_of_act act) (act_words act h), few_words act)

-- ---- the parts of a canonical text

-- each section at the top has at most 35 bytes
pub sections_length : (before more : List (List ℕ)) → AreNew before more
    → length (flat_map line_text (map words_of_section more)) ≤ 35 * length more
sections_length before [] h = omega arith
sections_length before (name ∷ more) h =
    omega (
      arith,
      length-append (line_text (words_of_section name)) (flat_map line_text (map words_of_section more)),
      section_length name h.0,
      sections_length (before ++ name ∷ []) more h.2,
    )

-- so has the one before an item, if there is one
section_before_length : (analysts : List (List ℕ)) (item : Item) → AreKnown analysts → IsItem (length analysts) item
    → (b : Bool)
    → length (flat_map line_text (cond b [] (words_of_section (analyst_name analysts item.analyst) ∷ []))) ≤ 35
section_before_length analysts item known h true = omega arith
section_before_length analysts item known h false =
    omega (
      arith,
      length-append (line_text (words_of_section (analyst_name analysts item.analyst))) [],
      section_length (analyst_name analysts item.analyst) (known.named item.analyst h.analyst),
    )

-- and the lines of an item, with its section, at most `longest_item`
pub items_length : (analysts : List (List ℕ)) (force : ℕ) (items : List Item) → AreKnown analysts
    → AllByRecursion (IsItem (length analysts)) items
    → length (flat_map line_text (item_lines analysts force items)) ≤ longest_item * length items
items_length analysts force [] known h = omega arith
items_length analysts force (i ∷ is) known h =
    let rest = flat_map line_text (item_lines analysts i.analyst is) in
    let parts = flat_map-append line_text (section_before analysts force i)
    (words_of_act i.act ∷ item_lines analysts i.analyst is) in
    let first = section_before_length analysts i known h.0 (i.analyst == force) in
    let longer : length (flat_map line_text (section_before analysts force i)
    ++ (line_text (words_of_act i.act) ++ rest)) ≤ longest_item * length (i ∷ is)
    = omega (
      arith,
      first,
      length-append (flat_map line_text (section_before analysts force i))
          (line_text (words_of_act i.act) ++ rest),
      length-append (line_text (words_of_act i.act)) rest,
      act_length i.act h.0.act,
      items_length analysts i.analyst is known h.1,
    ) in
    rw parts longer
