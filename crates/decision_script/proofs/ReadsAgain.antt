-- The canonical text of every script is read as that script.
use Rattle.std.proofs.Common.{◌≡◌, ℕ, ◌≤◌, false, nat_lt, List, [], ◌∷◌, ◌++◌, length, map}
use Rattle.std.proofs.Common.{sym, ap, ◌∙◌, subst, arith, codes, Ok, Err, length-append, cond}
use Rattle.std.specs.List.{flat_map}
use Rattle.std.proofs.lemmas.Bool.Decides.{nat_tests}
use Rattle.std.proofs.lemmas.List.Elements.{All-tail, recursion_from_All}
use Rattle.decision_script.specs.declared.fault.ScriptFault.TheVariants.{TooLong}
use Rattle.decision_script.specs.declared.item.Item.{Item}
use Rattle.decision_script.specs.Lines.{lines}
use Rattle.decision_script.specs.Laws.{ReadAgain, CanonicalTextReadsAgain}
use Rattle.decision_script.specs.Printing.{canonical_text, item_lines, line_text, words_of_section}
use Rattle.decision_script.specs.Reading.{ReaderView, after_lines, new_reader, script, script_of}
use Rattle.sim_base.specs.Chain.{◌>>=◌}
use Rattle.decision_script.specs.Stating.{IsItem, IsName, IsScript, ScriptView}
use Rattle.sim_base.specs.declared.limits.TheConstants.{MAX_FILE_BYTES}
use Rattle.decision_script.proofs.ItemsReadAgain.{text_read}
use Rattle.decision_script.proofs.Lengths.{items_length, sections_length}
use Rattle.decision_script.proofs.Names.{are_known, are_new}
use Rattle.decision_script.proofs.TextParts.{text_in_parts}

-- ---- script

-- a text that is not too long has the script of its lines
pub read_of_text : (text : List ℕ) (t : ReaderView) → length text ≤ MAX_FILE_BYTES
    → after_lines 1 new_reader (lines text) ≡ Ok t → script text ≡ Ok (script_of t)
read_of_text text t short read =
    let fits : nat_lt MAX_FILE_BYTES (length text) ≡ false = grind (arith, nat_tests) in
    ap (λ b. cond b (Err TooLong) (after_lines 1 new_reader (lines text) >>= λ r. Ok (script_of r))) fits
    ∙ ap (λ x. x >>= λ r. Ok (script_of r)) read

-- ---- ReadAgain

-- the canonical text of a script whose first analyst is main is read as that script
ReadAgain-main : (more : List (List ℕ)) (items : List Item)
    → IsScript (record { analysts = codes "main" ∷ more; items = items })
    → ReadAgain (record { analysts = codes "main" ∷ more; items = items })
ReadAgain-main more items h =
    let s : ScriptView = record { analysts = codes "main" ∷ more; items = items } in
    let new = are_new (codes "main" ∷ []) more h.distinct (All-tail IsName (codes "main") more h.named) in
    let known = are_known (codes "main" ∷ more) h.distinct h.named in
    let valid = recursion_from_All (IsItem (length (codes "main" ∷ more))) items h.valid in
    let headers = flat_map line_text (map words_of_section more) in
    let lines_of_items = flat_map line_text (item_lines (codes "main" ∷ more) (length (codes "main" ∷ more)) items) in
    let short : length (headers ++ lines_of_items) ≤ MAX_FILE_BYTES =
    omega (
      arith,
      h.few_analysts,
      h.few_items,
      length-append headers lines_of_items,
      sections_length (codes "main" ∷ []) more new,
      items_length (codes "main" ∷ more) (length (codes "main" ∷ more)) items known valid,
    ) in
    let (t, read, analysts, same) = text_read more items new known h.few_analysts h.few_items valid in
    record {
      again = script_of t;
      read = read_of_text (canonical_text s) t
          (subst (λ text. length text ≤ MAX_FILE_BYTES) (text_in_parts s) short) read;
      analysts = analysts;
      items = same;
    }

-- so is that of every script, since its first analyst is main
ReadAgain-any : (analysts : List (List ℕ)) (items : List Item)
    → IsScript (record { analysts = analysts; items = items })
    → ReadAgain (record { analysts = analysts; items = items })
ReadAgain-any [] items h = absurd (let none = h.first in cc)
ReadAgain-any (a ∷ more) items h =
    let main : a ≡ codes "main" = (let first = h.first in cc) in
    subst (λ a. IsScript (record { analysts = a ∷ more; items = items })
    → ReadAgain (record { analysts = a ∷ more; items = items })) (sym main) (ReadAgain-main more items) h

-- the canonical text of a script is read as that script, except for the numbers of the lines
pub canonical_text_reads_again : CanonicalTextReadsAgain
canonical_text_reads_again s h = ReadAgain-any s.analysts s.items h
