-- The text of a right journal is read as the script of its accepted decisions.
use Rattle.std.proofs.Common.{◌≡◌, ℕ, ◌<◌, ◌≤◌, List, [], ◌∷◌, length}
use Rattle.std.proofs.Common.{map, Ok, Some, codes, slice_get, sym, ap, ◌∙◌, subst, arith}
use Rattle.std.specs.List.{AllByRecursion, flat_map}
use Rattle.sim_base.specs.declared.limits.TheConstants.{MAX_FILE_BYTES}
use Rattle.net_model.specs.Net.{Net}
use Rattle.decision_script.specs.declared.script.TheConstants.{MAX_ANALYSTS}
use Rattle.decision_script.specs.Stating.{Fits32, analyst_name}
use Rattle.decision_script.specs.Printing.{line_text}
use Rattle.decision_script.specs.Reading.{after_lines, new_reader, script, script_of}
use Rattle.decision_script.specs.Alone.{decisions}
use Rattle.decision_script.proofs.ItemsReadAgain.{AreKnown}
use Rattle.decision_script.proofs.Names.{are_known}
use Rattle.decision_script.proofs.ReadsAgain.{read_of_text}
use Rattle.decision_script.proofs.JoinedWords.{lines-text}
use Rattle.decision_book.specs.declared.call.Call.{Call}
use Rattle.decision_book.specs.Journal.{Event, NewFront, NewCall, calls_of}
use Rattle.decision_book.specs.Right.{IsRight}
use Rattle.decision_book.specs.Scripts.{accepted_decisions, accepted_of, first_refusal, lists_of}
use Rattle.decision_book.proofs.JournalScripts.{journal_is_script}
use Rattle.journal_text.specs.Laws.{IsCallOf, IsScriptOf, JournalReadsAsScript}
use Rattle.journal_text.proofs.Lines.{IsWritable, said_lines, without_comments-events_text}
use Rattle.journal_text.proofs.Reading.{IsCallBy, events_read, said_words, same_decisions}
use Rattle.journal_text.proofs.Rightly.{HasSmallFronts, few_calls, small_fronts}
use Rattle.journal_text.proofs.Sections.{main_is_there}
use Rattle.journal_text.proofs.Sizes.{said_length}

-- ---- IsCallBy, IsWritable
-- calls of the analysts of a script are calls by analysts with names
calls_by : (analysts : List (List ℕ)) (cs : List Call) → AreKnown analysts
    → AllByRecursion (IsCallOf (length analysts)) cs → AllByRecursion (IsCallBy analysts) cs
calls_by analysts [] known h = tt
calls_by analysts (c ∷ cs) known h = (
  record {
    analyst = h.0.analyst;
    named = known.named c.caller h.0.analyst;
    decision = h.0.decision;
  },
  calls_by analysts cs known h.1,
)

-- the lines of such calls, with small fronts, are printed
writable : (analysts : List (List ℕ)) (es : List Event) → AllByRecursion (IsCallBy analysts) (calls_of es)
    → AllByRecursion HasSmallFronts es → AllByRecursion (IsWritable analysts) es
writable analysts [] h small = tt
writable analysts (NewFront f ∷ es) h small = (small.0, writable analysts es h small.1)
writable analysts (NewCall c ∷ es) h small = ((h.0.named, h.0.decision, small.0), writable analysts es h.1 small.1)

-- ---- IsScriptOf
-- if main is the first analyst
IsScriptOf-main : (net : Net) (more : List (List ℕ)) (es : List Event) → AreKnown (codes "main" ∷ more)
    → length (codes "main" ∷ more) ≤ MAX_ANALYSTS → IsRight net es → 0 < net.horizon → Fits32 net.horizon
    → AllByRecursion (IsCallOf (length (codes "main" ∷ more))) (calls_of es) → IsScriptOf net (codes "main" ∷ more) es
IsScriptOf-main net more es known most right some_time small h =
    let analysts = codes "main" ∷ more in
    let by = calls_by analysts (calls_of es) known h in
    let few = few_calls net es right in
    let said = without_comments-events_text analysts es (writable analysts es by (small_fronts net es right small)) in
    let r = events_read analysts 1 new_reader es most (main_is_there (codes "main") more) by (omega (arith, few)) in
    let text = flat_map line_text (said_lines analysts es) in
    let short : length text ≤ MAX_FILE_BYTES = omega (arith, few, said_length analysts es known by) in
    let read : script text ≡ Ok (script_of r.after) =
    read_of_text text r.after short
    (ap (after_lines 1 new_reader) (lines-text (said_lines analysts es) (said_words analysts es by)) ∙ r.read) in
    let items : map (λ i. (analyst_name r.after.analysts i.analyst, i.act)) r.after.items
    ≡ map (λ i. (analyst_name r.after.analysts i.analyst, i.act)) r.new =
    ap (map (λ i. (analyst_name r.after.analysts i.analyst, i.act))) r.items_are in
    let ds : decisions r.after.items ≡ accepted_decisions es =
    same_decisions r.after.analysts analysts r.after.items (accepted_of (calls_of es)) (items ∙ r.said) in
    let law = journal_is_script net es right some_time in
    record {
      again = script_of r.after;
      read = ap script said ∙ read;
      items = items ∙ r.said;
      accepted = ap (first_refusal net) ds ∙ law.accepted;
      clones = ap (lists_of net) ds ∙ law.lists;
    }

-- for any first analyst
IsScriptOf-first : (net : Net) (analysts : List (List ℕ)) (es : List Event) → slice_get analysts 0 ≡ Some (codes "main")
    → AreKnown analysts → length analysts ≤ MAX_ANALYSTS → IsRight net es → 0 < net.horizon → Fits32 net.horizon
    → AllByRecursion (IsCallOf (length analysts)) (calls_of es) → IsScriptOf net analysts es
IsScriptOf-first net [] es first = absurd cc
IsScriptOf-first net (a ∷ more) es first =
    let main : a ≡ codes "main" = cc in
    subst (λ a. AreKnown (a ∷ more) → length (a ∷ more) ≤ MAX_ANALYSTS → IsRight net es → 0 < net.horizon
    → Fits32 net.horizon → AllByRecursion (IsCallOf (length (a ∷ more))) (calls_of es) → IsScriptOf net (a ∷ more) es)
    (sym main) (IsScriptOf-main net more es)

-- a right journal whose callers are analysts of a script reads, without comments, as a script
pub journal_reads_as_script : (net : Net) → JournalReadsAsScript net
journal_reads_as_script net s es h right some_time small calls =
    IsScriptOf-first net s.analysts es h.first (are_known s.analysts h.distinct h.named) h.few_analysts right some_time
    small calls
