-- The journal of a live study, as a script, writes what the study wrote.
use Rattle.std.proofs.Common.{◌≡◌, ℕ, ◌+◌, ◌<◌, Bool, true, false, nat_eq, if◌then◌else◌}
use Rattle.std.proofs.Common.{List, [], ◌∷◌, ◌++◌, length, None, sym, ap, subst, arith}
use Rattle.std.specs.Prelude.{option_map}
use Rattle.std.specs.List.{AllByRecursion}
use Rattle.std.proofs.lemmas.List.Elements.{recursion_from_All}
use Rattle.sim_base.specs.Clones.{Clone}
use Rattle.decision_script.specs.Stating.{IsAct, IsAnalyst, IsDecision, IsItem}
use Rattle.decision_script.specs.declared.item.Act.{Act}
use Rattle.decision_script.specs.declared.item.Act.TheVariants.{Decide, Look}
use Rattle.decision_script.specs.declared.item.Item.{Item}
use Rattle.decision_book.specs.declared.call.Call.{Call}
use Rattle.decision_book.specs.Journal.{after, calls_of}
use Rattle.decision_desk.specs.Accounts.{calls_from}
use Rattle.journal_text.specs.Laws.{IsCallOf, IsScriptOf}
use Rattle.journal_text.proofs.ReadsAsScript.{journal_reads_as_script}
use Rattle.live_study.specs.Asking.{decisions_asked, decisions_in}
use Rattle.live_study.specs.Scripts.{acts_by}
use Rattle.live_study.proofs.Texts.{callers_within}
use Rattle.cloner_top.specs.Deciding.{by_line, decision_lines, first_refused}
use Rattle.cloner_top.specs.Endings.{MayRun, run_texts, simulation, whole_output, within}
use Rattle.study_run.specs.Limits.{MeetsLimit}
use Rattle.cloner_top.specs.Journals.{JournalRunsTheSame}
use Rattle.world_core.specs.Worlds.{total_handled}

-- ---- a script can express the decisions of a script's calls

-- the decisions among acts
acts_decide : (acts : List Act) → AllByRecursion IsAct acts → AllByRecursion IsDecision (decisions_asked acts)
acts_decide [] all = tt
acts_decide (Decide d ∷ acts) all = (all.0, acts_decide acts all.1)
acts_decide (Look who station ∷ acts) all = acts_decide acts all.1

-- an act, if it is the analyst's own, before others
own_first : (own : Bool) (act : Act) (others : List Act) → IsAct act → AllByRecursion IsAct others
    → AllByRecursion IsAct ((if own then act ∷ [] else []) ++ others)
own_first true act others is all = (is, all)
own_first false act others is all = all

-- the acts of one analyst
acts_are : (many a : ℕ) (items : List Item) → AllByRecursion (IsItem many) items
    → AllByRecursion IsAct (acts_by a items)
acts_are many a [] all = tt
acts_are many a (item ∷ items) all = own_first (nat_eq item.analyst a) item.act (acts_by a items) all.0.act
    (acts_are many a items all.1)

-- the first of numbered calls, if it is the caller's own, has a decision that a script can express
first_is : (own : Bool) (n : ℕ) (c : Call) (ps : List (ℕ × Call)) → own ≡ true
    → AllByRecursion IsDecision (decisions_in (if own then (n, c) ∷ ps else ps)) → IsDecision c.decision
first_is true n c ps is all = all.0
first_is false n c ps is all = absurd cc

-- the others have such decisions in any case
others_are : (own : Bool) (n : ℕ) (c : Call) (ps : List (ℕ × Call))
    → AllByRecursion IsDecision (decisions_in (if own then (n, c) ∷ ps else ps))
    → AllByRecursion IsDecision (decisions_in ps)
others_are true n c ps all = all.1
others_are false n c ps all = all

-- if the calls of each caller have such decisions, all calls have
calls_are : (many n : ℕ) (calls : List Call)
    → AllByRecursion (λ (c : Call). IsAnalyst many c.caller) calls
    → ((a : ℕ) → IsAnalyst many a → AllByRecursion IsDecision (decisions_in (calls_from a n calls)))
    → AllByRecursion (IsCallOf many) calls
calls_are many n [] callers each = tt
calls_are many n (c ∷ calls) callers each = (
  record {
    analyst = callers.0;
    decision = first_is (nat_eq c.caller c.caller) n c (calls_from c.caller (n + 1) calls) (grind arith)
        (each c.caller callers.0);
  },
  calls_are many (n + 1) calls callers.1 (λ a is.
      others_are (nat_eq c.caller a) n c (calls_from a (n + 1) calls) (each a is)),
)

-- ---- the law

-- within the limit, `run` of a journal read as a script may end by writing the texts of the journal's clones
pub journal_runs : JournalRunsTheSame
journal_runs net s book valid stated journal short =
    let many = length s.analysts in
    let items = recursion_from_All (IsItem many) s.items stated.valid in
    let callers = recursion_from_All (λ (c : Call). IsAnalyst many c.caller) (calls_of book.events)
    (callers_within many (calls_of book.events) journal.others) in
    let calls : AllByRecursion (IsCallOf many) (calls_of book.events) =
    calls_are many 0 (calls_of book.events) callers (λ a is.
    subst (AllByRecursion IsDecision) (sym (journal.asked_all a is))
    (acts_decide (acts_by a s.items) (acts_are many a s.items items))) in
    let some : 0 < net.horizon = let h = valid.horizon in omega (arith, h) in
    let r : IsScriptOf net s.analysts book.events =
    journal_reads_as_script net s book.events stated journal.legal.right some
    (let h = valid.horizon_max in omega (arith, h)) calls in
    let none : first_refused net r.again ≡ None =
    ap (option_map (by_line (decision_lines r.again.items))) r.accepted in
    record {
      again = r.again;
      read = r.read;
      may = simulation (whole_output (run_texts net (after net book.events).clones)
          (total_handled net (after net book.events).clones net.horizon)) none
          (subst (λ (cs : List Clone). MayRun net cs (MeetsLimit net cs) (run_texts net cs)
          (whole_output (run_texts net (after net book.events).clones)
          (total_handled net (after net book.events).clones net.horizon))) (sym r.clones) (within short));
    }
