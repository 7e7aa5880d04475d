-- The decisions of a script, made one after the other.
use Rattle.std.proofs.Common.{◌≡◌, ◌≢◌, ◌≤◌, ℕ, suc, ◌+◌, refl, sym, ap, ap₂, ◌∙◌, subst, arith, List, [], ◌∷◌, ◌++◌}
use Rattle.std.proofs.Common.{length, append-nil, map, take, drop, Some, None, slice_get, unwrap_or}
use Rattle.std.specs.Prelude.{option_map}
use Rattle.std.proofs.lemmas.List.{drop_more, take-append-drop, take_all, take_more}
use Rattle.std.proofs.lemmas.List.Sums.{fold-append}
use Rattle.std.proofs.lemmas.Option.{get_or_from_slice_get, slice_get_within}
use Rattle.net_model.specs.Net.{Net}
use Rattle.decision_script.specs.Alone.{decisions, decisions_onto}
use Rattle.decision_script.specs.Stating.{ScriptView}
use Rattle.decision_script.specs.declared.item.Act.{Act}
use Rattle.decision_script.specs.declared.item.Act.TheVariants.{Decide, Look}
use Rattle.decision_script.specs.declared.item.Item.{Item}
use Rattle.decision_book.specs.Books.{BookView}
use Rattle.decision_book.specs.Journal.{Situation, after, outset}
use Rattle.decision_book.specs.Replies.{reply}
use Rattle.decision_book.specs.Right.{journal_with}
use Rattle.decision_book.specs.Scripts.{Question, after_all, first_refusal, journal_of_script}
use Rattle.decision_book.specs.declared.call.Reply.TheVariants.{Accepted}
use Rattle.decision_book.proofs.Scripts.{accepted_leaves_no_refusal, refused_is_first, situation_of_script}
use Rattle.cloner_top.specs.declared.refusal.Refusal.{Refusal}
use Rattle.cloner_top.specs.declared.refusal.Refusal.TheVariants.{OutOfMemory, Stopped}
use Rattle.cloner_top.specs.declared.stop.Stop.{Stop}
use Rattle.cloner_top.specs.declared.stop.Stop.TheVariants.{BadDecision}
use Rattle.study_run.proofs.Accepting.{none_asked}
use Rattle.study_run.specs.Accepted.{IsAcceptedJournal}
use Rattle.cloner_top.specs.Deciding.{AcceptsAct, IsDecided, IsRefusal, RefusesAct, by_line, decision_lines}
use Rattle.cloner_top.specs.Refusals.{IsMemoryOrStop}
use Rattle.cloner_top.specs.Deciding.{journal_after, lines_onto, questions, questions_onto, script_journal}

-- ---- items before others

-- the questions of items, and then those of others
questions-append : (xs ys : List Item) → questions (xs ++ ys) ≡ questions xs ++ questions ys
questions-append [] ys = refl
questions-append (i ∷ is) ys = of_act i.act (questions-append is ys)
  where
    of_act : (act : Act) → questions (is ++ ys) ≡ questions is ++ questions ys
        → questions_onto i.analyst act (questions (is ++ ys)) ≡ questions_onto i.analyst act (questions is)
        ++ questions ys
    of_act (Decide d) h = ap (λ qs. record { caller = i.analyst; decision = d } ∷ qs) h
    of_act (Look who station) h = h

-- the decisions of items, and then those of others
decisions-append : (xs ys : List Item) → decisions (xs ++ ys) ≡ decisions xs ++ decisions ys
decisions-append [] ys = refl
decisions-append (i ∷ is) ys = of_act i.act (decisions-append is ys)
  where
    of_act : (act : Act) → decisions (is ++ ys) ≡ decisions is ++ decisions ys
        → decisions_onto act (decisions (is ++ ys)) ≡ decisions_onto act (decisions is) ++ decisions ys
    of_act (Decide d) h = ap (λ ds. d ∷ ds) h
    of_act (Look who station) h = h

-- the lines of decisions, and then those of others
lines-append : (xs ys : List Item) → decision_lines (xs ++ ys) ≡ decision_lines xs ++ decision_lines ys
lines-append [] ys = refl
lines-append (i ∷ is) ys = of_act i.act (lines-append is ys)
  where
    of_act : (act : Act) → decision_lines (is ++ ys) ≡ decision_lines is ++ decision_lines ys
        → lines_onto i.line act (decision_lines (is ++ ys)) ≡ lines_onto i.line act (decision_lines is)
        ++ decision_lines ys
    of_act (Decide d) h = ap (λ ls. i.line ∷ ls) h
    of_act (Look who station) h = h

-- each decision has its line
lines-length : (is : List Item) → length (decision_lines is) ≡ length (decisions is)
lines-length [] = refl
lines-length (i ∷ is) = of_act i.act (lines-length is)
  where
    of_act : (act : Act) → length (decision_lines is) ≡ length (decisions is)
        → length (lines_onto i.line act (decision_lines is)) ≡ length (decisions_onto act (decisions is))
    of_act (Decide d) h = ap suc h
    of_act (Look who station) h = h

-- the questions ask the decisions
asked-decisions : (is : List Item) → map (λ q. q.decision) (questions is) ≡ decisions is
asked-decisions [] = refl
asked-decisions (i ∷ is) = of_act i.act (asked-decisions is)
  where
    of_act : (act : Act) → map (λ q. q.decision) (questions is) ≡ decisions is
        → map (λ q. q.decision) (questions_onto i.analyst act (questions is)) ≡ decisions_onto act (decisions is)
    of_act (Decide d) h = ap (λ ds. d ∷ ds) h
    of_act (Look who station) h = h

-- ---- one more item

module _ (is : List Item) (i : ℕ) (item : Item) (there : slice_get is i ≡ Some item) where
  -- the items from this one on
  rest_is : drop i is ≡ item ∷ drop (i + 1) is
  rest_is = drop_more is i item (slice_get_within is i item there)
      ∙ ap (λ x. x ∷ drop (i + 1) is) (get_or_from_slice_get is i item item there)

  -- all items, in three parts
  all_are : take i is ++ (item ∷ drop (i + 1) is) ≡ is
  all_are = ap (λ l. take i is ++ l) (sym rest_is) ∙ take-append-drop i is

  -- the items up to this one
  first_are : take i is ++ item ∷ [] ≡ take (i + 1) is
  first_are = sym (take_more is i item (slice_get_within is i item there)
      ∙ ap (λ x. take i is ++ x ∷ []) (get_or_from_slice_get is i item item there))

-- the situation after the items up to one
after-journal_of_script : (net : Net) (is : List Item)
    → after net (journal_of_script net (questions is)) ≡ after_all (outset net) (decisions is)
after-journal_of_script net is =
    situation_of_script net (questions is) ∙ ap (after_all (outset net)) (asked-decisions is)

-- the journal with one more item
journal-more : (net : Net) (is : List Item) (item : Item) → journal_of_script net (questions (is ++ item ∷ []))
    ≡ journal_after net (journal_of_script net (questions is)) item.analyst item.act
journal-more net is item = ap (journal_of_script net) (questions-append is (item ∷ [])) ∙ of_act item.act
  where
    of_act : (act : Act) → journal_of_script net (questions is ++ questions_onto item.analyst act [])
        ≡ journal_after net (journal_of_script net (questions is)) item.analyst act
    of_act (Decide d) = fold-append (λ events (q : Question). journal_with net events q.caller q.decision) []
        (questions is) (record { caller = item.analyst; decision = d } ∷ [])
    of_act (Look who station) = ap (journal_of_script net) (append-nil (questions is))

-- with one more accepted item, no decision is refused
none-more : (net : Net) (is : List Item) (item : Item) → first_refusal net (decisions is) ≡ None
    → AcceptsAct (after net (journal_of_script net (questions is))) item.act
    → first_refusal net (decisions (is ++ item ∷ [])) ≡ None
none-more net is item none accepts = ap (first_refusal net) (decisions-append is (item ∷ [])) ∙ of_act item.act accepts
  where
    of_act : (act : Act) → AcceptsAct (after net (journal_of_script net (questions is))) act
        → first_refusal net (decisions is ++ decisions_onto act []) ≡ None
    of_act (Decide d) ok = accepted_leaves_no_refusal net (decisions is) d none
        (subst (λ s. reply s d ≡ Accepted) (after-journal_of_script net is) ok)
    of_act (Look who station) ok = ap (first_refusal net) (append-nil (decisions is)) ∙ none

-- the element after others
at_length : (xs ys : List ℕ) (x n : ℕ) → n ≡ length xs → slice_get (xs ++ x ∷ ys) n ≡ Some x
at_length [] ys x n e = rw e refl
at_length (a ∷ xs) ys x n e = let m : n ≡ suc (length xs) = omega (arith, e) in
    rw m (at_length xs ys x (length xs) refl)

-- the first decision that is refused, by its line
refused_at : (net : Net) (is more : List Item) (item : Item) (stop : Stop) (stated : ScriptView)
    → stated.items ≡ is ++ item ∷ more
    → first_refusal net (decisions is) ≡ None
    → RefusesAct (after net (journal_of_script net (questions is))) item.line item.act stop
    → IsRefusal net stated stop
refused_at net is more item stop stated whole none h = of_act item.act refl h
  where
    of_act : (act : Act) → item.act ≡ act
        → RefusesAct (after net (journal_of_script net (questions is))) item.line act stop → IsRefusal net stated stop
    of_act (Look who station) e h = absurd h
    of_act (Decide d) e h =
        let other : reply (after_all (outset net) (decisions is)) d ≢ Accepted =
        subst (λ s. reply s d ≢ Accepted) (after-journal_of_script net is) h.0 in
        let stop_is : BadDecision (reply (after_all (outset net) (decisions is)) d) item.line ≡ stop =
        ap (λ s. BadDecision (reply s d) item.line) (sym (after-journal_of_script net is)) ∙ sym h.1 in
        let ds : decisions stated.items ≡ decisions is ++ d ∷ decisions more =
        ap decisions whole ∙ (decisions-append is (item ∷ more)
        ∙ ap (λ a. decisions is ++ decisions_onto a (decisions more)) e) in
        let ls : decision_lines stated.items ≡ decision_lines is ++ item.line ∷ decision_lines more =
        ap decision_lines whole ∙ (lines-append is (item ∷ more)
        ∙ ap (λ a. decision_lines is ++ lines_onto item.line a (decision_lines more)) e) in
        let first : first_refusal net (decisions stated.items)
        ≡ Some (length (decisions is), reply (after_all (outset net) (decisions is)) d) =
        ap (first_refusal net) ds ∙ refused_is_first net (decisions is) d (decisions more) none other in
        let line : slice_get (decision_lines stated.items) (length (decisions is)) ≡ Some item.line =
        ap (λ l. slice_get l (length (decisions is))) ls
        ∙ at_length (decision_lines is) (decision_lines more) item.line (length (decisions is))
        (sym (lines-length is)) in
        subst (IsRefusal net stated) stop_is
        (ap (option_map (by_line (decision_lines stated.items))) first
        ∙ ap (λ o. Some (reply (after_all (outset net) (decisions is)) d, unwrap_or o 0)) line)

-- ---- a book at an item

-- a book of the network is the journal of the first i items of a script, whose decisions were all accepted
pub record IsAt (net : Net) (is : List Item) (i : ℕ) (book : BookView) : Type 0 where
  pub net_is : book.net ≡ net
  pub events : book.events ≡ journal_of_script net (questions (take i is))
  pub none : first_refusal net (decisions (take i is)) ≡ None
  pub accepted : IsAcceptedJournal book.net book.events

-- an empty book of the network is at the first item
pub IsAt-begin : (net : Net) (is : List Item) (book : BookView) → book ≡ record { net = net; events = [] }
    → IsAt net is 0 book
IsAt-begin net is book e = record {
  net_is = ap (λ (b : BookView). b.net) e;
  events = ap (λ (b : BookView). b.events) e;
  none = refl;
  accepted = none_asked book.net book.events (ap (λ (b : BookView). b.events) e);
}

module _ (net : Net) (is : List Item) (i : ℕ) (item : Item) (old : BookView) (there : slice_get is i ≡ Some item)
    (at : IsAt net is i old) where
  -- the book and the journal of the earlier items lead to the same clones and front
  journal_is : after old.net old.events ≡ after net (journal_of_script net (questions (take i is)))
  journal_is = ap₂ after at.net_is at.events

  -- with an item that is a look, or an accepted decision, the book is at the next item
  pub goes_on : (new : BookView) → new.net ≡ old.net
      → new.events ≡ journal_after old.net old.events item.analyst item.act
      → AcceptsAct (after old.net old.events) item.act
      → (IsAcceptedJournal old.net old.events → IsAcceptedJournal new.net new.events) → IsAt net is (i + 1) new
  goes_on new same events accepts all = record {
    net_is = same ∙ at.net_is;
    events = events ∙ (ap₂ (λ n es. journal_after n es item.analyst item.act) at.net_is at.events
        ∙ (sym (journal-more net (take i is) item) ∙ ap (λ l. journal_of_script net (questions l))
        (first_are is i item there)));
    none = ap (λ l. first_refusal net (decisions l)) (sym (first_are is i item there))
        ∙ none-more net (take i is) item at.none (subst (λ s. AcceptsAct s item.act) journal_is accepts);
    accepted = all at.accepted;
  }

  -- if the item is a refused decision, it is the first one of the script, and the stop reports it
  refused_here : (stated : ScriptView) (stop : Stop) → stated.items ≡ is
      → RefusesAct (after old.net old.events) item.line item.act stop → IsRefusal net stated stop
  refused_here stated stop e h =
      refused_at net (take i is) (drop (i + 1) is) item stop stated (e ∙ sym (all_are is i item there)) at.none
      (subst (λ s. RefusesAct s item.line item.act stop) journal_is h)

  -- out of memory stays out of memory
  pub refused_or_memory : (stated : ScriptView) (r : Refusal) → stated.items ≡ is
      → IsMemoryOrStop (RefusesAct (after old.net old.events) item.line item.act) r
      → IsMemoryOrStop (IsRefusal net stated) r
  refused_or_memory stated OutOfMemory e h = tt
  refused_or_memory stated (Stopped stop) e h = refused_here stated stop e h
  refused_or_memory stated r e h = absurd h

-- at the end all decisions were accepted
pub IsAt-end : (net : Net) (stated : ScriptView) (i : ℕ) (book : BookView) → length stated.items ≤ i
    → IsAt net stated.items i book → IsDecided net stated book
IsAt-end net stated i book last at =
    let all : take i stated.items ≡ stated.items = take_all i stated.items last in
    let events : book.events ≡ script_journal net stated =
    at.events ∙ ap (λ l. journal_of_script net (questions l)) all in
    record {
      net_is = at.net_is;
      events = events;
      none = ap (option_map (by_line (decision_lines stated.items)))
          (ap (λ l. first_refusal net (decisions l)) (sym all) ∙ at.none);
      accepted = subst (λ n. IsAcceptedJournal n book.events) at.net_is at.accepted;
      clones = ap (λ (s : Situation). s.clones) (ap (after net) events ∙ after-journal_of_script net stated.items);
    }
