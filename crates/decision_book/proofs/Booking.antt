-- A book after a call and after a front.
use Rattle.std.proofs.Common.{◌≡◌, ℕ, ◌<◌, ◌≤◌, List, [], ◌∷◌, ◌++◌, length}
use Rattle.std.proofs.Common.{sym, ap, ◌∙◌, ap₂, arith, false}
use Rattle.std.proofs.lemmas.List.{length_push}
use Rattle.std.proofs.lemmas.List.Sums.{fold_push}
use Rattle.sim_base.specs.Clones.{Clone, ListsView}
use Rattle.net_model.specs.Net.{Net}
use Rattle.decision_book.specs.declared.call.Call.{Call}
use Rattle.decision_book.specs.Journal.{NewFront, NewCall, calls_of, fronts_of}
use Rattle.decision_book.specs.Journal.{Situation, after_event, clones_after_reply, with_reply, is_full}
use Rattle.decision_book.specs.Replies.{reply}
use Rattle.decision_book.specs.Right.{IsRightCall, MayFollow, journal_with}
use Rattle.decision_book.specs.Plans.{ArePlanned}
use Rattle.decision_book.specs.Books.{HaveRoom, IsBook, journal_of}
use Rattle.decision_book.proofs.Fulls.{is_full-false, with_reply-not_full}
use Rattle.decision_book.proofs.Growing.{each_push, AreInOrder-push, AreInOrder-front, journal_from-call}
use Rattle.decision_book.proofs.Growing.{journal_from-front, calls_of-journal_from, fronts_of-journal_from}

-- ---- IsNextCall

-- a call of the book, before it is put there
pub record IsNextCall (net : Net) (clones : List Clone) (calls : List Call) (fronts : List ℕ) (last : ℕ)
    (call : Call) : Type 0 where
  pub stamp : call.fronts ≡ length fronts
  pub answer : call.reply ≡ reply
      (record { net = net; clones = clones; front = last; calls = length calls }) call.decision
  pub not_full : is_full call.reply ≡ false

-- a next call is a right one after the journal of the book
answered_in : (net : Net) (clones : List Clone) (calls : List Call) (fronts : List ℕ) (last : ℕ)
    (call : Call) → IsBook net clones calls fronts last → IsNextCall net clones calls fronts last call
    → IsRightCall net (journal_of calls fronts) call
answered_in net clones calls fronts last call h n = record {
  fronts = n.stamp ∙ ap length (sym (fronts_of-journal_from 0 calls fronts));
  answer = n.answer ∙ ap (λ (s : Situation). reply s call.decision) (sym h.situation);
  not_full = is_full-false call.reply n.not_full;
}

-- ---- HaveRoom

-- a change of the clones keeps the reserved memory
pub HaveRoom-clones : (old new : ListsView) (clones : List Clone) → new ≡ record old { clones = clones }
    → HaveRoom old → HaveRoom new
HaveRoom-clones old new clones e h = record {
  reserved_clones = ap (λ (l : ListsView). l.reserved_clones) e ∙ h.reserved_clones;
  reserved_plans = ap (λ (l : ListsView). l.reserved_plans) e ∙ h.reserved_plans;
}

-- ---- IsBook, journal_of: a call

-- a call is added to a book
pub IsBook-call : (net : Net) (clones then : List Clone) (calls : List Call) (fronts : List ℕ) (last : ℕ)
    (call : Call) → IsBook net clones calls fronts last → IsNextCall net clones calls fronts last call
    → then ≡ clones_after_reply net clones call.decision call.reply
    → ArePlanned net then
    → IsBook net then (calls ++ call ∷ []) fronts last
IsBook-call net clones then calls fronts last call h n e planned =
    let more = journal_from-call 0 (length fronts) calls fronts call (omega arith) h.stamps n.stamp in
    let before = journal_of calls fronts in
    record {
      situation = rw (more, fold_push) (ap (λ s. after_event s (NewCall call)) h.situation
          ∙ (λ i. record {
            net = net;
            clones = sym e i;
            front = last;
            calls = sym (length_push calls call) i;
          }));
      right = rw more (each_push (MayFollow net) [] before (NewCall call) h.right
          (answered_in net clones calls fronts last call h n));
      stamps = AreInOrder-push 0 (length fronts) calls call n.stamp h.stamps;
      at_most = h.at_most;
      time_max = h.time_max;
      horizon_max = h.horizon_max;
      planned = planned;
    }

-- and its journal is the one with the call added
pub journal_of-call : (net : Net) (clones : List Clone) (calls : List Call) (fronts : List ℕ) (last : ℕ)
    (call : Call) → IsBook net clones calls fronts last → IsNextCall net clones calls fronts last call
    → journal_of (calls ++ call ∷ []) fronts ≡ journal_with net (journal_of calls fronts)
    call.caller call.decision
journal_of-call net clones calls fronts last call h n =
    let a = answered_in net clones calls fronts last call h n in
    let es = journal_of calls fronts in
    journal_from-call 0 (length fronts) calls fronts call (omega arith) h.stamps n.stamp
    ∙ ap (λ k. es ++ NewCall (record {
      caller = call.caller;
      fronts = k;
      decision = call.decision;
      reply = call.reply;
    }) ∷ []) a.fronts
    ∙ sym (with_reply-not_full es call.caller call.decision call.reply (is_full-false call.reply n.not_full))
    ∙ ap (with_reply es call.caller call.decision) a.answer

-- ---- IsBook, journal_of: a front

-- the front is raised
pub IsBook-front : (net : Net) (clones : List Clone) (calls : List Call) (fronts : List ℕ)
    (last front : ℕ) → IsBook net clones calls fronts last → last < front → front ≤ net.horizon
    → IsBook net clones calls (fronts ++ front ∷ []) front
IsBook-front net clones calls fronts last front h above within =
    let more = journal_from-front 0 (length fronts) calls fronts front (omega arith) h.stamps in
    let before = journal_of calls fronts in
    let longer = length_push fronts front in
    record {
      situation = rw (more, fold_push) (ap (λ s. after_event s (NewFront front)) h.situation);
      right = rw more (each_push (MayFollow net) [] before (NewFront front) h.right (rw h.situation above, within));
      stamps = rw longer (AreInOrder-front 0 (length fronts) calls h.stamps);
      at_most = omega (arith, longer, h.at_most, above);
      time_max = within;
      horizon_max = h.horizon_max;
      planned = h.planned;
    }

-- and its journal is the one with the front added
pub journal_of-front : (net : Net) (clones : List Clone) (calls : List Call) (fronts : List ℕ)
    (last front : ℕ) → IsBook net clones calls fronts last
    → journal_of calls (fronts ++ front ∷ []) ≡ journal_of calls fronts ++ NewFront front ∷ []
journal_of-front net clones calls fronts last front h =
    journal_from-front 0 (length fronts) calls fronts front (omega arith) h.stamps

-- ---- journal_of

-- a journal is its calls and fronts put together
pub journal_of-whole : (calls : List Call) (fronts : List ℕ)
    → journal_of (calls_of (journal_of calls fronts)) (fronts_of (journal_of calls fronts)) ≡ journal_of calls fronts
journal_of-whole calls fronts = ap₂ journal_of (calls_of-journal_from 0 calls fronts)
    (fronts_of-journal_from 0 calls fronts)
