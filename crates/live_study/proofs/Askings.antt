-- What one decision more does to what was asked.
use Rattle.std.proofs.Common.{◌≡◌, ⊎_elim, ℕ, List, [], ◌∷◌, ◌++◌, length, true≢false}
use Rattle.std.proofs.Common.{refl, sym, ap, ◌∙◌, subst, arith, length-append}
use Rattle.sim_base.specs.declared.decision.Decision.{Decision}
use Rattle.decision_book.specs.declared.call.Call.{Call}
use Rattle.decision_book.specs.Journal.{Event, call_of, calls_of}
use Rattle.decision_desk.specs.declared.pass.Receipt.{Receipt}
use Rattle.decision_desk.specs.Accounts.{Account}
use Rattle.decision_desk.specs.Turns.{with_call, full_account}
use Rattle.decision_desk.specs.Passes.{PassView, IsAsked, HasEntered, HasFoundFull}
use Rattle.live_study.specs.Asking.{decisions_in, AreAsked}

-- ---- decisions_in
-- the decisions of calls with one call more
decisions_in-push : (ps : List (ℕ × Call)) (p : ℕ × Call)
    → decisions_in (ps ++ p ∷ []) ≡ decisions_in ps ++ p.1.decision ∷ []
decisions_in-push [] p = refl
decisions_in-push (q ∷ ps) p = ap (λ l. q.1.decision ∷ l) (decisions_in-push ps p)

-- ---- with_call, full_account
-- an account with one call more has asked the decision of that call too
with_one : (ds : List Decision) (a : Account) (j : List Event) (c : Call) → AreAsked ds a
    → AreAsked (ds ++ c.decision ∷ []) (with_call a j c)
with_one ds a j c s = record {
  all = λ e. decisions_in-push a.calls (length (calls_of j), c) ∙ ap (λ l. l ++ c.decision ∷ []) (s.all e);
  at_most = omega (
    arith,
    length-append a.calls ((length (calls_of j), c) ∷ []),
    length-append ds (c.decision ∷ []),
    s.at_most,
  );
  fewer = λ e. omega (
    arith,
    length-append a.calls ((length (calls_of j), c) ∷ []),
    length-append ds (c.decision ∷ []),
    s.fewer e,
  );
}

-- an account whose decision was answered Full has asked it too, and has no call more
with_full : (ds : List Decision) (a : Account) (d : Decision) → AreAsked ds a → AreAsked (ds ++ d ∷ []) (full_account a)
with_full ds a d s = record {
  all = λ e. absurd (true≢false e);
  at_most = omega (arith, length-append ds (d ∷ []), s.at_most);
  fewer = λ e. omega (arith, length-append ds (d ∷ []), s.at_most);
}

-- ---- IsAsked
-- a pass that asks one decision more has asked that too, at the same desk and for the same caller
pub asked_more : (ds : List Decision) (old new : PassView) (d : Decision) (receipt : Receipt) (j : List Event)
    → AreAsked ds old.account → IsAsked old d receipt new j
    → AreAsked (ds ++ d ∷ []) new.account × (new.desk ≡ old.desk) × (new.account.caller ≡ old.account.caller)
asked_more ds old new d receipt j s a =
    let Then : List Event → Account → Type 0 = λ events b. new ≡ record old { seen = events; account = b } in
    ⊎_elim
    (λ (h : HasEntered j old.account d receipt Then).
    subst (λ (n : PassView). AreAsked (ds ++ d ∷ []) n.account × (n.desk ≡ old.desk)
    × (n.account.caller ≡ old.account.caller)) (sym h.3)
    (with_one ds old.account j (call_of old.account.caller j d receipt.reply) s, refl, refl))
    (λ (h : HasFoundFull j old.account receipt Then).
    subst (λ (n : PassView). AreAsked (ds ++ d ∷ []) n.account × (n.desk ≡ old.desk)
    × (n.account.caller ≡ old.account.caller)) (sym h.3) (with_full ds old.account d s, refl, refl))
    a.outcome
