-- How a pass and the helm come to their turns. A pass has room for its call's receipt.
use Rattle.std.proofs.Common.{◌≡◌, ⊎_elim, ℕ, ◌+◌, ◌<◌, ◌≤◌, Bool, true, false}
use Rattle.std.proofs.Common.{List, [], ◌∷◌, length, sym, ap}
use Rattle.std.proofs.Common.{◌∙◌, subst, arith, true≢false, is_some, if◌then◌else◌, nat_eq, suc}
use Rattle.std.proofs.lemmas.List.{length-map}
use mathlib.Core.List.{IsPrefix}
use Rattle.atomic_table.specs.Table.{Me}
use Rattle.sim_base.specs.declared.decision.Decision.{Decision}
use Rattle.decision_book.specs.declared.call.Call.{Call}
use Rattle.decision_book.specs.declared.call.TheConstants.{MAX_CALLS}
use Rattle.decision_book.specs.Journal.{Event, calls_of, front_of}
use Rattle.decision_desk.specs.declared.view.View.{View}
use Rattle.decision_desk.specs.declared.pass.Receipt.{Receipt}
use Rattle.sim_base.specs.Reserved.{ReservedView}
use Rattle.atomic_table.specs.Seated.{TableId}
use Rattle.decision_desk.specs.Accounts.{Account, AreAccounts, OnlyCalls, calls_from, calls_by}
use Rattle.decision_desk.specs.Turns.{Slot, IsWaiting, book_of, view_with_turn, pass_view, helm_view}
use Rattle.decision_desk.specs.Passes.{first_account, turn_view, IsHelmAtRest, HelmHasTurn, PassHasTurn, IsPassTurn}
use Rattle.decision_desk.specs.Passes.{IsPass, receipt_of, HasEntered, HasFoundFull}

-- ---- PassHasTurn

-- the state of a seat: its view, and the slots that it holds
abbrev Hand : Type 0
Hand = Me Slot View

-- a pass at rest that has drawn a ticket waits with it, without the turn
pub waits_with_ticket : (m m1 : Hand) (a : Account) (t : ℕ) → m ≡ (pass_view m.0.net m.0.seen a, [])
    → m1 ≡ (view_with_turn m.0 true t false m.0.seen, m.1)
    → m1 ≡ (view_with_turn (pass_view m.0.net m.0.seen a) true t false m.0.seen, [])
waits_with_ticket m m1 a t rest drew = drew ∙ ap (λ (x : Hand). (view_with_turn x.0 true t false x.0.seen, x.1)) rest

-- once the ticket is served, it has the turn, the whole journal and the book
comes_to_turn : (m m1 m2 : Hand) (a : Account) (t : ℕ) (j : List Event) → m ≡ (pass_view m.0.net m.0.seen a, [])
    → m1 ≡ (view_with_turn m.0 true t false m.0.seen, m.1)
    → m2 ≡ (view_with_turn m1.0 true m1.0.ticket true j, (0, book_of m1.0.net j) ∷ m1.1)
    → m2 ≡ (turn_view m.0.net j a t, (0, book_of m.0.net j) ∷ [])
comes_to_turn m m1 m2 a t j rest drew turn =
    turn ∙ ap (λ (x : Hand). (view_with_turn x.0 true x.0.ticket true j, (0, book_of x.0.net j) ∷ x.1))
    (waits_with_ticket m m1 a t rest drew)

-- a pass at rest that has drawn a ticket, and whose ticket is served, has come to its turn
pub has_turn : (m m1 m2 : Hand) (a : Account) (t : ℕ) (j : List Event) → m ≡ (pass_view m.0.net m.0.seen a, [])
    → m1 ≡ (view_with_turn m.0 true t false m.0.seen, m.1)
    → IsPrefix m1.0.seen j → length (calls_of j) ≤ MAX_CALLS → AreAccounts j m1.0.accounts
    → m2 ≡ (view_with_turn m1.0 true m1.0.ticket true j, (0, book_of m1.0.net j) ∷ m1.1)
    → front_of m1.0.seen ≤ front_of j → PassHasTurn m.0.net m.0.seen a m2 j
has_turn m m1 m2 a t j rest drew begins few right turn rises =
    let e = waits_with_ticket m m1 a t rest drew in
    record {
      ticket = t;
      comes = record {
        begins = subst (λ (x : Hand). IsPrefix x.0.seen j) e begins;
        rises = subst (λ (x : Hand). front_of x.0.seen ≤ front_of j) e rises;
        right = subst (λ (x : Hand). AreAccounts j x.0.accounts) e right;
        at_most = few;
      };
      is = comes_to_turn m m1 m2 a t j rest drew turn;
    }

-- ---- IsPass

-- a list that may get one more call is at most one longer
short_or : (b : Bool) (n : ℕ) (c : Call) (xs : List (ℕ × Call)) (k : ℕ) → length xs ≤ k
    → length (if b then (n, c) ∷ xs else xs) ≤ k + 1
short_or true n c xs k h = omega (arith, h)
short_or false n c xs k h = omega (arith, h)

-- a caller has no more calls than the journal
by_short : (x n : ℕ) (cs : List Call) → length (calls_from x n cs) ≤ length cs
by_short x n [] = omega arith
by_short x n (c ∷ cs) =
    let h = short_or (nat_eq c.caller x) n c (calls_from x (n + 1) cs) (length cs) (by_short x (n + 1) cs) in
    let e : length cs + 1 ≡ suc (length cs) = omega arith in
    subst (λ k. length (if nat_eq c.caller x then (n, c) ∷ calls_from x (n + 1) cs else calls_from x (n + 1) cs) ≤ k)
    e h

-- a pass has room for the receipt of a call that is in the journal
pub places_left : (caller : ℕ) (receipts : ReservedView Receipt) (desk : TableId) (m new : Hand) (d : Decision)
    (receipt : Receipt) (j : List Event)
    → IsPass caller receipts desk m → IsPassTurn m.0.net m.0.seen (first_account m.0.accounts) d receipt new j
    → is_some receipt.entry ≡ true → length receipts.items < receipts.reserved
places_left caller receipts desk m new d receipt j p t some_entry =
    let a : Account = first_account m.0.accounts in
    let Then : List Event → Account → Type 0 = λ events b. new ≡ (pass_view m.0.net events b, []) in
    ⊎_elim
    (λ (h : HasEntered j a d receipt Then).
    let items : length receipts.items ≡ length a.calls = ap length p.receipts_are ∙ length-map a.calls receipt_of in
    let own : length a.calls ≡ length (calls_by a.caller j) = ap length t.comes.right.0.calls in
    omega (arith, items, own, by_short a.caller 0 (calls_of j), h.2, p.reserved))
    (λ (h : HasFoundFull j a receipt Then).
    absurd (true≢false (sym some_entry ∙ ap is_some h.1)))
    t.outcome

-- ---- HelmHasTurn

-- a helm at rest that has drawn a ticket waits with it, without the turn
helm_waits_with_ticket : (m m1 : Hand) (t : ℕ)
    → IsHelmAtRest m
    → m1 ≡ (view_with_turn m.0 true t false m.0.seen, m.1)
    → m1 ≡ (
      view_with_turn (helm_view m.0.net m.0.parts m.0.seen m.0.helm m.0.made m.0.accounts) true t false m.0.seen,
      [],
    )
helm_waits_with_ticket m m1 t rest drew =
    drew ∙ ap (λ (x : Hand). (view_with_turn x.0 true t false x.0.seen, x.1)) rest.is

-- a helm at rest that has drawn a ticket waits without the turn, and still has a part
pub helm_waits : (m m1 : Hand) (t : ℕ) → IsHelmAtRest m
    → m1 ≡ (view_with_turn m.0 true t false m.0.seen, m.1)
    → IsWaiting m1.0
helm_waits m m1 t rest drew =
    let e = helm_waits_with_ticket m m1 t rest drew in (
      ap (λ (x : Hand). x.0.waits) e,
      ap (λ (x : Hand). x.0.turn) e,
      subst (λ n. 0 < n) (sym (ap (λ (x : Hand). x.0.parts) e)) rest.part,
    )

-- once the ticket is served, it has come to its turn
pub helm_has_turn : (m m1 m2 : Hand) (t : ℕ) (j : List Event)
    → IsHelmAtRest m
    → m1 ≡ (view_with_turn m.0 true t false m.0.seen, m.1)
    → (m1.0.steers ≡ true → OnlyCalls m1.0.helm j)
    → m2 ≡ (view_with_turn m1.0 true m1.0.ticket true j, (0, book_of m1.0.net j) ∷ m1.1) → HelmHasTurn m.0 m2 j
helm_has_turn m m1 m2 t j rest drew only turn =
    let e = helm_waits_with_ticket m m1 t rest drew in
    record {
      ticket = t;
      only_calls = subst (λ (x : Hand). OnlyCalls x.0.helm j) e (only (ap (λ (x : Hand). x.0.steers) e));
      is = turn ∙ ap (λ (x : Hand). (view_with_turn x.0 true x.0.ticket true j, (0, book_of x.0.net j) ∷ x.1)) e;
    }
