-- What contracts see of a pass and of the helm, and the effect of their turns.
use Rattle.std.specs.Prelude.{◌≡◌, ◌≢◌, ◌⊎◌, ℕ, zero, suc, ◌+◌, ◌-◌, ◌<◌, ◌≤◌, List, []}
use Rattle.std.specs.Prelude.{◌∷◌, ◌++◌, length, map, true, Some, None, Option, MatchOption, nat_lt, if◌then◌else◌}
use mathlib.Core.List.{IsPrefix}
use Rattle.atomic_table.specs.Table.{Me}
use Rattle.atomic_table.specs.Seated.{TableId}
use Rattle.sim_base.specs.Reserved.{ReservedView}
use Rattle.sim_base.specs.declared.decision.Decision.{Decision}
use Rattle.net_model.specs.Net.{Net}
use Rattle.decision_book.specs.declared.call.Call.{Call}
use Rattle.decision_book.specs.declared.call.TheConstants.{MAX_CALLS}
use Rattle.decision_book.specs.declared.call.Reply.{Reply}
use Rattle.decision_book.specs.declared.call.Reply.TheVariants.{Full}
use Rattle.decision_book.specs.Journal.{Event, NewCall, NewFront, call_of, calls_of, after, front_of}
use Rattle.decision_book.specs.Books.{BookView, IsCallUnlessFull}
use Rattle.decision_book.specs.Replies.{reply}
use Rattle.decision_book.specs.Scripts.{accepted_of}
use Rattle.decision_book.specs.Right.{IsRight}
use Rattle.decision_desk.specs.declared.desk.TheConstants.{MAX_PARTS}
use Rattle.decision_desk.specs.Accounts.{Account, AreAccounts, accounts_of, calls_by, OnlyCalls}
use Rattle.decision_desk.specs.Leasts.{leasts_of}
use Rattle.decision_desk.specs.Turns.{Slot, IsDeskTable, book_of, in_line, view_with_turn, pass_view}
use Rattle.decision_desk.specs.Turns.{helm_view, new_account, with_call, full_account}
use Rattle.decision_desk.specs.declared.view.View.{View}
use Rattle.stations.specs.Runs.{next_front}
use Rattle.decision_desk.specs.declared.pass.Receipt.{Receipt}
use Rattle.decision_desk.specs.declared.helm.Turn.{Turn}

-- ---- pass

-- what contracts see of a pass: its desk and network, the journal that it has seen, and the caller's account
pub record PassView : Type 0 where
  pub desk : TableId
  pub net : Net
  pub seen : List Event
  pub account : Account

-- the first of these accounts, or a new one of caller 0 if there is none
abbrev pub first_account : List Account → Account
first_account [] = new_account 0
first_account (a ∷ as') = a

-- what contracts see of a pass with this desk and this view
abbrev pub view_of_pass : TableId → View → PassView
view_of_pass desk v = record { desk = desk; net = v.net; seen = v.seen; account = first_account v.accounts }

-- a pass at rest: its part of the desk, what it has seen and its account
abbrev pub IsPassAtRest : Me Slot View → Type 0
IsPassAtRest me = me ≡ (pass_view me.0.net me.0.seen (first_account me.0.accounts), [])

-- the view of a pass in its turn
abbrev pub turn_view : Net → List Event → Account → ℕ → View
turn_view net j a ticket = view_with_turn (pass_view net j a) true ticket true j

-- a pass in its turn, while it holds the book
abbrev pub IsPassInTurn : Me Slot View → Type 0
IsPassInTurn me = me ≡ (turn_view me.0.net me.0.seen (first_account me.0.accounts) me.0.ticket, (0, None) ∷ [])

-- the receipt of a call that is in the journal
abbrev pub receipt_of : ℕ × Call → Receipt
receipt_of p = record { entry = Some p.0; reply = p.1.reply }

-- a pass at rest: one part of the desk, its account, the receipts of its calls, and memory reserved for the maximum
-- number of receipts
pub record IsPass (caller : ℕ) (receipts : ReservedView Receipt) (desk : TableId) (me : Me Slot View) : Type 0 where
  pub sized : IsDeskTable desk
  pub rest : IsPassAtRest me
  pub caller_is : (first_account me.0.accounts).caller ≡ caller
  pub receipts_are : receipts.items ≡ map receipt_of (first_account me.0.accounts).calls
  pub reserved : receipts.reserved ≡ MAX_CALLS

-- ---- turns of a pass

-- the reply of the table of refusals to a decision, and the call that is returned: the last of the book, or none if the
-- book was full
pub record HasAnswered (old : BookView) (caller : ℕ) (d : Decision) (answer : Reply) (told : Option Call)
    (new : BookView) : Type 0 where
  pub answer_is : answer ≡ reply (after old.net old.events) d
  pub call : IsCallUnlessFull old caller d answer told new
  pub places : MatchOption told (MAX_CALLS ≤ length (calls_of old.events))
      (λ _. length (calls_of old.events) < MAX_CALLS)

-- the journal j continues what the pass has seen, and the pass's account is right for j
pub record ComesBehind (seen : List Event) (a : Account) (j : List Event) : Type 0 where
  pub begins : IsPrefix seen j
  pub rises : front_of seen ≤ front_of j
  pub right : AreAccounts j (a ∷ [])
  pub at_most : length (calls_of j) ≤ MAX_CALLS

-- a pass that has come to its turn, after the events j
pub record PassHasTurn (net : Net) (seen : List Event) (a : Account) (me : Me Slot View) (j : List Event) : Type 0 where
  pub ticket : ℕ
  pub comes : ComesBehind seen a j
  pub is : me ≡ (turn_view net j a ticket, (0, book_of net j) ∷ [])

-- the call is in the account, and in the journal at the place on the receipt; `Then` holds of both afterwards
abbrev pub HasEntered : List Event → Account → Decision → Receipt → (List Event → Account → Type 0) → Type 0
HasEntered j a d receipt Then = (receipt.reply ≢ Full) × (receipt.entry ≡ Some (length (calls_of j)))
    × (length (calls_of j) < MAX_CALLS)
    × Then (j ++ NewCall (call_of a.caller j d receipt.reply) ∷ [])
    (with_call a j (call_of a.caller j d receipt.reply))

-- the reply is Full: the journal is unchanged, and the account is marked; `Then` holds of both afterwards
abbrev pub HasFoundFull : List Event → Account → Receipt → (List Event → Account → Type 0) → Type 0
HasFoundFull j a receipt Then = (receipt.reply ≡ Full) × (receipt.entry ≡ None) × (length (calls_of j) ≡ MAX_CALLS)
    × Then j (full_account a)

-- the two outcomes of a decision for the journal and the caller's account
abbrev pub HasEnteredOrFull : List Event → Account → Decision → Receipt → (List Event → Account → Type 0) → Type 0
HasEnteredOrFull j a d receipt Then = HasEntered j a d receipt Then ⊎ HasFoundFull j a receipt Then

-- the result of a pass's turn, after the events j: it is at rest, with the new journal and the new account
pub record IsPassTurn (net : Net) (seen : List Event) (a : Account) (d : Decision) (receipt : Receipt)
    (new : Me Slot View) (j : List Event) : Type 0 where
  pub comes : ComesBehind seen a j
  pub reply_is : receipt.reply ≡ reply (after net j) d
  pub outcome : HasEnteredOrFull j a d receipt (λ events b. new ≡ (pass_view net events b, []))

-- the same, as contracts see it
pub record IsAsked (old : PassView) (d : Decision) (receipt : Receipt) (new : PassView) (j : List Event) : Type 0 where
  pub begins : IsPrefix old.seen j
  -- the front at the decision is at least the one that was seen
  pub rises : front_of old.seen ≤ front_of j
  pub reply_is : receipt.reply ≡ reply (after old.net j) d
  -- the call is in the journal, at the place on the receipt; or the journal is full
  pub outcome : HasEnteredOrFull j old.account d receipt (λ events b. new ≡ record old { seen = events; account = b })

-- ---- helm

-- what contracts see of a helm: the journal that it has seen, and the journal when it last raised the front; its parts,
-- the number of passes made, and the accounts that were handed back
pub record HelmView : Type 0 where
  pub desk : TableId
  pub net : Net
  pub parts : ℕ
  pub seen : List Event
  pub helm : List Event
  pub made : ℕ
  pub accounts : List Account

-- what contracts see of a helm with this desk and this view
abbrev pub view_of_helm : TableId → View → HelmView
view_of_helm desk v = record {
  desk = desk;
  net = v.net;
  parts = v.parts;
  seen = v.seen;
  helm = v.helm;
  made = v.made;
  accounts = v.accounts;
}

-- the helm at rest: its parts of the desk, at least one, what it has seen, and the accounts that were handed back
pub record IsHelmAtRest (me : Me Slot View) : Type 0 where
  pub is : me ≡ (helm_view me.0.net me.0.parts me.0.seen me.0.helm me.0.made me.0.accounts, [])
  pub part : 0 < me.0.parts

-- the view of the helm in its turn
abbrev pub helm_turn_view : Net → ℕ → List Event → List Event → ℕ → List Account → ℕ → View
helm_turn_view net parts j helm made accounts ticket =
    view_with_turn (helm_view net parts j helm made accounts) true ticket true j

-- the helm in its turn, while it holds the book
pub record IsHelmInTurn (me : Me Slot View) : Type 0 where
  pub is : me ≡ (
    helm_turn_view me.0.net me.0.parts me.0.seen me.0.helm me.0.made me.0.accounts me.0.ticket,
    (0, None) ∷ [],
  )
  pub part : 0 < me.0.parts

-- a helm at rest: the number of passes made, and what it knew at its last turn
pub record IsHelm (made known front : ℕ) (desk : TableId) (me : Me Slot View) : Type 0 where
  pub sized : IsDeskTable desk
  pub rest : IsHelmAtRest me
  pub made_is : me.0.made ≡ made
  -- the number of calls when it last raised the front
  pub known_is : known ≡ length (calls_of me.0.helm)
  -- and that front
  pub front_is : front ≡ front_of me.0.helm

-- ---- passes and helm of a new desk

-- the pass of a caller that has not submitted anything
abbrev pub new_pass : TableId → Net → ℕ → PassView
new_pass desk net x = record { desk = desk; net = net; seen = []; account = new_account x }

-- the new passes of the callers from 1 to n
abbrev pub new_passes : TableId → Net → ℕ → List PassView
new_passes desk net zero = []
new_passes desk net (suc n) = new_passes desk net n ++ new_pass desk net (n + 1) ∷ []

-- the helm, once n passes were made
abbrev pub new_helm : TableId → Net → ℕ → HelmView
new_helm desk net n = record {
  desk = desk;
  net = net;
  parts = MAX_PARTS - n;
  seen = [];
  helm = [];
  made = n;
  accounts = [];
}

-- ---- looks of a pass

-- the front was seen, after the events j
abbrev pub pass_after_look : PassView → List Event → PassView
pass_after_look p j = record p { seen = j; account = record p.account { fronts = p.account.fronts ++ front_of j ∷ [] } }

-- the front, if this time is below it, and otherwise none
abbrev pub late_front : ℕ → ℕ → Option ℕ
late_front front time = if nat_lt time front then Some front else None

-- ---- the book at the end

-- the book that a desk leaves
pub record IsFinalBook (helm : HelmView) (book : BookView) : Type 0 where
  pub net : book.net ≡ helm.net
  pub seen : IsPrefix helm.seen book.events
  pub only_calls : OnlyCalls helm.helm book.events
  -- each account has its caller's calls, and each front that it saw is one of the journal's
  pub accounts : AreAccounts book.events helm.accounts
  -- each caller of a pass that was made has one account
  pub once : (x : ℕ) → accounts_of x helm.accounts ≡ in_line x 1 (helm.made + 1)
  -- other callers have no calls
  pub others : (x : ℕ) → accounts_of x helm.accounts ≡ 0 → calls_by x book.events ≡ []

-- ---- turns of the helm

-- a helm that has come to its turn: only calls came since it last raised the front
pub record HelmHasTurn (old : View) (me : Me Slot View) (j : List Event) : Type 0 where
  pub ticket : ℕ
  pub only_calls : OnlyCalls old.helm j
  pub is : me ≡ (helm_turn_view old.net old.parts j old.helm old.made old.accounts ticket, (0, book_of old.net j) ∷ [])

-- only calls came since `known` calls were in the journal; these are the clones' least times at that point, which is
-- below the horizon
pub record IsSince (book : BookView) (known : ℕ) (least : List (Option ℕ)) : Type 0 where
  pub helm : List Event
  pub calls : List Call
  pub events : book.events ≡ helm ++ map NewCall calls
  pub known_is : known ≡ length (calls_of helm)
  pub below : front_of helm < book.net.horizon
  pub least_is : least ≡ leasts_of book.net (after book.net helm).clones (front_of helm)

-- the accepted calls since the helm's last turn, and the next front
pub record IsTurnAhead (book : BookView) (helm : List Event) (cs fresh : List Call) (front : ℕ) : Type 0 where
  pub fresh_is : fresh ≡ accepted_of cs
  pub front_is : front ≡ next_front book.net (after book.net book.events).clones (front_of helm)
  -- no call raises the front, so it is the next one after the whole book
  pub next : front ≡ next_front book.net (after book.net book.events).clones (after book.net book.events).front
  pub later : (after book.net book.events).front < front
  pub above : front_of book.events < front
  pub within : front ≤ book.net.horizon
  pub right : IsRight book.net book.events

-- the result of a turn of the helm over these events: the accepted calls since its last turn, and the next front
pub record IsTurnOver (net : Net) (events helm : List Event) (cs : List Call) (turn : Turn) : Type 0 where
  pub fresh : turn.fresh.items ≡ accepted_of cs
  pub front : turn.front ≡ next_front net (after net events).clones (front_of helm)
  pub above : front_of events < turn.front
  pub within : turn.front ≤ net.horizon
  -- so each accepted set or end has a time at least the front
  pub right : IsRight net events

-- a turn of the helm over the book
pub record IsHelmTurn (old : BookView) (helm : List Event) (cs : List Call) (turn : Turn) (new : BookView) :
    Type 0 where
  pub over : IsTurnOver old.net old.events helm cs turn
  pub new_is : new ≡ record old { events = old.events ++ NewFront turn.front ∷ [] }

-- a turn of the helm: only calls came since its last turn, and the front is the next one
pub record IsNextTurn (old : HelmView) (turn : Turn) (new : HelmView) (cs : List Call) : Type 0 where
  pub over : IsTurnOver old.net (old.helm ++ map NewCall cs) old.helm cs turn
  pub new_is : new ≡ record old {
    seen = (old.helm ++ map NewCall cs) ++ NewFront turn.front ∷ [];
    helm = (old.helm ++ map NewCall cs) ++ NewFront turn.front ∷ [];
  }

-- a turn that ran out of memory
abbrev pub IsMissedTurn : HelmView → HelmView → Type 0
IsMissedTurn old new = (j : List Event) × OnlyCalls old.helm j × (new ≡ record old { seen = j })
