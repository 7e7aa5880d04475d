-- The rule of the desk: its words, its slot, and what each seat knows.
use Rattle.std.specs.Prelude.{◌≡◌, ℕ, ◌+◌, ◌%◌, ◌^◌, ◌<◌, ◌≤◌, ◌⊎◌, Bool, true, false}
use Rattle.std.specs.Prelude.{List, [], ◌∷◌, ◌++◌, length, nat_eq, nat_lt, MatchBool, if◌then◌else◌, Some}
use Rattle.std.specs.declared.option.Option.{Option as Option'}
use mathlib.Core.Option.{Option, some, none}
use lib.ListN.{get_elem?}
use mathlib.Core.List.{IsPrefix}
use Rattle.atomic_table.specs.Table.{State, Me}
use Rattle.atomic_table.specs.Seated.{TableId}
use Rattle.net_model.specs.Net.{Net}
use Rattle.decision_book.specs.declared.call.Call.{Call}
use Rattle.decision_book.specs.declared.call.TheConstants.{MAX_CALLS}
use Rattle.decision_book.specs.Journal.{Event, NewFront, NewCall, calls_of, front_of}
use Rattle.decision_book.specs.Books.{BookView}
use Rattle.decision_desk.specs.declared.desk.TheConstants.{MAX_PARTS}
use Rattle.decision_desk.specs.Accounts.{Account, AreAccounts, accounts_of, calls_by}
use Rattle.decision_desk.specs.Accounts.{RisesFrom, OnlyCalls}
use Rattle.decision_desk.specs.declared.view.View.{View}

-- ---- table and book

-- a desk's table: it has four words, front, ticket, serving and count, and the slot of the book
pub record IsDeskTable (table : TableId) : Type 0 where
  pub words : table.words ≡ 4
  pub slots : table.slots ≡ 1

-- the seat is at this board, which is a desk's
pub record IsSeatOf (board seat : TableId) : Type 0 where
  pub table : seat ≡ board
  pub sized : IsDeskTable board

-- the content of the slot
abbrev pub Slot : Type 0
Slot = Option' BookView

-- the book with this network and journal, as the slot holds it
abbrev pub book_of : Net → List Event → Slot
book_of net events = Some (record { net = net; events = events })

-- the book as a seat saw it last
abbrev pub seen_book : View → BookView
seen_book v = record { net = v.net; events = v.seen }

-- ---- seats

-- a seat waits with its ticket, and does not have the turn
abbrev pub IsWaiting : View → Type 0
IsWaiting v = (v.waits ≡ true) × (v.turn ≡ false) × (0 < v.parts)

-- a seat is at rest: it does not wait, and does not have the turn
abbrev pub IsAtRest : View → Type 0
IsAtRest v = (v.waits ≡ false) × (v.turn ≡ false) × (0 < v.parts)

-- a seat may end its turn: it has the turn, and holds the book as it saw it
pub record MayEndTurn (me : Me Slot View) : Type 0 where
  pub turn : me.0.turn ≡ true
  pub part : 0 < me.0.parts
  pub home : me.1 ≡ (0, book_of me.0.net me.0.seen) ∷ []

-- a seat has one account
abbrev pub HasOneAccount : View → Type 0
HasOneAccount v = (a : Account) × (v.accounts ≡ a ∷ [])

-- ---- sums over all seats

-- the sum of this number over all seats
abbrev pub total : (View → ℕ) → List View → ℕ
total f [] = 0
total f (v ∷ vs) = f v + total f vs

-- the number of tickets that a seat waits with, one or none
abbrev pub ticket_count : View → ℕ
ticket_count v = if v.waits then 1 else 0

-- 1 if the seat waits with this ticket, and otherwise 0
abbrev pub has_ticket : ℕ → View → ℕ
has_ticket x v = if v.waits then (if nat_eq v.ticket x then 1 else 0) else 0

-- the number of accounts of this caller at the seat
abbrev pub has_caller : ℕ → View → ℕ
has_caller x v = accounts_of x v.accounts

-- 1 if the number is at or after the first, and before the second, and otherwise 0
abbrev pub in_line : ℕ → ℕ → ℕ → ℕ
in_line x from to = if nat_lt x from then 0 else (if nat_lt x to then 1 else 0)

-- ---- the rule

-- what holds of each seat separately, if this ticket is served, over this journal
pub record Fits (net : Net) (serve : ℕ) (journal : List Event) (v : View) : Type 0 where
  pub part : ticket_count v ≤ v.parts
  pub idle : v.parts ≡ 0 → v.accounts ≡ []
  pub about : 0 < v.parts → v.net ≡ net
  pub seen : IsPrefix v.seen journal
  pub turn : v.turn ≡ true → (v.waits ≡ true) × (v.ticket ≡ serve) × (v.seen ≡ journal)
  pub helm : v.steers ≡ true → OnlyCalls v.helm journal
  pub accounts : AreAccounts journal v.accounts

-- this holds of each of these seats
abbrev pub EachFits : Net → ℕ → List Event → List View → Type 0
EachFits net serve journal views = (id : ℕ) (v : View) → get_elem? views id ≡ some v → Fits net serve journal v

-- no seat has the turn
abbrev pub NoTurn : List View → Type 0
NoTurn views = (id : ℕ) (v : View) → get_elem? views id ≡ some v → v.turn ≡ false

-- the slot holds the book with this journal, or some seat has the turn
abbrev pub BookIsHomeOrInTurn : Net → List Event → List (Option Slot) → List View → Type 0
BookIsHomeOrInTurn net journal homes views = ((homes ≡ some (book_of net journal) ∷ []) × NoTurn views)
    ⊎ ((homes ≡ none ∷ []) × ((id : ℕ) × (v : View) × (get_elem? views id ≡ some v) × (v.turn ≡ true)))

-- each caller from 1 to the number of passes made has one account, and no other caller has any
abbrev pub OneAccountEach : List View → Type 0
OneAccountEach views = (id : ℕ) (v : View) → get_elem? views id ≡ some v → v.steers ≡ true → (x : ℕ)
    → total (has_caller x) views ≡ in_line x 1 (v.made + 1)

-- some seat is the helm's
abbrev pub SomeHelm : List View → Type 0
SomeHelm views = (id : ℕ) × (v : View) × (get_elem? views id ≡ some v) × (v.steers ≡ true)

-- at most one seat is the helm's
abbrev pub OneHelm : List View → Type 0
OneHelm views = (i j : ℕ) (u v : View) → get_elem? views i ≡ some u → get_elem? views j ≡ some v → u.steers ≡ true
    → v.steers ≡ true → i ≡ j

-- the rule of the desk: what the words count, where the book is, and what holds of the seats and of their sums
pub record IsDesk (s : State Slot View) : Type 0 where
  pub net : Net
  pub journal : List Event
  pub next : ℕ
  pub serve : ℕ
  pub words : s.words ≡ front_of journal ∷ next % 2 ^ 64 ∷ serve % 2 ^ 64 ∷ length (calls_of journal) ∷ []
  pub at_most : length (calls_of journal) ≤ MAX_CALLS
  pub rising : RisesFrom 0 journal
  pub parts : total (λ v. v.parts) s.views ≡ MAX_PARTS
  pub line : serve + total ticket_count s.views ≡ next
  pub each_once : (x : ℕ) → total (has_ticket x) s.views ≡ in_line x serve next
  pub fits : EachFits net serve journal s.views
  pub home : BookIsHomeOrInTurn net journal s.homes s.views
  pub once : OneAccountEach s.views
  pub others : (x : ℕ) → total (has_caller x) s.views ≡ 0 → calls_by x journal ≡ []
  pub some_helm : SomeHelm s.views
  pub one_helm : OneHelm s.views

-- ---- steps

-- the view of a seat in the course of a turn, with a new ticket, turn and journal
abbrev pub view_with_turn : View → Bool → ℕ → Bool → List Event → View
view_with_turn v waits ticket turn seen = record v { waits = waits; ticket = ticket; turn = turn; seen = seen }

-- the seat drew a ticket and waits with it; the number read is the ticket modulo 2 ^ 64
abbrev pub HasDrawnTicket : Me Slot View → ℕ → Me Slot View → Type 0
HasDrawnTicket m n m' = (t : ℕ) × (n ≡ t % 2 ^ 64) × (m' ≡ (view_with_turn m.0 true t false m.0.seen, m.1))

-- the seat has the turn, the whole journal and the book
abbrev pub HasComeToTurn : Me Slot View → Me Slot View → Type 0
HasComeToTurn m m' = (j : List Event) × IsPrefix m.0.seen j × (length (calls_of j) ≤ MAX_CALLS)
    × (m.0.steers ≡ true → OnlyCalls m.0.helm j) × AreAccounts j m.0.accounts
    × (m' ≡ (view_with_turn m.0 true m.0.ticket true j, (0, book_of m.0.net j) ∷ m.1))
    × (front_of m.0.seen ≤ front_of j)

-- if the condition holds, the seat has come to its turn; otherwise it is unchanged
abbrev pub HasTurnIf : Bool → Me Slot View → Me Slot View → Type 0
HasTurnIf b m m' = MatchBool b (HasComeToTurn m m') (m' ≡ m)

-- the seat checked which ticket is served, and has come to its turn if the number read is that of its ticket
abbrev pub HasTurnIfServed : Me Slot View → ℕ → Me Slot View → Type 0
HasTurnIfServed m n m' = HasTurnIf (nat_eq n (m.0.ticket % 2 ^ 64)) m m'

-- the account of a caller with one more call, its place and the front
abbrev pub with_call : Account → List Event → Call → Account
with_call a journal c = record a {
  calls = a.calls ++ (length (calls_of journal), c) ∷ [];
  fronts = a.fronts ++ front_of journal ∷ [];
}

-- the view of its seat afterwards: the call is the last of the journal
abbrev pub view_after_call : View → Account → Call → View
view_after_call v a c = record v { seen = v.seen ++ NewCall c ∷ []; accounts = with_call a v.seen c ∷ [] }

-- the number read is the place of the added call, and the seat has the call in its journal and account
abbrev pub HasAddedCall : List Call → Me Slot View → ℕ → Me Slot View → Type 0
HasAddedCall calls m n m' = (a : Account) (c : Call) → calls ≡ c ∷ [] → m.0.accounts ≡ a ∷ []
    → (n ≡ length (calls_of m.0.seen)) × (m' ≡ (view_after_call m.0 a c, m.1))

-- the view of a seat that raised the front, which is the last of the journal
abbrev pub view_after_front : View → ℕ → View
view_after_front v f = record v { seen = v.seen ++ NewFront f ∷ []; helm = v.seen ++ NewFront f ∷ [] }

-- a seat that raised the front has it in its journal
abbrev pub HasRaisedFront : Me Slot View → ℕ → Me Slot View → Type 0
HasRaisedFront m n m' = m' ≡ (view_after_front m.0 n, m.1)

-- a seat that ended its turn is at rest, and does not hold the book
abbrev pub HasEndedTurn : Me Slot View → ℕ → Me Slot View → Type 0
HasEndedTurn m n m' = m' ≡ (view_with_turn m.0 false 0 false m.0.seen, [])

-- ---- seats at rest

-- the account of a caller whose pass was just made
abbrev pub new_account : ℕ → Account
new_account x = record { caller = x; calls = []; fronts = []; full = false }

-- a network without stations
abbrev pub no_net : Net
no_net = record { format = 1; lookahead = 1; horizon = 1; seed = 0; limit = 1; sites = [] }

-- a seat at rest: a pass with its account
abbrev pub pass_view : Net → List Event → Account → View
pass_view net seen a = record {
  net = net;
  parts = 1;
  waits = false;
  ticket = 0;
  turn = false;
  seen = seen;
  helm = [];
  steers = false;
  made = 0;
  accounts = a ∷ [];
}

-- the helm at rest, with its parts, what it has seen and the accounts that were handed back
abbrev pub helm_view : Net → ℕ → List Event → List Event → ℕ → List Account → View
helm_view net parts seen helm made accounts =
    record {
      net = net;
      parts = parts;
      waits = false;
      ticket = 0;
      turn = false;
      seen = seen;
      helm = helm;
      steers = true;
      made = made;
      accounts = accounts;
    }

-- a seat that handed everything back
abbrev pub spent_view : View
spent_view = record {
  net = no_net;
  parts = 0;
  waits = false;
  ticket = 0;
  turn = false;
  seen = [];
  helm = [];
  steers = false;
  made = 0;
  accounts = [];
}

-- ---- steps of a pass: reading the front, and the end of a turn after the reply Full

-- the view after reading the front: it has the whole journal, and the account has the front
abbrev pub view_after_look : View → Account → List Event → View
view_after_look v a j = record v { seen = j; accounts = record a { fronts = a.fronts ++ front_of j ∷ [] } ∷ [] }

-- the number read is the front of the journal, which is no less than the one seen before
abbrev pub HasSeenFront : Me Slot View → ℕ → Me Slot View → Type 0
HasSeenFront m n m' = (a : Account) → m.0.accounts ≡ a ∷ [] → (j : List Event) × IsPrefix m.0.seen j × (n ≡ front_of j)
    × (m' ≡ (view_after_look m.0 a j, m.1)) × (front_of m.0.seen ≤ n)

-- the account of a caller whose reply was Full
abbrev pub full_account : Account → Account
full_account a = record a { full = true }

-- a seat that ended its turn after the reply Full is at rest with this account, and does not hold the book
abbrev pub HasEndedFullTurn : Me Slot View → ℕ → Me Slot View → Type 0
HasEndedFullTurn m n m' = (a : Account) → m.0.accounts ≡ a ∷ []
    → m' ≡ (record (view_with_turn m.0 false 0 false m.0.seen) { accounts = full_account a ∷ [] }, [])
