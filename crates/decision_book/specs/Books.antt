-- The view of a book in contracts, and its invariant.
use Rattle.std.specs.Prelude.{◌≡◌, ◌≢◌, ℕ, ◌-◌, ◌≤◌, Option, MatchOption, List, [], ◌∷◌, ◌++◌, length, map, take, drop}
use Rattle.sim_base.specs.Reserved.{ReservedView}
use Rattle.sim_base.specs.Clones.{Clone, ListsView}
use Rattle.sim_base.specs.declared.lists.TheConstants.{MAX_CLONES, MAX_DECISIONS}
use Rattle.net_model.specs.declared.limits.TheConstants.{MAX_HORIZON}
use Rattle.net_model.specs.Net.{Net}
use Rattle.decision_book.specs.declared.call.Call.{Call}
use Rattle.decision_book.specs.declared.call.TheConstants.{MAX_CALLS}
use Rattle.sim_base.specs.declared.decision.Decision.{Decision}
use Rattle.decision_book.specs.declared.call.Reply.{Reply}
use Rattle.decision_book.specs.declared.call.Reply.TheVariants.{Full}
use Rattle.decision_book.specs.Journal.{Event, NewFront, NewCall, after, call_of, if_accepted}
use Rattle.decision_book.specs.Right.{IsRight}
use Rattle.decision_book.specs.Plans.{ArePlanned}

-- the view of a book in contracts: the network and the journal
pub record BookView : Type 0 where
  pub net : Net
  pub events : List Event

-- the journal of these calls and fronts, with n fronts before it; each call has its number of fronts before
abbrev pub journal_from : ℕ → List Call → List ℕ → List Event
journal_from n [] fronts = map NewFront fronts
journal_from n (c ∷ cs) fronts =
    map NewFront (take (c.fronts - n) fronts) ++ (NewCall c ∷ journal_from c.fronts cs (drop (c.fronts - n) fronts))

-- the whole journal of calls and fronts
abbrev pub journal_of : List Call → List ℕ → List Event
journal_of calls fronts = journal_from 0 calls fronts

-- each call has at least as many fronts before it as the call before, and as n, and at most `all`
abbrev pub AreInOrder : ℕ → ℕ → List Call → Type 0
AreInOrder n all [] = n ≤ all
AreInOrder n all (c ∷ cs) = (n ≤ c.fronts) × AreInOrder c.fronts all cs

-- memory is reserved for all clones and decisions
pub record HaveRoom (lists : ListsView) : Type 0 where
  pub reserved_clones : lists.reserved_clones ≡ MAX_CLONES
  pub reserved_plans : lists.reserved_plans ≡ MAX_DECISIONS

-- a decision on lists had the reply of this row of the table. They have the new clones if it was accepted, are
-- otherwise unchanged, and are planned
pub record HasReply (net : Net) (row : Reply) (new : List Clone) (reply : Reply) (old lists : ListsView) : Type 0 where
  pub reply_is : reply ≡ row
  pub lists_are : lists ≡ record old { clones = if_accepted reply new old.clones }
  pub planned : ArePlanned net lists.clones

-- clones, front and number of calls are those of the journal, which is right
pub record IsBook (net : Net) (clones : List Clone) (calls : List Call) (fronts : List ℕ) (last : ℕ) : Type 0 where
  pub situation : after net (journal_of calls fronts) ≡ record {
    net = net;
    clones = clones;
    front = last;
    calls = length calls;
  }
  pub right : IsRight net (journal_of calls fronts)
  pub stamps : AreInOrder 0 (length fronts) calls
  pub at_most : length fronts ≤ last
  pub time_max : last ≤ net.horizon
  pub horizon_max : net.horizon ≤ MAX_HORIZON
  pub planned : ArePlanned net clones

-- and memory is reserved for all calls, clones and decisions
pub record IsBookWithRoom (net : Net) (lists : ListsView) (calls : ReservedView Call) (fronts : List ℕ) (last : ℕ) :
    Type 0 where
  pub book : IsBook net lists.clones calls.items fronts last
  pub lists_room : HaveRoom lists
  pub calls_room : calls.reserved ≡ MAX_CALLS

-- the call of a decision with this reply, and the book whose last entry it is
pub record IsEntry (old : BookView) (caller : ℕ) (d : Decision) (reply : Reply) (call : Call) (new : BookView) :
    Type 0 where
  pub call_is : call ≡ call_of caller old.events d reply
  pub new_is : new ≡ record old { events = old.events ++ NewCall call ∷ [] }

-- the call is the last entry of the journal; or the reply is Full, there is no call, and the book does not change
abbrev pub IsCallUnlessFull : BookView → ℕ → Decision → Reply → Option Call → BookView → Type 0
IsCallUnlessFull old caller d reply given new = MatchOption given
    ((reply ≡ Full) × (new ≡ old)) (λ call. (reply ≢ Full) × IsEntry old caller d reply call new)
