-- What analysts ask, and what they keep of their looks.
use Rattle.std.specs.Prelude.{◌≡◌, ℕ, ◌+◌, ◌<◌, ◌≤◌, List, [], ◌∷◌, length, true, false}
use Rattle.std.specs.List.{flat_map}
use Rattle.atomic_table.specs.Seated.{TableId}
use Rattle.sim_base.specs.declared.decision.Decision.{Decision}
use Rattle.decision_script.specs.declared.item.Act.{Act}
use Rattle.decision_script.specs.Alone.{decisions_onto}
use Rattle.decision_book.specs.declared.call.Call.{Call}
use Rattle.decision_book.specs.Journal.{Event}
use Rattle.decision_desk.specs.Accounts.{Account, calls_by}
use Rattle.phys_proc.specs.Racks.{RackView}
use Rattle.live_study.specs.declared.analyst.Analyst.{Analyst}

-- the decisions of calls, each with its place in the journal
abbrev pub decisions_in : List (ℕ × Call) → List Decision
decisions_in [] = []
decisions_in (p ∷ ps) = p.1.decision ∷ decisions_in ps

-- the decisions among acts, in order
abbrev pub decisions_asked : List Act → List Decision
decisions_asked acts = flat_map (λ act. decisions_onto act []) acts

-- these decisions were asked: all are in the journal, or some was answered Full, and so is not
pub record AreAsked (ds : List Decision) (a : Account) : Type 0 where
  pub all : a.full ≡ false → decisions_in a.calls ≡ ds
  pub at_most : length a.calls ≤ length ds
  pub fewer : a.full ≡ true → length a.calls < length ds

-- an analyst that has asked what is to be decided in these acts, at this desk
pub record HasAsked (desk : TableId) (acts : List Act) (a : Analyst) : Type 0 where
  pub desk_is : a.pass.desk ≡ desk
  pub all : AreAsked (decisions_asked acts) a.pass.account

-- one that has asked nothing yet
abbrev pub HasAskedNothing : TableId → Analyst → Type 0
HasAskedNothing desk a = HasAsked desk [] a

-- and one that has asked all
abbrev pub IsDone : TableId → Analyst → Type 0
IsDone desk a = HasAsked desk a.todo.items a

-- what stays of an analyst: what it has to do, who it is, and the memory reserved for its looks
pub record IsSameAnalyst (old new : Analyst) : Type 0 where
  pub todo : new.todo.items ≡ old.todo.items
  pub caller : new.pass.account.caller ≡ old.pass.account.caller
  pub number : new.number ≡ old.number
  pub reserved : new.looks.reserved ≡ old.looks.reserved

-- an analyst and its seat, as contracts see them
abbrev pub SeatedAnalyst : Type 0
SeatedAnalyst = Analyst × List RackView

-- the accounts of analysts, in order
abbrev pub accounts_in : List SeatedAnalyst → List Account
accounts_in [] = []
accounts_in (a ∷ others) = a.0.pass.account ∷ accounts_in others

-- how many acts these analysts have
abbrev pub total_todo : List SeatedAnalyst → ℕ
total_todo [] = 0
total_todo (a ∷ others) = length a.0.todo.items + total_todo others

-- each has asked all
abbrev pub AllDone : TableId → List SeatedAnalyst → Type 0
AllDone desk [] = Unit {0}
AllDone desk (a ∷ others) = IsDone desk a.0 × AllDone desk others

-- each analyst's calls in the journal are its decisions, in order
abbrev pub AllAsked : List Event → List SeatedAnalyst → Type 0
AllAsked events [] = Unit {0}
AllAsked events (a ∷ others) =
    (decisions_in (calls_by a.0.pass.account.caller events) ≡ decisions_asked a.0.todo.items) × AllAsked events others
