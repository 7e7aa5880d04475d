-- A law of the desk; `src/laws.rt` proves it.
use Rattle.std.specs.Prelude.{◌≡◌, ℕ, ◌≤◌, List, ◌∷◌, ◌++◌, Some}
use Rattle.std.specs.List.{AllByRecursion}
use Rattle.sim_base.specs.declared.decision.Decision.{Decision}
use Rattle.sim_base.specs.declared.decision.Decision.TheVariants.{Fork, Set, End}
use Rattle.net_model.specs.Net.{Net}
use Rattle.decision_book.specs.declared.call.Reply.TheVariants.{Accepted}
use Rattle.decision_book.specs.Journal.{Event, NewFront, NewCall}
use Rattle.decision_book.specs.Right.{IsRight}
use Rattle.decision_desk.specs.Accounts.{IsFrontOf}
use Rattle.decision_desk.specs.Passes.{late_front}

-- the decision is a set or an end at this time or earlier
abbrev pub ComesBy : ℕ → Decision → Type 0
ComesBy time (Fork new old) = ⊥
ComesBy time (Set who at station change) = at ≤ time
ComesBy time (End who at) = at ≤ time

-- the event is not an accepted set or end at this time or earlier
abbrev pub IsLater : ℕ → Event → Type 0
IsLater time (NewFront f) = Unit {0}
IsLater time (NewCall call) = call.reply ≡ Accepted → ¬ (ComesBy time call.decision)

-- the front f is in the journal, and no accepted set or end at this time or earlier comes after it
pub record AreBefore (time f : ℕ) (events : List Event) : Type 0 where
  pub before : List Event
  pub rest : List Event
  pub is : events ≡ before ++ NewFront f ∷ rest
  pub later : AllByRecursion (IsLater time) rest

-- if a front of the journal made this time late, and the front f was returned, what is accepted for that time precedes
-- f
abbrev pub LateIsSettled : Net → Type 0
LateIsSettled net = (events : List Event) (front time f : ℕ) → IsRight net events → IsFrontOf events front
    → late_front front time ≡ Some f → AreBefore time f events
