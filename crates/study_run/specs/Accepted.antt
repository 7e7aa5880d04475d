-- Calls that were accepted before the simulation begins.
use Rattle.std.specs.Prelude.{◌≡◌, List, [], ◌∷◌}
use Rattle.std.specs.List.{AllByRecursion}
use Rattle.sim_base.specs.Clones.{base}
use Rattle.net_model.specs.Net.{Net}
use Rattle.decision_book.specs.Journal.{Event, after, calls_of, fronts_of}
use Rattle.decision_book.specs.Right.{IsRight}
use Rattle.decision_book.specs.declared.call.Call.{Call}
use Rattle.decision_book.specs.declared.call.Reply.TheVariants.{Accepted}
use Rattle.world_core.specs.Taking.{AreAccepted, clones_after_calls}

-- every one of these calls was accepted
abbrev pub EachAccepted : List Call → Type 0
EachAccepted calls = AllByRecursion (λ call. call.reply ≡ Accepted) calls

-- calls that a world may take at front 0, one after the other, and that lead to the journal's clones
pub record IsAcceptedJournal (net : Net) (events : List Event) : Type 0 where
  pub front : (after net events).front ≡ 0
  pub accepted : AreAccepted net (base ∷ []) 0 (calls_of events)
  pub clones : clones_after_calls net (base ∷ []) (calls_of events) ≡ (after net events).clones

-- a right journal without fronts in which every call was accepted is such a journal
abbrev pub AcceptedIsTaken : Type 0
AcceptedIsTaken = (net : Net) (events : List Event) → IsRight net events → fronts_of events ≡ []
    → EachAccepted (calls_of events) → IsAcceptedJournal net events
