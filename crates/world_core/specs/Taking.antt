-- Calls that a world takes: accepted decisions, one after the other, at its front.
use Rattle.std.specs.Prelude.{◌≡◌, ℕ, List, [], ◌∷◌}
use Rattle.sim_base.specs.Clones.{Clone}
use Rattle.sim_base.specs.declared.decision.Decision.{Decision}
use Rattle.net_model.specs.Net.{Net}
use Rattle.decision_book.specs.declared.call.Call.{Call}
use Rattle.decision_book.specs.declared.call.Reply.TheVariants.{Accepted}
use Rattle.decision_book.specs.Journal.{Situation, clones_after}
use Rattle.decision_book.specs.Replies.{reply}

-- the situation of a decision on these clones at a front, in a journal that is not full
abbrev pub situation : Net → List Clone → ℕ → Situation
situation net cs front = record { net = net; clones = cs; front = front; calls = 0 }

-- the table of refusals has no row for the decision
abbrev pub IsAccepted : Net → List Clone → ℕ → Decision → Type 0
IsAccepted net cs front d = reply (situation net cs front) d ≡ Accepted

-- each call is accepted after those before it
abbrev pub AreAccepted : Net → List Clone → ℕ → List Call → Type 0
AreAccepted net cs front [] = Unit {0}
AreAccepted net cs front (call ∷ calls) = IsAccepted net cs front call.decision
    × AreAccepted net (clones_after net cs call.decision) front calls

-- the clones after the calls
abbrev pub clones_after_calls : Net → List Clone → List Call → List Clone
clones_after_calls net cs [] = cs
clones_after_calls net cs (call ∷ calls) = clones_after_calls net (clones_after net cs call.decision) calls
