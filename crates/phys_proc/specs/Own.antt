-- Copies, with the types of the program.
use Rattle.std.specs.Prelude.{◌≡◌, ◌≢◌, ℕ, ◌+◌, ◌*◌, ◌-◌, ◌<◌, ◌≤◌, ◌==◌, if◌then◌else◌, ◌&&◌}
use Rattle.std.specs.Prelude.{List, [], ◌∷◌, ◌++◌, true, length, map}
use Rattle.std.specs.List.{AllByRecursion, AllZip}
use Rattle.sim_base.specs.Order.{msg_cmp}
use Rattle.sim_base.specs.Pending.{cut_by, insert_marked, spread_marks}
use Rattle.sim_base.specs.declared.lists.TheConstants.{MAX_CLONES}
use Rattle.sim_base.specs.declared.message.Msg.{Msg}
use Rattle.sim_base.specs.declared.entry.Line.{Line}
use Rattle.clone_sets.specs.Sets.{has, one, with, union, meet, common, empty, size}
use Rattle.clone_sets.specs.declared.set.CloneSet.{CloneSet}
use Rattle.stations.specs.declared.sender.TheConstants.{MAX_COUNTS}
use Rattle.net_model.specs.Net.{Net}
use Rattle.net_model.specs.Rules.{IsNet}
use Rattle.stations.specs.Fits.{FitsState, SuitsNet}
use Rattle.stations.specs.Handling.{StateView}
use Rattle.stations.specs.Runs.{simulation, replay}
use Rattle.run_laws.specs.World.{to_it}
use Rattle.run_laws.specs.Window.{to_others}
use Rattle.sim_base.specs.Marked.{SortedMarked}
use Rattle.run_laws.specs.Copies.{Copy, insert_marked_all, handled_by, sends_aside, ComesTo, SoFar, GainTogether}
use Rattle.run_laws.specs.Copies.{Carries, Disjoint, IsSameCopy}
pub use Rattle.msg_route.specs.Laws.{takes_at, taken_at}

-- a copy of a station of a network
abbrev pub StationCopy : Type 0
StationCopy = Copy StateView Msg Line CloneSet

-- messages, each with its marks
abbrev pub MarkedMessages : Type 0
MarkedMessages = List (Msg × CloneSet)

-- marks of a message in a copy: at least one clone, and only clones that the copy represents
pub record AreMarks (set k : CloneSet) : Type 0 where
  pub nonempty : k ≢ empty
  pub within : (c : ℕ) → has k c ≡ true → has set c ≡ true

-- a copy of station s: its state is the replay of its log
pub record IsCopy (net : Net) (s : ℕ) (a : StationCopy) : Type 0 where
  pub valid : IsNet net
  pub inhabited : (c : ℕ) × Carries has a c
  pub fits : FitsState a.state
  pub suits : SuitsNet net a.state
  pub station : a.state.sender.station ≡ s
  pub handled : a.state.handled ≡ length a.log
  pub length_max : length a.log ≤ net.limit
  pub sorted : SortedMarked msg_cmp a.pending
  pub targets : AllByRecursion (λ x. x.0.to ≡ s) a.pending
  pub replays : a.state ≡ replay net s a.log
  pub marks : AllByRecursion (λ x. AreMarks a.set x.1) a.pending

-- the time is a lower bound of the copy's pending times
abbrev pub IsLowerBound : ℕ → StationCopy → Type 0
IsLowerBound t a = AllByRecursion (λ x. t ≤ x.0.key.time) a.pending

-- and of those of each of some copies
abbrev pub IsLowerBoundOfAll : ℕ → List StationCopy → Type 0
IsLowerBoundOfAll t copies = AllByRecursion (IsLowerBound t) copies

-- a message may be given to these copies: no clone is in two of them, and the times are lower bounds of their pending
-- times
pub record MayDeliver (bounds : List ℕ) (copies : List StationCopy) : Type 0 where
  pub disjoint : Disjoint has copies
  pub each : AllZip IsLowerBound bounds copies

-- the union of the clones of all copies
abbrev pub all_clones : List StationCopy → CloneSet
all_clones [] = empty
all_clones (a ∷ rest) = union a.set (all_clones rest)

-- the sum of the numbers of clones of the copies
abbrev pub all_sizes : List StationCopy → ℕ
all_sizes [] = 0
all_sizes (a ∷ rest) = size a.set + all_sizes rest

-- the number of messages that their clones would have handled alone
abbrev pub handled_alone_by : List StationCopy → ℕ
handled_alone_by [] = 0
handled_alone_by (a ∷ rest) = size a.set * length a.log + handled_alone_by rest

-- the number of messages that the clones of a copy may handle before their logs reach the limit
abbrev pub may_handle : ℕ → StationCopy → ℕ
may_handle limit a = size a.set * (limit - length a.log)

-- a copy of station s may be advanced to the bound, after `handled` messages were handled
pub record MayAdvance (net : Net) (s bound handled : ℕ) (a : StationCopy) : Type 0 where
  pub fits : IsCopy net s a
  pub time_max : bound ≤ net.horizon
  pub at_most : handled + may_handle net.limit a ≤ MAX_COUNTS

-- the copy without its pending messages
abbrev pub but_pending : StationCopy → StationCopy
but_pending a = record a { pending = [] }

-- the copy b is a without messages that none of its clones takes
pub record IsSameToClones (ends : ℕ → ℕ) (a b : StationCopy) : Type 0 where
  pub copy : IsSameCopy a b
  pub parts : (c : ℕ) → Carries has a c → taken_at ends c b.pending ≡ taken_at ends c a.pending
  pub passed : MarkedMessages
  pub pending : a.pending ≡ passed ++ b.pending

-- and its least message comes before the bound, and these clones take it
pub record NextDue (ends : ℕ → ℕ) (bound : ℕ) (a b : StationCopy) (m : Msg) (takers : CloneSet) : Type 0 where
  pub same : IsSameToClones ends a b
  pub marks : CloneSet
  pub rest : MarkedMessages
  pub pending : b.pending ≡ (m, marks) ∷ rest
  pub time_max : m.key.time < bound
  pub take : (c : ℕ) → has takers c ≡ (has a.set c && takes_at ends m marks c)
  pub nonempty : takers ≢ empty

-- or no message that its clones take comes before the bound
pub record NothingDue (ends : ℕ → ℕ) (bound : ℕ) (a b : StationCopy) : Type 0 where
  pub same : IsSameToClones ends a b
  pub settled : (c : ℕ) → Carries has a c → AllByRecursion (λ m. bound ≤ m.key.time) (taken_at ends c b.pending)

-- a station's sends to itself become pending for these clones
abbrev pub pending_after : ℕ → CloneSet → List Msg → MarkedMessages → MarkedMessages
pending_after s set sends q = insert_marked_all union msg_cmp (to_it (λ (m : Msg). m.to) s sends) set q

-- and the others are laid aside, after those laid aside before
abbrev pub sent_after : ℕ → CloneSet → List Msg → MarkedMessages → MarkedMessages
sent_after s set sends sent = sent ++ map (λ x. (x, set)) (to_others (λ (m : Msg). m.to) s sends)

-- the copy for these clones
abbrev pub half : StationCopy → CloneSet → StationCopy
half a some = record { set = some; state = a.state; log = a.log; pending = cut_by common some a.pending }

-- the copy has handled its least message
abbrev pub IsHandled : Net → ℕ → StationCopy → StationCopy → MarkedMessages → MarkedMessages → Type 0
IsHandled net s old new before after = (m : Msg) (k : CloneSet) (q : MarkedMessages) → old.pending ≡ (m, k) ∷ q →
    (new ≡ handled_by (simulation net) union s old m q) × (after ≡ before ++ sends_aside (simulation net) s old m) ×
    IsCopy net s new

-- the first copy has become this one in a number of steps; each end that this copy may reach is one of the first
pub record ComesFrom (net : Net) (s : ℕ) (ends : ℕ → ℕ) (bound : ℕ) (first copy : StationCopy)
    (start sent : MarkedMessages)
    (steps0 steps : ℕ) : Type 0 where
  pub fits : IsCopy net s copy
  pub set : copy.set ≡ first.set
  pub taken : ℕ
  pub log : length copy.log ≡ length first.log + taken
  pub counted : steps ≡ steps0 + taken
  pub next : (results : List StationCopy) (after : MarkedMessages) (over over_after : CloneSet) (n : ℕ) →
      ComesTo (simulation net) has ends s bound copy results sent after over over_after n →
      ComesTo (simulation net) has ends s bound first results start after over over_after (n + taken)

-- the resulting copies at the bound of one copy, and its sends to other stations
pub record IsAdvance (net : Net) (s : ℕ) (ends : ℕ → ℕ) (bound : ℕ) (r : StationCopy) (done0 done1 : List StationCopy)
    (sent0 sent1 : MarkedMessages) (over0 over1 : CloneSet) (steps0 steps1 : ℕ) : Type 0 where
  pub results : List StationCopy
  pub gained : ℕ
  pub done : done1 ≡ done0 ++ results
  pub steps : steps1 ≡ steps0 + gained
  pub comes : ComesTo (simulation net) has ends s bound r results sent0 sent1 over0 over1 gained
  pub fits : AllByRecursion (IsCopy net s) results
  pub at_most : gained ≤ may_handle net.limit r
  pub shared : over1 ≡ empty → size r.set * length r.log + gained ≤ handled_alone_by results

-- the copy with the message pending for its clones in the set
abbrev pub with_message : Msg → CloneSet → StationCopy → StationCopy
with_message m k a = record a {
  pending = if meet a.set k == empty then a.pending else insert_marked union msg_cmp m (meet a.set k) a.pending;
}

-- two valid clone numbers, an existing one and a new one
pub record AreCloneNumbers (old new : ℕ) : Type 0 where
  pub old_below : old < MAX_CLONES
  pub new_below : new < MAX_CLONES

-- the copy with the clone `new` next to the clone `old`, if it has that one
abbrev pub copy_after_fork : ℕ → ℕ → StationCopy → StationCopy
copy_after_fork old new a = if has a.set old then record {
  set = with a.set new;
  state = a.state;
  log = a.log;
  pending = spread_marks union common (one old) (one new) a.pending;
} else a

-- the resulting copies at the bound of all copies, and their sends to other stations
pub record IsStepResult (net : Net) (s : ℕ) (ends : ℕ → ℕ) (bound : ℕ) (old done : List StationCopy)
    (sent : MarkedMessages)
    (over : CloneSet) (steps0 steps : ℕ) : Type 0 where
  pub far : SoFar (simulation net) has ends s bound old done sent empty over
  pub count : ℕ
  pub gained : GainTogether (simulation net) has ends s bound old count
  pub counted : steps ≡ steps0 + count
  pub fits : AllByRecursion (IsCopy net s) done
  pub at_most : count ≤ all_sizes old * net.limit
  pub shared : over ≡ empty → handled_alone_by old + count ≤ handled_alone_by done
