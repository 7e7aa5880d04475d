-- The pending messages of a copy, as one list.
use Rattle.std.specs.Prelude.{◌≡◌, ◌≢◌, ℕ, ◌≤◌, ◌<◌, true, List, [], ◌∷◌, Option, Some, None, slice_get, drop}
use Rattle.std.specs.List.{AllByRecursion}
use Rattle.std.specs.declared.cmp.Ordering.{Ordering}
use Rattle.std.specs.declared.cmp.Ordering.TheVariants.{Less, Greater}
use Rattle.sim_base.specs.Pending.{insert_marked}
use Rattle.sim_base.specs.Order.{msg_cmp}
use Rattle.sim_base.specs.declared.message.Msg.{Msg}
use Rattle.clone_sets.specs.Sets.{has, empty, union}
use Rattle.clone_sets.specs.declared.set.CloneSet.{CloneSet}
use Rattle.run_laws.specs.Copies.{insert_marked_all}
use Rattle.run_laws.specs.Queue.{Sorted}

-- messages that all clones of a set take, among others that some of its clones take
abbrev pub merged : CloneSet → List Msg → List (Msg × CloneSet) → List (Msg × CloneSet)
merged set common partial = insert_marked_all union msg_cmp common set partial

-- the clones of a copy, the messages that all of them take, and other messages, each with the clones that take it
pub record CopyPendingView : Type 0 where
  pub set : CloneSet
  pub common : List Msg
  pub partial : List (Msg × CloneSet)

-- all its messages in order, each once with the clones that take it
abbrev pub messages_of : CopyPendingView → List (Msg × CloneSet)
messages_of p = merged p.set p.common p.partial

-- the time is a lower bound of the times of some messages
abbrev pub IsLowerBoundOf : ℕ → List (Msg × CloneSet) → Type 0
IsLowerBoundOf t q = AllByRecursion (λ x. t ≤ x.0.key.time) q

-- a message that all clones take, and that comes before all other messages
pub record IsFirstForAll (m : Msg) (p : CopyPendingView) : Type 0 where
  pub sorted : Sorted msg_cmp p.common
  pub first : slice_get p.common 0 ≡ Some m
  pub before : AllByRecursion (λ x. m.key.time < x.0.key.time) p.partial

-- the same without the first message that all clones take
abbrev pub without_first : CopyPendingView → CopyPendingView
without_first p = record { set = p.set; common = drop 1 p.common; partial = p.partial }

-- some of the clones of a set, at least one
pub record IsPart (part set : CloneSet) : Type 0 where
  pub some : part ≢ empty
  pub within : (c : ℕ) → has part c ≡ true → has set c ≡ true

-- how the first messages of two lists are ordered: one that is missing comes last
abbrev pub firsts_cmp : {K : Type 0} → Option Msg → Option (Msg × K) → Ordering
firsts_cmp None y = Greater
firsts_cmp (Some x) None = Less
firsts_cmp (Some x) (Some y) = msg_cmp x y.0

-- each message is put among others
abbrev pub put_each : List (Msg × CloneSet) → List (Msg × CloneSet) → List (Msg × CloneSet)
put_each [] q = q
put_each (x ∷ xs) q = put_each xs (insert_marked union msg_cmp x.0 x.1 q)

-- another message, if there is one, is put among others for all clones of a set
abbrev pub with_other : CloneSet → Option Msg → List (Msg × CloneSet) → List (Msg × CloneSet)
with_other set None q = q
with_other set (Some m) q = insert_marked union msg_cmp m set q
