-- The pending messages of all stations: the packed ones in a heap, and the others in a list.
use Rattle.std.specs.Prelude.{◌≡◌, ℕ, List, [], map, slice_get, Option, Some, None}
use Rattle.std.specs.declared.cmp.Ordering.{Ordering}
use Rattle.std.specs.declared.cmp.Ordering.TheVariants.{Less, Greater}
use Rattle.sim_base.specs.Order.{msg_cmp}
use Rattle.sim_base.specs.declared.message.Msg.{Msg}
use Rattle.run_laws.specs.Handlers.{IsStationOf}
use Rattle.run_laws.specs.Queue.{insert_all, Sorted}
use Rattle.solo_run.specs.declared.event_list.EventList.{EventList}

-- a message is for one of `stations` stations
abbrev pub IsForStation : ℕ → Msg → Type 0
IsForStation stations m = IsStationOf stations m.to

-- messages without their marks, which a run of one clone does not need
abbrev pub messages_of : List (Msg × Unit {0}) → List Msg
messages_of pending = map (λ p. p.0) pending

-- all messages in their order, each once
abbrev pub all_messages : EventList → List Msg
all_messages e = insert_all msg_cmp (messages_of e.wide) e.heap

-- how the first packed message and the first of the others are ordered: one that is missing comes last
abbrev pub firsts_cmp : Option Msg → Option (Msg × Unit {0}) → Ordering
firsts_cmp None y = Greater
firsts_cmp (Some x) None = Less
firsts_cmp (Some x) (Some y) = msg_cmp x y.0

-- all messages are packed, and this is the first
pub record IsFirstPacked (m : Msg) (e : EventList) : Type 0 where
  pub packed : e.wide ≡ []
  pub first : slice_get e.heap 0 ≡ Some m
  pub sorted : Sorted msg_cmp e.heap
