-- The traces of the clones of a world.
use Rattle.std.specs.Prelude.{◌≡◌, ℕ, ◌<◌, ◌≤◌, List, length}
use Rattle.sim_base.specs.Clones.{Clone, clone_at}
use Rattle.sim_base.specs.declared.lists.TheConstants.{MAX_CLONES}
use Rattle.sim_base.specs.declared.message.TheConstants.{WORD_NUMBERS}
use Rattle.net_model.specs.Net.{Net}
use Rattle.net_model.specs.Rules.{IsNet}
use Rattle.trace_report.specs.Slots.{AreNames}
use Rattle.trace_report.specs.declared.names.Slot.{Slot}
use Rattle.run_laws.specs.Orders.{IsPlaceOrder, in_order}
use Rattle.world_core.specs.Overs.{NoneBeyond}
use Rattle.world_core.specs.Worlds.{AreInNet, WorldView}
use Rattle.trace_writer.specs.declared.text_order.TextOrder.{TextOrder}
use Rattle.trace_writer.specs.declared.text_order.TextOrder.TheVariants.{AsMade, By}

-- each clone has few enough decisions for their numbers to fit 64 bits
abbrev pub AreShort : List Clone → Type 0
AreShort cs = (k : ℕ) → k < length cs → length (clone_at cs k).plans ≤ WORD_NUMBERS

-- a world at the horizon
pub record IsOver (world : WorldView) : Type 0 where
  pub valid : IsNet world.net
  pub in_net : AreInNet world.net world.clones
  pub at_most : length world.clones ≤ MAX_CLONES
  pub done : world.front ≡ world.net.horizon
  pub within : NoneBeyond world.net world.clones world.front
  pub length_max : AreShort world.clones

-- the clones in the order of their texts
abbrev pub clones_by : TextOrder → List Clone → List Clone
clones_by AsMade cs = cs
clones_by (By places) cs = in_order cs places.items

-- an order has the place of each clone once
abbrev pub IsOrderOf : TextOrder → List Clone → Type 0
IsOrderOf AsMade cs = Unit {0}
IsOrderOf (By places) cs = IsPlaceOrder (length cs) places.items

-- what contracts see of the traces: the network, and the clones with their decisions and ends, in the order of texts
pub record WorldTracesView : Type 0 where
  pub net : Net
  pub clones : List Clone

-- a world at the horizon, and the stations' names for its lines
pub record MayTrace (world : WorldView) (names : List Slot) : Type 0 where
  pub over : IsOver world
  pub names_are : AreNames world.net names

-- the same, with an order of its clones
pub record MayTraceBy (order : TextOrder) (world : WorldView) (names : List Slot) : Type 0 where
  pub may_trace : MayTrace world names
  pub order_is : IsOrderOf order world.clones
