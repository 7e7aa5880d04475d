-- Which pending messages a snapshot may have.
use Rattle.std.specs.Prelude.{ℕ, zero, suc, ◌-◌, ◌==◌, ◌&&◌, nat_le, nat_lt, Bool, true, false, List, [], ◌∷◌, ◌++◌}
use Rattle.std.specs.Prelude.{length, slice_get, Option, Some, None, if◌then◌else◌}
use Rattle.std.specs.declared.cmp.Ordering.{Ordering}
use Rattle.std.specs.declared.cmp.Ordering.TheVariants.{Less, Equal, Greater}
use Rattle.sim_base.specs.Order.{key_cmp}
use Rattle.sim_base.specs.Params.{param_values}
use Rattle.sim_base.specs.declared.lists.TheConstants.{MAX_DECISIONS}
use Rattle.sim_base.specs.declared.message.Change.{Change}
use Rattle.sim_base.specs.declared.message.Msg.{Msg}
use Rattle.sim_base.specs.declared.message.Payload.{Payload}
use Rattle.sim_base.specs.declared.message.Payload.TheVariants.{Tick, Job, Done, Set}
use Rattle.net_model.specs.Net.{Net}
use Rattle.decision_script.specs.declared.number.TheConstants.{MAX_NUMBER}
use Rattle.stations.specs.Fitting.{is_job_of}
use Rattle.stations.specs.declared.saved.Saved.{Saved}
use Rattle.stations.specs.declared.saved.Shape.{Shape}
use Rattle.stations.specs.declared.saved.Shape.TheVariants as shape
use Rattle.stations.specs.declared.sender.TheConstants.{MAX_EVENT_TIMES}
use Rattle.checkpoint.specs.RunKeeps.{completions_to}
use Rattle.checkpoint.specs.Tally.{tally}

-- ---- what a text can say

-- whether words can say a change: its values are at most `MAX_NUMBER`, and a parameter with one value has no second
abbrev pub is_sayable : Change → Bool
is_sayable change = nat_le change.a MAX_NUMBER
    && (if param_values change.param == 1 then change.b == 0 else nat_le change.b MAX_NUMBER)

-- whether words can say the change of a decision; any other payload can be said
abbrev pub is_sayable_payload : Payload → Bool
is_sayable_payload Tick = true
is_sayable_payload (Job j) = true
is_sayable_payload (Done j) = true
is_sayable_payload (Set change) = is_sayable change

-- ---- bad messages

-- whether the first of two comes first
abbrev pub is_less : Ordering → Bool
is_less Less = true
is_less Equal = false
is_less Greater = false

-- whether the key of a message is above that of the one before it, if there is one
abbrev pub comes_after : Option Msg → Msg → Bool
comes_after None m = true
comes_after (Some before) m = is_less (key_cmp before.key m.key)

-- the number of the next message in saved data
abbrev pub next_in : Option Saved → ℕ
next_in None = 0
next_in (Some x) = x.next

-- the number of a sender's next message. The numbers of decisions are places in a list of decisions
abbrev pub next_of : List Saved → ℕ → ℕ
next_of saved zero = MAX_DECISIONS
next_of saved (suc i) = next_in (slice_get saved i)

-- the number of jobs in service, if the shape is a server's
abbrev pub busy_shape : Shape → Option ℕ
busy_shape (shape.Server servers room lo hi busy done lost line) = Some busy
busy_shape _ = None

-- the same in saved data
abbrev pub busy_in : Option Saved → Option ℕ
busy_in None = None
busy_in (Some x) = busy_shape x.shape

-- whether a job is in service for one more completion, after this number of completions. Only servers need one
abbrev pub has_service : ℕ → Option ℕ → Bool
has_service before None = true
has_service before (Some busy) = nat_lt before busy

-- whether a payload for this station may be pending after this number of completions there. Its job was made by a
-- source before the horizon, and a completion at a server has a job in service
abbrev pub may_carry : Net → List Saved → ℕ → ℕ → Payload → Bool
may_carry net saved completions to Tick = true
may_carry net saved completions to (Set change) = true
may_carry net saved completions to (Job j) = is_job_of net j
may_carry net saved completions to (Done j) =
    is_job_of net j && has_service completions (busy_in (slice_get saved (to - 1)))

-- whether a message may be pending after `last`, and after this number of completions at its receiver
abbrev pub may_be_due : Net → ℕ → List Saved → ℕ → Option Msg → Msg → Bool
may_be_due net front saved completions last m =
    (comes_after last m && (nat_le front m.key.time && nat_lt m.key.time MAX_EVENT_TIMES))
    && (((nat_lt 0 m.to && nat_le m.to (length net.sites)) && nat_le m.key.sender (length net.sites))
    && (nat_lt m.key.number (next_of saved m.key.sender) && may_carry net saved completions m.to m.payload))

-- the place, from 0, of the first message that may not be pending; `before` are the messages before these, and `last`
-- is the last of them
abbrev pub first_bad : Net → ℕ → List Saved → List Msg → Option Msg → List Msg → Option ℕ
first_bad net front saved before last [] = None
first_bad net front saved before last (m ∷ ms) =
    if may_be_due net front saved (tally (completions_to m.to) before) last m
    then first_bad net front saved (before ++ m ∷ []) (Some m) ms
    else Some (length before)
