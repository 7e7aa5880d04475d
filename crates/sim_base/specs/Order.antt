-- The order of messages: time, sender, number; then the receiver and the payload, which only separate equal keys.
use Rattle.std.specs.Prelude.{ℕ}
use Rattle.std.specs.Ordering.{nat_cmp, ordering_then}
use Rattle.std.specs.declared.cmp.Ordering.{Ordering}
use Rattle.sim_base.specs.declared.message.Key.{Key}
use Rattle.sim_base.specs.declared.message.Msg.{Msg}
use Rattle.sim_base.specs.declared.message.Job.{Job as JobOf}
use Rattle.sim_base.specs.declared.message.Change.{Change}
use Rattle.sim_base.specs.declared.message.Param.{Param}
use Rattle.sim_base.specs.declared.message.Param.TheVariants.{Every, Service, Hold, Servers, Room, Weight}
use Rattle.sim_base.specs.declared.message.Payload.{Payload}
use Rattle.sim_base.specs.declared.message.Payload.TheVariants.{Tick, Job, Done, Set}

-- by time, then by sender, then by number
abbrev pub key_order : {M : Type 0} → (M → ℕ) → (M → ℕ) → (M → ℕ) → M → M → Ordering
key_order time sender number x y = ordering_then (nat_cmp (time x) (time y))
    (ordering_then (nat_cmp (sender x) (sender y)) (nat_cmp (number x) (number y)))

-- keys in this order
abbrev pub key_cmp : Key → Key → Ordering
key_cmp a b = key_order (λ (k : Key). k.time) (λ k. k.sender) (λ k. k.number) a b

-- jobs by source, then by count, then by time of birth
abbrev pub job_cmp : JobOf → JobOf → Ordering
job_cmp a b = ordering_then (nat_cmp a.source b.source)
    (ordering_then (nat_cmp a.count b.count) (nat_cmp a.born b.born))

-- the place of a parameter among all of them
abbrev pub param_index : Param → ℕ
param_index Every = 0
param_index Service = 1
param_index Hold = 2
param_index Servers = 3
param_index Room = 4
param_index Weight = 5

-- changes by parameter, then by first value, then by second value
abbrev pub change_cmp : Change → Change → Ordering
change_cmp a b = ordering_then (nat_cmp (param_index a.param) (param_index b.param))
    (ordering_then (nat_cmp a.a b.a) (nat_cmp a.b b.b))

-- the place of a kind of payload among all kinds
abbrev pub payload_index : Payload → ℕ
payload_index Tick = 0
payload_index (Job j) = 1
payload_index (Done j) = 2
payload_index (Set c) = 3

-- payloads by kind, and those of one kind by their job or change
abbrev pub payload_cmp : Payload → Payload → Ordering
payload_cmp (Job a) (Job b) = job_cmp a b
payload_cmp (Done a) (Done b) = job_cmp a b
payload_cmp (Set a) (Set b) = change_cmp a b
payload_cmp p q = nat_cmp (payload_index p) (payload_index q)

-- messages by key, then by receiver, then by payload
abbrev pub msg_cmp : Msg → Msg → Ordering
msg_cmp a b = ordering_then (key_cmp a.key b.key) (ordering_then (nat_cmp a.to b.to) (payload_cmp a.payload b.payload))
