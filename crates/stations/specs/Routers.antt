-- Routers: each job moves on at once, over a link that the router chooses. This is the definition of a router, step by
-- step.
use Rattle.std.specs.Prelude.{ℕ, ◌+◌, ◌-◌, ◌%◌, if◌then◌else◌, length, slice_get, slice_set}
use Rattle.sim_base.specs.declared.message.Job.{Job as JobOf}
use Rattle.sim_base.specs.declared.message.Change.{Change}
use Rattle.sim_base.specs.declared.message.Payload.{Payload}
use Rattle.sim_base.specs.declared.message.Payload.TheVariants.{Job, Set}
use Rattle.net_model.specs.Net.{Site, routes_by_turn}
use Rattle.stations.specs.declared.kind_state.RouterState.{RouterState}
use Rattle.stations.specs.Sending.{Outgoing, Reaction, reaction, send_over, route_by}
use Rattle.stations.specs.Changes.{is_accepted}

-- a job goes over the next link by turn, or over a link that is picked by the weights
abbrev pub router_job : Site → ℕ → JobOf → RouterState → Outgoing → Outgoing
router_job site now job s o =
    if routes_by_turn site.kind
    then send_over (slice_get site.links (s.passed % length site.links)) now job o
    else route_by site.links s.weights.items now job o

-- the weight of a link changes; links are counted from 1
abbrev pub router_set : Site → Change → RouterState → RouterState
router_set site c s = if is_accepted site c then record s
    { weights = record { items = slice_set s.weights.items (c.a - 1) c.b } } else s

-- a router handles a message: a job is passed on, a change is made, and everything else is ignored
abbrev pub router_on : Site → ℕ → Payload → RouterState → Outgoing → Reaction RouterState
router_on site now (Job j) s o = reaction (record s { passed = s.passed + 1 }) (router_job site now j s o)
router_on site now (Set c) s o = reaction (router_set site c s) o
router_on site now _ s o = reaction s o
