-- Delays: each job is held for a time, independently of the others. This is the definition of a delay, step by step.
use Rattle.std.specs.Prelude.{ℕ, ◌+◌, if◌then◌else◌}
use Rattle.sim_base.specs.declared.message.Job.{Job as JobOf}
use Rattle.sim_base.specs.declared.message.Change.{Change}
use Rattle.sim_base.specs.declared.message.Payload.{Payload}
use Rattle.sim_base.specs.declared.message.Payload.TheVariants.{Job, Set}
use Rattle.sim_draw.specs.Drawing.{range_of}
use Rattle.net_model.specs.Net.{Site}
use Rattle.stations.specs.declared.kind_state.DelayState.{DelayState}
use Rattle.stations.specs.Sending.{Outgoing, Reaction, reaction, draw, send_over, after_pick, link_by, weights_of}
use Rattle.stations.specs.Changes.{is_accepted}

-- a job is held for a time from the range; its link is picked before the time is drawn
abbrev pub delay_job : Site → ℕ → JobOf → DelayState → Outgoing → Outgoing
delay_job site now job s o =
    let weights = weights_of site.links in
    let routed = after_pick weights o in
    send_over (link_by site.links weights o) (now + range_of s.lo s.hi routed.sender.draws) job (draw routed)

-- the range of the times changes, for later jobs
abbrev pub delay_set : Site → Change → DelayState → DelayState
delay_set site c s = if is_accepted site c then record s { lo = c.a; hi = c.b } else s

-- a delay handles a message: a job is passed on, a change is made, and everything else is ignored
abbrev pub delay_on : Site → ℕ → Payload → DelayState → Outgoing → Reaction DelayState
delay_on site now (Job j) s o = reaction (record s { passed = s.passed + 1 }) (delay_job site now j s o)
delay_on site now (Set c) s o = reaction (delay_set site c s) o
delay_on site now _ s o = reaction s o
