-- The messages that a station sends.
use Rattle.std.specs.Prelude.{ℕ, ◌+◌, ◌*◌, ◌<◌, ◌≤◌, List, [], ◌∷◌, ◌++◌, map, slice_get, Option, Some, None}
use Rattle.sim_base.specs.declared.message.Msg.{Msg}
use Rattle.sim_base.specs.declared.message.Job.{Job as JobOf}
use Rattle.sim_base.specs.declared.message.Payload.{Payload}
use Rattle.sim_base.specs.declared.message.Payload.TheVariants.{Job}
use Rattle.sim_draw.specs.Drawing.{after_draw, range_of, pick_of, after_pick_by}
use Rattle.net_model.specs.declared.station.Link.{Link}
use Rattle.stations.specs.declared.sender.Sender.{Sender}
use Rattle.stations.specs.declared.sender.TheConstants.{MAX_COUNTS, MAX_EVENT_TIMES, MAX_SENDS}

-- a sender, and the messages that it has sent since a message arrived, in order
pub record Outgoing : Type 0 where
  pub sender : Sender
  pub sends : List Msg

-- the same, from its parts
abbrev pub outgoing : Sender → List Msg → Outgoing
outgoing sender sends = record { sender = sender; sends = sends }

-- a station that has sent `sent` messages for the one that arrived at `now` may send `more`. Its list has places, its
-- numbers, draws and time are far from their ends. A message takes at most two drawn words
pub record MaySend (more now : ℕ) (sender : Sender) (sent : ℕ) : Type 0 where
  pub free : sent + more ≤ MAX_SENDS
  pub next : sender.next + more ≤ MAX_COUNTS
  pub draws : sender.draws.count + 2 * more ≤ MAX_COUNTS
  pub time_max : now < MAX_EVENT_TIMES

-- one more message is sent, with the sender's next number
abbrev pub send : ℕ → ℕ → Payload → Outgoing → Outgoing
send time to payload o = record {
  sender = record o.sender { next = o.sender.next + 1 };
  sends = o.sends ++ record {
    key = record { time = time; sender = o.sender.station; number = o.sender.next };
    to = to;
    payload = payload;
  } ∷ [];
}

-- one word was drawn
abbrev pub draw : Outgoing → Outgoing
draw o = record o { sender = record o.sender { draws = after_draw o.sender.draws } }

-- a message to the station itself, after a time drawn from lo to hi
abbrev pub send_later : ℕ → ℕ → ℕ → Payload → Outgoing → Outgoing
send_later now lo hi payload o = send (now + range_of lo hi o.sender.draws) o.sender.station payload (draw o)

-- a job is sent over a link
abbrev pub send_over : Option Link → ℕ → JobOf → Outgoing → Outgoing
send_over None time job o = o
send_over (Some link) time job o = send (time + link.delay) link.to (Job job) o

-- a link was picked by these weights
abbrev pub after_pick : List ℕ → Outgoing → Outgoing
after_pick weights o = record o { sender = record o.sender { draws = after_pick_by weights o.sender.draws } }

-- the link that is picked by these weights
abbrev pub link_by : List Link → List ℕ → Outgoing → Option Link
link_by links weights o = slice_get links (pick_of weights o.sender.draws)

-- a job is sent over a link that is picked by these weights
abbrev pub route_by : List Link → List ℕ → ℕ → JobOf → Outgoing → Outgoing
route_by links weights time job o = send_over (link_by links weights o) time job (after_pick weights o)

-- the weights of the links, in order
abbrev pub weights_of : List Link → List ℕ
weights_of links = map (λ (l : Link). l.weight) links

-- a job is sent over one of the links, by the weights of the model
abbrev pub route : List Link → ℕ → JobOf → Outgoing → Outgoing
route links time job o = route_by links (weights_of links) time job o

-- the result of a message: the new state of the station's kind, and the sends
pub record Reaction (S : Type 0) : Type 0 where
  pub state : S
  pub out : Outgoing

-- the same, from its parts
abbrev pub reaction : {S : Type 0} → S → Outgoing → Reaction S
reaction state out = record { state = state; out = out }

-- a reaction with f applied to its state
abbrev pub reaction_as : {S T : Type 0} → (S → T) → Reaction S → Reaction T
reaction_as f r = record { state = f r.state; out = r.out }
