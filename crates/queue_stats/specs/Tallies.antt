-- The sums of one walk along a log.
use Rattle.std.specs.Prelude.{ℕ, ◌+◌, ◌-◌, ◌*◌, ◌≤◌, ◌<◌, ◌&&◌, List, [], ◌∷◌, Bool, true, false, nat_lt, max}
use Rattle.sim_base.specs.declared.message.Msg.{Msg}
use Rattle.sim_base.specs.declared.message.Payload.{Payload}
use Rattle.sim_base.specs.declared.message.Payload.TheVariants.{Job, Done, Set}
use Rattle.sim_base.specs.declared.entry.Entry.{Entry}
use Rattle.sim_base.specs.declared.entry.Line.{Line}
use Rattle.sim_base.specs.declared.limits.TheConstants.{MAX_HANDLED}
use Rattle.net_model.specs.declared.limits.TheConstants.{MAX_HORIZON}
use Rattle.queue_stats.specs.declared.tally.Tally.{Tally}
use Rattle.queue_stats.specs.Moments.{busy_in, wait_in, lost_in}
use Rattle.queue_stats.specs.Figures.{one_if}

-- whether a message is an arriving job
abbrev pub is_job : Payload → Bool
is_job (Job job) = true
is_job _ = false

-- whether a message is the end of a service
abbrev pub is_done : Payload → Bool
is_done (Done job) = true
is_done _ = false

-- whether a message is a change of a parameter
abbrev pub is_set : Payload → Bool
is_set (Set c) = true
is_set _ = false

-- the tally with one more entry
abbrev pub with_entry : Tally → Entry Msg Line → Tally
with_entry t e = record {
  arrived = t.arrived + one_if (is_job e.msg.payload);
  lost = t.lost + one_if (is_job e.msg.payload && nat_lt t.last_lost (lost_in e.line));
  done = t.done + one_if (is_done e.msg.payload);
  changes = t.changes + one_if (is_set e.msg.payload);
  most = max t.most (wait_in e.line);
  area = t.area + (e.msg.key.time - t.last_time) * t.in_system;
  last_time = e.msg.key.time;
  in_system = busy_in e.line + wait_in e.line;
  last_lost = lost_in e.line;
}

-- the tally with some more entries
abbrev pub tally_along : Tally → List (Entry Msg Line) → Tally
tally_along t [] = t
tally_along t (e ∷ es) = tally_along (with_entry t e) es

-- the tally of no entries
abbrev pub empty_tally : Tally
empty_tally = record {
  arrived = 0;
  lost = 0;
  done = 0;
  changes = 0;
  most = 0;
  area = 0;
  last_time = 0;
  in_system = 0;
  last_lost = 0;
}

-- an entry may be added, since no sum gets too large
pub record MayAdd (t : Tally) (e : Entry Msg Line) : Type 0 where
  pub later : t.last_time ≤ e.msg.key.time
  pub time_max : e.msg.key.time ≤ MAX_HORIZON
  pub in_system : busy_in e.line + wait_in e.line ≤ MAX_HANDLED
  pub arrived : t.arrived < MAX_HANDLED
  pub lost : t.lost < MAX_HANDLED
  pub done : t.done < MAX_HANDLED
  pub changes : t.changes < MAX_HANDLED
  pub before : t.in_system ≤ MAX_HANDLED
  pub area : t.area ≤ MAX_HANDLED * t.last_time

-- the entries come at time t or later, in order of time, and their times and numbers in the system are within the
-- limits
abbrev pub IsWithinLimits : ℕ → List (Entry Msg Line) → Type 0
IsWithinLimits t [] = Unit {0}
IsWithinLimits t (e ∷ es) = (t ≤ e.msg.key.time) × (e.msg.key.time ≤ MAX_HORIZON)
    × (busy_in e.line + wait_in e.line ≤ MAX_HANDLED) × IsWithinLimits e.msg.key.time es
