-- The sums of two walks along a log, the second of which goes from arrival to arrival.
use Rattle.std.specs.Prelude.{ℕ, ◌+◌, ◌-◌, List, [], ◌∷◌, nat_lt, max, if◌then◌else◌}
use Rattle.sim_base.specs.declared.message.Msg.{Msg}
use Rattle.sim_base.specs.declared.entry.Entry.{Entry}
use Rattle.sim_base.specs.declared.entry.Line.{Line}
use Rattle.queue_stats.specs.declared.waits.Waits.{Waits}
use Rattle.queue_stats.specs.Moments.{wait_in}
use Rattle.queue_stats.specs.Figures.{one_if}
use Rattle.queue_stats.specs.Tallies.{is_job}

-- the time of the first arrival, or 0
abbrev pub first_arrival : List (Entry Msg Line) → ℕ
first_arrival [] = 0
first_arrival (e ∷ es) = if is_job e.msg.payload then e.msg.key.time else first_arrival es

-- the entries after the first arrival
abbrev pub after_first_arrival : List (Entry Msg Line) → List (Entry Msg Line)
after_first_arrival [] = []
after_first_arrival (e ∷ es) = if is_job e.msg.payload then es else after_first_arrival es

-- the waits with one more wait
abbrev pub with_wait : Waits → ℕ → Waits
with_wait w wait = record { waited = w.waited + wait; longest = max w.longest wait }

-- the waits along the rest of a log, after `came` arrivals and `started` service starts. `trail` is the log after the
-- arrival of the last started visit
abbrev pub waits_along : ℕ → ℕ → List (Entry Msg Line) → Waits → List (Entry Msg Line) → Waits
waits_along came started trail w [] = w
waits_along came started trail w (e ∷ es) =
    let now = came + one_if (is_job e.msg.payload) in
    if nat_lt started (now - wait_in e.line)
    then waits_along now (started + 1) (after_first_arrival trail)
    (with_wait w (e.msg.key.time - first_arrival trail)) es
    else waits_along now started trail w es

-- the waits of no visits
abbrev pub no_waits : Waits
no_waits = record { waited = 0; longest = 0 }

-- the waits along a whole log
abbrev pub waits_along_log : List (Entry Msg Line) → Waits
waits_along_log log = waits_along 0 0 log no_waits log
