-- Texts of watches, and watches of one server whose second job waits from 8 to 9.
use Rattle.std.specs.Prelude.{ℕ, List, [], ◌∷◌, ◌++◌, codes, replicate}
use Rattle.sim_base.specs.Clones.{Clone, base}
use Rattle.sim_base.specs.declared.entry.Entry.{Entry}
use Rattle.sim_base.specs.declared.entry.Line.{Line}
use Rattle.sim_base.specs.declared.message.Msg.{Msg}
use Rattle.sim_base.specs.declared.message.Param.TheVariants.{Servers}
use Rattle.net_model.specs.Net.{Net}
use Rattle.stations.specs.Examples.{at, analyst, clone, done, job, server, set, set_at, sink, source, tick}
use Rattle.stations.specs.Examples.OneDesk.{desk, gate, one_desk, out}
use Rattle.watch_points.specs.declared.watch.Watch.{Watch}

-- ---- texts

-- a watch between a comment and an empty line
abbrev pub watch_after_comment : List ℕ
watch_after_comment = codes "# one waits\nwatch base desk wait 1 fork help set desk servers 2\r\n\n"

-- a number with a leading zero
abbrev pub leading_zero : List ℕ
leading_zero = codes "\nwatch base desk wait 01 fork help set desk servers 2"

-- one value for a parameter that has two, and a number with a leading zero
abbrev pub missing_value : List ℕ
missing_value = codes "watch base desk wait 01 fork help set desk service 2\n"

-- a keyword that a watch does not have
abbrev pub wrong_keyword : List ℕ
wrong_keyword = codes "watch base desk waits 1 fork help set desk servers 2\n"

-- no watch, but a decision
abbrev pub decision_line : List ℕ
decision_line = codes "fork help from base\n"

-- two lines with a fault: a leading zero, and then a keyword that a watch does not have
abbrev pub two_faults : List ℕ
two_faults = leading_zero ++ codes "\nwatch base desk waits 1 fork help set desk servers 2\n"

-- ---- watches

-- when one job waits at the desk, `help` has two servers there; the watch of that text
abbrev pub help : Watch
help = record {
  line = 2;
  who = codes "base";
  station = codes "desk";
  least = 1;
  new = codes "help";
  target = codes "desk";
  change = record { param = Servers; a = 2; b = 0 };
}

-- a watch of that branch, for which no job needs to wait
abbrev pub more : Watch
more = record help { line = 3; who = codes "help"; new = codes "more"; least = 0 }

-- a second watch of the base clone, for which no job needs to wait either
abbrev pub early : Watch
early = record help { line = 4; new = codes "early"; least = 0 }

-- a watch whose branch has a change that no server takes: it would have no servers
abbrev pub no_servers : Watch
no_servers = record help { change = record { param = Servers; a = 0; b = 0 } }

-- a watch of a station that the model does not have, and one whose branch has the name of another
abbrev pub lost : Watch
lost = record more { station = codes "desc" }

abbrev pub again : Watch
again = record early { new = codes "help" }

-- ---- branches

-- the branch of `help`: two servers from 10 on
abbrev pub helped : Clone
helped = clone (codes "help") (set_at 10 desk Servers 2 0 ∷ [])

-- the branch of `more`: its set of 10 is the first entry from 10 on, so it has a second set at 12
abbrev pub helped_more : Clone
helped_more = clone (codes "more") (set_at 10 desk Servers 2 0 ∷ set_at 12 desk Servers 2 0 ∷ [])

-- the branch of `early`: the first entry of the desk is at 5
abbrev pub helped_early : Clone
helped_early = clone (codes "early") (set_at 7 desk Servers 2 0 ∷ [])

-- the trace of `helped`: the second job's service began at 9, so nothing else changes
abbrev pub helped_trace : List (Entry Msg Line)
helped_trace =
    at 3 gate gate 0 tick (source 1)
    ∷ at 5 desk gate 1 (job gate 0 3) (server 1 0 0 0)
    ∷ at 6 gate gate 2 tick (source 2)
    ∷ at 8 desk gate 3 (job gate 1 6) (server 1 1 0 0)
    ∷ at 9 desk desk 0 (done gate 0 3) (server 1 0 1 0)
    ∷ at 10 desk analyst 0 (set Servers 2 0) (server 1 0 1 0)
    ∷ at 11 out desk 1 (job gate 0 3) (sink 1 8)
    ∷ at 13 desk desk 2 (done gate 1 6) (server 0 0 2 0)
    ∷ at 15 out desk 3 (job gate 1 6) (sink 2 17) ∷ []

-- the model with another horizon
abbrev pub until : ℕ → Net
until horizon = record one_desk { horizon = horizon }

-- the base clone with this number of decisions
abbrev pub busy_base : ℕ → Clone
busy_base n = record base { plans = replicate n (set_at 1 desk Servers 1 0) }
