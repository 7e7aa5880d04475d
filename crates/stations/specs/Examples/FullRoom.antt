-- Three sources whose jobs reach one desk at the same time: they arrive in the order of their senders.
use Rattle.std.specs.Prelude.{ℕ, List, [], ◌∷◌, codes, false}
use Rattle.sim_base.specs.Clones.{Clone}
use Rattle.sim_base.specs.declared.message.Msg.{Msg}
use Rattle.sim_base.specs.declared.message.Param.TheVariants.{Servers, Room}
use Rattle.sim_base.specs.declared.entry.Entry.{Entry}
use Rattle.sim_base.specs.declared.entry.Line.{Line}
use Rattle.net_model.specs.declared.station.Kind.TheVariants.{Source, Server, Sink}
use Rattle.net_model.specs.declared.limits.TheConstants.{USUAL_LIMIT}
use Rattle.net_model.specs.Net.{Net, link}
use Rattle.stations.specs.Examples.{at, analyst, tick, job, done, set, source, server, sink, set_at, clone}

-- the number of the first source
abbrev pub s1 : ℕ
s1 = 1

-- of the second
abbrev pub s2 : ℕ
s2 = 2

-- and of the third
abbrev pub s3 : ℕ
s3 = 3

-- the number of the server
abbrev pub desk : ℕ
desk = 4

-- and of the sink
abbrev pub out : ℕ
out = 5

-- one job of each source, at 3; one server, which serves for 4, with this room
abbrev pub three_sources : ℕ → Net
three_sources room = record {
  format = 1;
  lookahead = 2;
  horizon = 20;
  seed = 0;
  limit = USUAL_LIMIT;
  sites =
      record { name = codes "s1"; kind = Source 3 3 1 1; stream = 1; links = link desk 2 ∷ [] }
      ∷ record { name = codes "s2"; kind = Source 3 3 1 1; stream = 2; links = link desk 2 ∷ [] }
      ∷ record { name = codes "s3"; kind = Source 3 3 1 1; stream = 3; links = link desk 2 ∷ [] }
      ∷ record { name = codes "desk"; kind = Server 1 room 4 4 false; stream = 4; links = link out 2 ∷ [] }
      ∷ record { name = codes "out"; kind = Sink; stream = 5; links = [] } ∷ [];
}

-- without room, a job that arrives at a busy desk is lost
abbrev pub no_room_trace : List (Entry Msg Line)
no_room_trace =
    at 3 s1 s1 0 tick (source 1)
    ∷ at 3 s2 s2 0 tick (source 1)
    ∷ at 3 s3 s3 0 tick (source 1)
    ∷ at 5 desk s1 1 (job s1 0 3) (server 1 0 0 0)
    ∷ at 5 desk s2 1 (job s2 0 3) (server 1 0 0 1)
    ∷ at 5 desk s3 1 (job s3 0 3) (server 1 0 0 2)
    ∷ at 9 desk desk 0 (done s1 0 3) (server 0 0 1 2)
    ∷ at 11 out desk 1 (job s1 0 3) (sink 1 8) ∷ []

-- with three servers from 6 on, the waiting jobs are served at once
abbrev pub more_servers : Clone
more_servers = clone (codes "base") (set_at 6 desk Servers 3 0 ∷ [])

-- the two jobs that wait at 5 are in service from 6 on, and done at 10
abbrev pub more_servers_trace : List (Entry Msg Line)
more_servers_trace =
    at 3 s1 s1 0 tick (source 1)
    ∷ at 3 s2 s2 0 tick (source 1)
    ∷ at 3 s3 s3 0 tick (source 1)
    ∷ at 5 desk s1 1 (job s1 0 3) (server 1 0 0 0)
    ∷ at 5 desk s2 1 (job s2 0 3) (server 1 1 0 0)
    ∷ at 5 desk s3 1 (job s3 0 3) (server 1 2 0 0)
    ∷ at 6 desk analyst 0 (set Servers 3 0) (server 3 0 0 0)
    ∷ at 9 desk desk 0 (done s1 0 3) (server 2 0 1 0)
    ∷ at 10 desk desk 1 (done s2 0 3) (server 1 0 2 0)
    ∷ at 10 desk desk 2 (done s3 0 3) (server 0 0 3 0)
    ∷ at 11 out desk 3 (job s1 0 3) (sink 1 8)
    ∷ at 12 out desk 4 (job s2 0 3) (sink 2 17)
    ∷ at 12 out desk 5 (job s3 0 3) (sink 3 26) ∷ []

-- two servers at the start, and from 6 on one server and no room: two are in service then, and one waits
abbrev pub less : Clone
less = clone (codes "base") (set_at 0 desk Servers 2 0 ∷ set_at 6 desk Servers 1 0 ∷ set_at 6 desk Room 0 0 ∷ [])

-- no service ends sooner. The first completion starts no job; the waiting job stays, and is served after the second
abbrev pub less_log : List (Entry Msg Line)
less_log =
    at 0 desk analyst 0 (set Servers 2 0) (server 0 0 0 0)
    ∷ at 5 desk s1 1 (job s1 0 3) (server 1 0 0 0)
    ∷ at 5 desk s2 1 (job s2 0 3) (server 2 0 0 0)
    ∷ at 5 desk s3 1 (job s3 0 3) (server 2 1 0 0)
    ∷ at 6 desk analyst 1 (set Servers 1 0) (server 2 1 0 0)
    ∷ at 6 desk analyst 2 (set Room 0 0) (server 2 1 0 0)
    ∷ at 9 desk desk 0 (done s1 0 3) (server 1 1 1 0)
    ∷ at 9 desk desk 1 (done s2 0 3) (server 1 0 2 0)
    ∷ at 13 desk desk 4 (done s3 0 3) (server 0 0 3 0) ∷ []
