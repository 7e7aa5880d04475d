-- States of stations as plain data, data just within the bounds, and data that breaks one bound.
use Rattle.std.specs.Prelude.{ℕ, List, [], ◌∷◌}
use Rattle.sim_base.specs.declared.message.Job.{Job as JobOf}
use Rattle.stations.specs.declared.saved.Saved.{Saved}
use Rattle.stations.specs.declared.saved.Shape.{Shape}
use Rattle.stations.specs.declared.saved.Shape.TheVariants.{Source, Server, Delay, Router, Sink}

-- next, drawn, handled, shape
abbrev pub saved : ℕ → ℕ → ℕ → Shape → Saved
saved next drawn handled shape = record { next = next; drawn = drawn; handled = handled; shape = shape }

-- passed, and one weight for each link
abbrev pub router : ℕ → List ℕ → Shape
router passed weights = Router passed (record { items = weights })

-- source, count and time of birth of a waiting job
abbrev pub waiting : ℕ → ℕ → ℕ → JobOf
waiting source count born = record { source = source; count = count; born = born }

-- the worked example at 10: both jobs are sent, the first is done, the second is in service
abbrev pub gate_at_10 : Saved
gate_at_10 = saved 4 2 2 (Source 3 3 2)

abbrev pub desk_at_10 : Saved
desk_at_10 = saved 3 2 3 (Server 1 5 4 4 1 1 0 [])

abbrev pub out_at_10 : Saved
out_at_10 = saved 0 0 0 (Sink 0 0)

-- ---- the gate of the worked example, a source of two jobs

-- all counts at their bounds; a restored source may have sent more jobs than it handled messages
abbrev pub sources_at_bounds : List Saved
sources_at_bounds =
    saved 262160 262160 16384 (Source 1 1000000 2)
    ∷ saved 16 16 0 (Source 1 1 2) ∷ []

-- a handled count above the limit. More than 16 numbers or draws for each message and the opening. Ranges that begin at
-- 0, go down, or end too late. More jobs sent than the model has. The shape of another kind
abbrev pub unfit_sources : List Saved
unfit_sources =
    saved 0 0 16385 (Source 3 3 0)
    ∷ saved 49 0 2 (Source 3 3 0)
    ∷ saved 0 49 2 (Source 3 3 0)
    ∷ saved 0 0 2 (Source 0 3 0)
    ∷ saved 0 0 2 (Source 4 3 0)
    ∷ saved 0 0 2 (Source 3 1000001 0)
    ∷ saved 0 0 2 (Source 3 3 3)
    ∷ saved 0 0 2 (Sink 0 0) ∷ []

-- ---- its desk

-- all parameters and counts at their bounds, also with a waiting job
abbrev pub servers_at_bounds : List Saved
servers_at_bounds =
    saved 0 0 3 (Server 16 4096 1 1000000 16 3 3 (waiting 1 999999 19 ∷ []))
    ∷ saved 0 0 0 (Server 1 0 1 1 0 0 0 []) ∷ []

-- no server and 17. Too much room. Ranges that begin at 0 and go down. 17 busy. A waiting job with a server free. More
-- done or lost than handled. Jobs made by a server and by no station. A count and a time of birth that are too large.
-- The shape of another kind
abbrev pub unfit_servers : List Saved
unfit_servers =
    saved 0 0 3 (Server 0 5 4 4 0 0 0 [])
    ∷ saved 0 0 3 (Server 17 5 4 4 0 0 0 [])
    ∷ saved 0 0 3 (Server 1 4097 4 4 0 0 0 [])
    ∷ saved 0 0 3 (Server 1 5 0 4 0 0 0 [])
    ∷ saved 0 0 3 (Server 1 5 5 4 0 0 0 [])
    ∷ saved 0 0 3 (Server 1 5 4 4 17 0 0 [])
    ∷ saved 0 0 3 (Server 2 5 4 4 1 0 0 (waiting 1 0 3 ∷ []))
    ∷ saved 0 0 3 (Server 1 5 4 4 0 4 0 [])
    ∷ saved 0 0 3 (Server 1 5 4 4 0 0 4 [])
    ∷ saved 0 0 3 (Server 1 5 4 4 1 0 0 (waiting 2 0 3 ∷ []))
    ∷ saved 0 0 3 (Server 1 5 4 4 1 0 0 (waiting 4 0 3 ∷ []))
    ∷ saved 0 0 3 (Server 1 5 4 4 1 0 0 (waiting 1 1000000 3 ∷ []))
    ∷ saved 0 0 3 (Server 1 5 4 4 1 0 0 (waiting 1 0 20 ∷ []))
    ∷ saved 0 0 3 (Source 4 4 0) ∷ []

-- ---- its sink

abbrev pub sinks_at_bounds : List Saved
sinks_at_bounds = saved 0 0 3 (Sink 3 281474976710655) ∷ []

-- more jobs than messages; a sum of stays of 2^48; the shape of another kind
abbrev pub unfit_sinks : List Saved
unfit_sinks =
    saved 0 0 3 (Sink 4 0) ∷ saved 0 0 3 (Sink 0 281474976710656) ∷ saved 0 0 3 (Delay 1 1 0) ∷ []

-- ---- the router with two links, and the delay after it

abbrev pub routers_at_bounds : List Saved
routers_at_bounds = saved 0 0 3 (router 3 (1 ∷ 1000 ∷ [])) ∷ []

-- a weight too few and one too many; weights of 0 and above MAX_WEIGHT; more passed than handled; another kind's shape
abbrev pub unfit_routers : List Saved
unfit_routers =
    saved 0 0 3 (router 0 (4 ∷ []))
    ∷ saved 0 0 3 (router 0 (4 ∷ 6 ∷ 1 ∷ []))
    ∷ saved 0 0 3 (router 0 (0 ∷ 6 ∷ []))
    ∷ saved 0 0 3 (router 0 (4 ∷ 1001 ∷ []))
    ∷ saved 0 0 3 (router 4 (4 ∷ 6 ∷ []))
    ∷ saved 0 0 3 (Delay 1 1 0) ∷ []

abbrev pub delays_at_bounds : List Saved
delays_at_bounds = saved 0 0 3 (Delay 0 1000000 3) ∷ []

-- ranges that go down or end too late; more passed than handled; the shape of another kind
abbrev pub unfit_delays : List Saved
unfit_delays =
    saved 0 0 3 (Delay 2 1 0)
    ∷ saved 0 0 3 (Delay 0 1000001 0)
    ∷ saved 0 0 3 (Delay 1 1 4)
    ∷ saved 0 0 3 (router 0 (4 ∷ 6 ∷ [])) ∷ []
