-- The worked examples, and their notation for a log entry, which is like a line of a trace text. The line
--     5 desk gate 1 job gate.0 busy=1 wait=0 done=0 lost=0
-- is `at 5 desk gate 1 (job gate 0 3) (server 1 0 0 0)`, for a job made at 3.
use Rattle.std.specs.Prelude.{ℕ, List, None}
use Rattle.sim_base.specs.Clones.{Clone}
use Rattle.sim_base.specs.declared.message.Msg.{Msg}
use Rattle.sim_base.specs.declared.message.Param.{Param}
use Rattle.sim_base.specs.declared.message.Payload.{Payload}
use Rattle.sim_base.specs.declared.message.Payload.TheVariants.{Tick, Job, Done, Set}
use Rattle.sim_base.specs.declared.entry.Entry.{Entry}
use Rattle.sim_base.specs.declared.entry.Line.{Line}
use Rattle.sim_base.specs.declared.entry.Line.TheVariants.{Source, Server, Passed, Sink}
use Rattle.sim_base.specs.declared.decision.Planned.{Planned}
pub mod OneDesk
pub mod Draws
pub mod FullRoom
pub mod Routers
pub mod Classes
pub mod Changes
pub mod SeveralLinks
pub mod SavedStates

-- time, receiver, sender, number, payload, counts
abbrev pub at : ℕ → ℕ → ℕ → ℕ → Payload → Line → Entry Msg Line
at time receiver sender number payload line =
    record {
      msg = record {
        key = record { time = time; sender = sender; number = number };
        to = receiver;
        payload = payload;
      };
      line = line;
    }

-- the sender number of the analysts
abbrev pub analyst : ℕ
analyst = 0

-- a source's message to itself
abbrev pub tick : Payload
tick = Tick

-- source, count and time of birth of the job
abbrev pub job : ℕ → ℕ → ℕ → Payload
job source count born = Job (record { source = source; count = count; born = born })

-- the same for the job whose service ends
abbrev pub done : ℕ → ℕ → ℕ → Payload
done source count born = Done (record { source = source; count = count; born = born })

-- parameter and its two values
abbrev pub set : Param → ℕ → ℕ → Payload
set param a b = Set (record { param = param; a = a; b = b })

-- sent, of a source
abbrev pub source : ℕ → Line
source sent = Source sent

-- busy, wait, done, lost
abbrev pub server : ℕ → ℕ → ℕ → ℕ → Line
server busy wait done lost = Server busy wait done lost

-- passed, of a delay or router
abbrev pub passed : ℕ → Line
passed n = Passed n

-- got, stay
abbrev pub sink : ℕ → ℕ → Line
sink got stay = Sink got stay

-- time, station, parameter and its two values
abbrev pub set_at : ℕ → ℕ → Param → ℕ → ℕ → Planned
set_at time station param a b = record { at = time; station = station; change = record { param = param; a = a; b = b } }

-- a clone with these decisions and no end
abbrev pub clone : List ℕ → List Planned → Clone
clone name plans = record { name = name; plans = plans; end = None }
