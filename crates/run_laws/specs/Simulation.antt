-- The parts of a run: messages and their order, stations, and how a station handles a message.
--
-- S are the states of stations, M messages, N the counts that a log has for each message.
use Rattle.std.specs.Prelude.{ℕ, List, Option}
use Rattle.std.specs.declared.cmp.Ordering.{Ordering}
use Rattle.sim_base.specs.declared.decision.Planned.{Planned}

-- the result of handling a message
pub record Outcome (S M N : Type 0) : Type 0 where
  pub state : S
  pub sends : List M
  pub line : N

-- a station's state at the start, and its first message
pub record Opening (S M : Type 0) : Type 0 where
  pub state : S
  pub first : Option M

-- the parts of a run: the messages, the stations and how they handle messages, and the bounds of the run
pub record Simulation (S M N : Type 0) : Type 0 where
  -- the order of messages, the time stamp and the receiver of each
  pub order : M → M → Ordering
  pub time : M → ℕ
  pub to : M → ℕ
  -- the stations have the numbers from 1 on
  pub stations : ℕ
  pub setup : ℕ → Opening S M
  pub handle : ℕ → S → M → Outcome S M N
  -- the message of the decision at place k of a clone's list
  pub set_message : ℕ → Planned → M
  -- no link is faster than the lookahead; nothing is handled at the horizon or later
  pub lookahead : ℕ
  pub horizon : ℕ
  -- the most entries in the log of a station
  pub limit : ℕ
