-- Worked examples: a snapshot of the run of two jobs at a desk, and pending messages that a snapshot may not have.
use Rattle.std.specs.Prelude.{ℕ, List, [], ◌∷◌, codes, drop, take, None}
use Rattle.sim_base.specs.declared.message.Key.{Key}
use Rattle.sim_base.specs.declared.message.Msg.{Msg}
use Rattle.sim_base.specs.declared.message.Payload.{Payload}
use Rattle.stations.specs.Examples.{job, done}
use Rattle.stations.specs.Examples.OneDesk.{gate, desk, one_desk_trace, out}
use Rattle.stations.specs.Examples.SavedStates.{gate_at_10, desk_at_10, out_at_10}
use Rattle.stations.specs.declared.saved.Saved.{Saved}
use Rattle.solo_run.specs.SoloView.{Entries}
use Rattle.checkpoint.specs.Snapshots.{SnapshotView}

-- time, sender, number, receiver, payload
abbrev pub message : ℕ → ℕ → ℕ → ℕ → Payload → Msg
message time sender number to payload = record {
  key = record { time = time; sender = sender; number = number };
  to = to;
  payload = payload;
}

-- the saved data of the stations at 10
abbrev pub saved_at_10 : List Saved
saved_at_10 = gate_at_10 ∷ desk_at_10 ∷ out_at_10 ∷ []

-- the first job is on its way out, the second in service
abbrev pub due_at_10 : List Msg
due_at_10 = message 11 desk 1 out (job gate 0 3) ∷ message 13 desk 2 desk (done gate 1 6) ∷ []

-- the snapshot at 10
abbrev pub base_at_10 : SnapshotView
base_at_10 = record {
  who = codes "base";
  front = 10;
  end = None;
  saved = saved_at_10;
  due = due_at_10;
  lines =
      codes "3 gate gate 0 tick sent=1"
      ∷ codes "5 desk gate 1 job gate.0 busy=1 wait=0 done=0 lost=0"
      ∷ codes "6 gate gate 2 tick sent=2"
      ∷ codes "8 desk gate 3 job gate.1 busy=1 wait=1 done=0 lost=0"
      ∷ codes "9 desk desk 0 done gate.0 busy=1 wait=0 done=1 lost=0" ∷ [];
}

-- each of these is bad as the only pending message at 10: it comes too early and too late; it is for no station, and
-- from none; its number is not used yet; its job was made by the desk
abbrev pub bad_messages : List Msg
bad_messages =
    message 9 desk 1 out (job gate 0 3)
    ∷ message 2147483648 desk 1 out (job gate 0 3)
    ∷ message 11 desk 1 4 (job gate 0 3)
    ∷ message 11 4 1 out (job gate 0 3)
    ∷ message 11 desk 3 out (job gate 0 3)
    ∷ message 11 desk 1 out (job desk 0 3) ∷ []

-- the third message is a completion for which no job is in service
abbrev pub one_completion_too_many : List Msg
one_completion_too_many =
    message 11 desk 1 out (job gate 0 3)
    ∷ message 13 desk 0 desk (done gate 0 3)
    ∷ message 13 desk 2 desk (done gate 1 6) ∷ []

-- the desk has the data of the gate, and so has the out
abbrev pub two_unfit : List Saved
two_unfit = gate_at_10 ∷ gate_at_10 ∷ gate_at_10 ∷ []

-- the entries before 10, of which three are of the desk, and those from 10 on
abbrev pub past_at_10 : Entries
past_at_10 = take 5 one_desk_trace

abbrev pub rest_at_10 : Entries
rest_at_10 = drop 5 one_desk_trace

-- the key of the desk's entry at 13
abbrev pub key_at_13 : Key
key_at_13 = record { time = 13; sender = desk; number = 2 }
