-- One turn of a one-thread run, and its end at the limit.
use Rattle.std.specs.Prelude.{◌≡◌, ℕ, ◌+◌, ◌-◌, ◌*◌, ◌≤◌, ◌<◌, List, [], ◌∷◌, ◌++◌, length, Some, None, slice_get, slice_set}
use Rattle.std.specs.List.{AllByRecursion}
use Rattle.sim_base.specs.Order.{msg_cmp}
use Rattle.sim_base.specs.declared.message.Msg.{Msg}
use Rattle.sim_base.specs.declared.entry.Entry.{Entry}
use Rattle.sim_base.specs.declared.entry.Line.{Line}
use Rattle.run_laws.specs.Machine.{Config, config_after, Next, Reach}
use Rattle.run_laws.specs.Runs as runs
use Rattle.run_laws.specs.World.{World, world_step}
use Rattle.net_model.specs.Net.{Net, HasStation}
use Rattle.stations.specs.Fits.{FitsState, SuitsNet}
use Rattle.stations.specs.Handling.{StateView, handle}
use Rattle.stations.specs.Runs.{simulation}
use Rattle.solo_run.specs.Limit.{first_beyond}
use Rattle.solo_run.specs.SoloView.{Entries, SoloView, IsSoloAfter, config_of}
use Rattle.solo_run.specs.declared.turn.SoloFault.{SoloFault}
use Rattle.solo_run.specs.declared.turn.SoloFault.TheVariants.{NoMemory, Limit}

-- a station of the network handles a message
abbrev pub step_of : Net → World StateView Msg Line → Msg → World StateView Msg Line × List Msg
step_of net = world_step (simulation net).to (simulation net).handle

-- the run of a network from its present state to a front
abbrev pub run_from : Net → SoloView → ℕ → Config (World StateView Msg Line) Msg
run_from net v front = runs.run_from (simulation net) (config_of net v) front

-- turns, each of a message before the front, lead from one run to the other
abbrev pub IsReached : Net → ℕ → SoloView → SoloView → Type 0
IsReached net front v w = Reach msg_cmp (λ m. m.key.time) (step_of net) front (config_of net v) (config_of net w)

-- the state at index i handles a message
pub record HandlesAt (net : Net) (i : ℕ) (m : Msg) (old new : List StateView) (sends : List Msg) (line : Line) :
    Type 0 where
  pub before : StateView
  pub after : StateView
  pub is_there : slice_get old i ≡ Some before
  pub below : before.handled < net.limit
  pub new_states : new ≡ slice_set old i after
  pub gives : handle net before m ≡ record { state = after; sends = sends; line = line }
  pub suits : SuitsNet net after
  pub fits : FitsState after

-- the station at index i has handled as many messages as it may, and no step was taken
pub record IsStationFull (net : Net) (i : ℕ) (states : List StateView) (old_steps new_steps station kept : ℕ) :
    Type 0 where
  pub state : StateView
  pub is_there : slice_get states i ≡ Some state
  pub full : net.limit ≤ state.handled
  pub is_here : station ≡ i + 1
  pub keeps : kept ≡ net.limit
  pub steps : new_steps ≡ old_steps

-- why a step of the station at index i fails: out of memory may always come, and at the limit it is full
abbrev pub StopsAt : Net → ℕ → List StateView → ℕ → ℕ → SoloFault → Type 0
StopsAt net i states old_steps new_steps NoMemory = Unit {0}
StopsAt net i states old_steps new_steps (Limit station kept) =
    IsStationFull net i states old_steps new_steps station kept

-- a due message is handled: the run reaches the state after the turn
abbrev pub HasTurned : Net → SoloView → Msg → SoloView → Type 0
HasTurned net v m new = config_of net new ≡ config_after msg_cmp (step_of net) (config_of net v).at m v.pending

-- the run has handled its first message, which is before the front, and counted a step
pub record HasTurnedBefore (net : Net) (past : Entries) (front : ℕ) (v w : SoloView) (old_steps new_steps : ℕ) :
    Type 0 where
  pub next : Next msg_cmp (λ m. m.key.time) (step_of net) front (config_of net v) (config_of net w)
  pub solo : IsSoloAfter net past w
  pub counted : new_steps ≡ old_steps + 1
  pub longer : length w.trace ≡ length v.trace + 1

-- the run has not changed, and has no message before the front
pub record HasEnded (front : ℕ) (v w : SoloView) (old_steps new_steps : ℕ) : Type 0 where
  pub same : w ≡ v
  pub uncounted : new_steps ≡ old_steps
  pub none : AllByRecursion (λ m. front ≤ m.key.time) v.pending

-- the run's first message is before the front, and its station is full
pub record IsFirstFull (net : Net) (front : ℕ) (v : SoloView) (old_steps new_steps station kept : ℕ) : Type 0 where
  pub message : Msg
  pub rest : List Msg
  pub is : v.pending ≡ message ∷ rest
  pub time_max : message.key.time < front
  pub full : IsStationFull net (message.to - 1) v.states old_steps new_steps station kept

-- why the first turn before a front fails
abbrev pub StopsBefore : Net → ℕ → SoloView → ℕ → ℕ → SoloFault → Type 0
StopsBefore net front v old_steps new_steps NoMemory = Unit {0}
StopsBefore net front v old_steps new_steps (Limit station kept) =
    IsFirstFull net front v old_steps new_steps station kept

-- the run to a front goes beyond the limit, and past entries count. All entries before the first one beyond it were
-- handled, one step for each, and no station has handled more than the limit
pub record GoesBeyondAfter (net : Net) (past : Entries) (v : SoloView)
    (front old_steps new_steps station kept : ℕ) : Type 0 where
  pub done : Entries
  pub entry : Entry Msg Line
  pub rest : Entries
  pub trace : (run_from net v front).at.trace ≡ done ++ entry ∷ rest
  pub before : first_beyond net.limit past done ≡ None
  pub first : first_beyond net.limit past (run_from net v front).at.trace ≡ Some station
  pub is_for : station ≡ entry.msg.to
  pub is_station : HasStation net station
  pub keeps : kept ≡ net.limit
  pub steps : new_steps + length v.trace ≡ old_steps + length done
  pub bounded : length done ≤ length net.sites * net.limit

-- why a run to a front stops after past entries
abbrev pub StopsAfter : Net → Entries → SoloView → ℕ → ℕ → ℕ → SoloFault → Type 0
StopsAfter net past v front old_steps new_steps NoMemory = Unit {0}
StopsAfter net past v front old_steps new_steps (Limit station kept) =
    GoesBeyondAfter net past v front old_steps new_steps station kept

-- why a run from the beginning stops
abbrev pub Stops : Net → SoloView → ℕ → ℕ → ℕ → SoloFault → Type 0
Stops net v front old_steps new_steps fault = StopsAfter net [] v front old_steps new_steps fault
