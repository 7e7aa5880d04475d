-- The laws of these stations, as statements that contracts cite: the replay of a log, and the numbering of sends.
use Rattle.std.specs.Prelude.{◌≡◌, ℕ, ◌+◌, ◌*◌, ◌<◌, ◌≤◌, List, [], ◌∷◌, ◌++◌, length}
use Rattle.std.specs.List.{AllByRecursion}
use Rattle.sim_base.specs.Clones.{Clone}
use Rattle.sim_base.specs.declared.message.TheConstants.{WORD_NUMBERS}
use Rattle.sim_base.specs.declared.message.Key.{Key}
use Rattle.sim_base.specs.declared.message.Msg.{Msg}
use Rattle.sim_base.specs.declared.entry.Entry.{Entry}
use Rattle.sim_base.specs.declared.entry.Line.{Line}
use Rattle.run_laws.specs.Queue.{In}
use Rattle.run_laws.specs.Runs.{run_of}
use Rattle.run_laws.specs.Handlers.{AreForStations}
use Rattle.run_laws.specs.Laws.{IsMessageOf}
use Rattle.run_laws.specs.Sharing.{IsWithinLimit}
use Rattle.net_model.specs.Net.{Net, HasStation}
use Rattle.stations.specs.Fits.{FitsState, SuitsNet}
use Rattle.stations.specs.Good.{IsGood}
use Rattle.stations.specs.Handling.{StateView, handle}
use Rattle.stations.specs.Opening.{setup}
use Rattle.stations.specs.Runs.{simulation, replay, log_at}
use Rattle.stations.specs.Sends.{AreSends, IsJob}
use Rattle.stations.specs.declared.sender.TheConstants.{MAX_EVENT_TIMES, MAX_SENDS}

module _ (net : Net) where
  -- the state that a log leads to has handled as many messages as the log has entries
  abbrev pub ReplayCounts : Type 0
  ReplayCounts = (s : ℕ) (log : List (Entry Msg Line)) → (replay net s log).handled ≡ length log

  -- at a station of the network it is a state of that station
  abbrev pub ReplaySuits : Type 0
  ReplaySuits = (s : ℕ) (log : List (Entry Msg Line)) → HasStation net s → SuitsNet net (replay net s log)

  -- and it meets the invariant of every state, if the times are below `MAX_EVENT_TIMES`
  abbrev pub ReplayFits : Type 0
  ReplayFits = (s : ℕ) (log : List (Entry Msg Line)) → HasStation net s →
      AllByRecursion (λ e. e.msg.key.time < MAX_EVENT_TIMES) log → FitsState (replay net s log)

  -- the replay of one more entry is the replay followed by its message
  abbrev pub ReplayGoesOn : Type 0
  ReplayGoesOn = (s : ℕ) (log : List (Entry Msg Line)) (e : Entry Msg Line) →
      replay net s (log ++ e ∷ []) ≡ (handle net (replay net s log) e.msg).state

  -- a station opens with at most one message, and sends at most `MAX_SENDS` for each that it handles; each of them
  -- gets the next number
  pub record SendsNextNumbers : Type 0 where
    pub opens : (s : ℕ) → (setup net s).state.sender.next ≤ 1
    pub at_most : (s : ℕ) (st : StateView) (m : Msg) → IsGood net s st → length (handle net st m).sends ≤ MAX_SENDS
    pub next : (s : ℕ) (st : StateView) (m : Msg) → IsGood net s st →
        (handle net st m).state.sender.next ≡ st.sender.next + length (handle net st m).sends
    pub sends : (s : ℕ) (st : StateView) (m : Msg) → IsGood net s st →
        AreSends net m.key.time s st.sender.next (handle net st m).sends

  -- so the next number of a station is bounded by its log
  abbrev pub NumbersAreSmall : Type 0
  NumbersAreSmall = (s : ℕ) (log : List (Entry Msg Line)) →
      (replay net s log).sender.next ≤ MAX_SENDS * (length log + 1)

  -- a sent job comes later by the lookahead or more, even over a link back to its own station
  abbrev pub JobsTakeTheLookahead : Type 0
  JobsTakeTheLookahead = (s : ℕ) (st : StateView) (m z : Msg) → IsGood net s st → In z (handle net st m).sends →
      IsJob z.payload → m.key.time + net.lookahead ≤ z.key.time

  -- a message's sender is the analyst (0) or a station, and its number fits a word
  pub record HasSmallKey (k : Key) : Type 0 where
    pub sender : k.sender ≤ length net.sites
    pub number : k.number < WORD_NUMBERS

  -- at a front no station's log is beyond the limit, and the decisions are all for stations, with numbers that fit
  pub record HasFewNumbers (c : Clone) (front : ℕ) : Type 0 where
    pub in_range : AreForStations (simulation net) c.plans
    pub length_max : length c.plans ≤ WORD_NUMBERS
    pub within : IsWithinLimit (simulation net) front c

  -- then each message of the clone's run, handled or pending there, has such a key
  abbrev pub KeysAreSmall : Type 0
  KeysAreSmall = (c : Clone) (front : ℕ) (m : Msg) → HasFewNumbers c front →
      IsMessageOf (run_of (simulation net) c front) m → HasSmallKey m.key

  -- so has the message of each entry of a log, which comes before the front
  abbrev pub LogKeysAreSmall : Type 0
  LogKeysAreSmall = (c : Clone) (s front : ℕ) (e : Entry Msg Line) → HasFewNumbers c front →
      In e (log_at net c s front) → (e.msg.key.time < front) × HasSmallKey e.msg.key
