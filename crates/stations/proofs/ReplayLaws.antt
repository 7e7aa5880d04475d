-- The state that a log leads to, and the numbering of a station's sends.
use Rattle.std.proofs.Common.{◌≡◌, ℕ, ◌+◌, ◌*◌, ◌<◌, ◌≤◌, List, [], ◌∷◌}
use Rattle.std.proofs.Common.{length, ap, ◌∙◌, subst, nat_lt, Bool, true, false, if◌then◌else◌, arith}
use Rattle.std.specs.List.{AllByRecursion}
use Rattle.sim_base.specs.declared.message.Msg.{Msg}
use Rattle.sim_base.specs.declared.message.Payload.TheVariants.{Tick}
use Rattle.sim_base.specs.declared.entry.Entry.{Entry}
use Rattle.sim_base.specs.declared.entry.Line.{Line}
use Rattle.run_laws.specs.World as world
use Rattle.run_laws.proofs.Replaying.{replay-push, replay_is_good}
use Rattle.net_model.specs.Net.{Net, Site, site_at, site_of}
use Rattle.net_model.specs.Rules.{IsNet}
use Rattle.stations.specs.declared.kind_state.KindState.{KindState}
use Rattle.stations.specs.declared.kind_state.KindState.TheVariants.{Source, Server, Delay, Router, Sink}
use Rattle.stations.specs.Fits.{FitsState, IsOfKind, SuitsNet}
use Rattle.stations.specs.Good.{IsGood}
use Rattle.stations.specs.Handling.{StateView, handle}
use Rattle.stations.specs.Laws.{ReplayCounts, ReplaySuits, ReplayFits}
use Rattle.stations.specs.Laws.{ReplayGoesOn, SendsNextNumbers, NumbersAreSmall, JobsTakeTheLookahead}
use Rattle.stations.specs.Opening.{first_tick, opening_kind, setup}
use Rattle.stations.specs.Runs.{simulation}
use Rattle.stations.specs.Sending.{Outgoing, send_later}
use Rattle.stations.proofs.GoodLaws.{among, handles-good, lawful-stations, opens_good}
use Rattle.stations.proofs.Lawful.{handles-fitting, site_at-within, site_is}
use Rattle.stations.proofs.OpeningLaws.{setup-well}
use Rattle.stations.specs.declared.sender.TheConstants.{MAX_EVENT_TIMES, MAX_SENDS}

-- ---- first_tick

-- the opening of a station has at most one number
first_tick-next : (k : KindState) (o : Outgoing) → (first_tick k o).sender.next ≤ o.sender.next + 1
first_tick-next (Source s) o = by (nat_lt s.sent s.jobs)
  where
    -- by whether a job is left
    by : (b : Bool) → (if b then send_later 0 s.lo s.hi Tick o else o).sender.next ≤ o.sender.next + 1
    by true = omega arith
    by false = omega arith
first_tick-next (Server s) o = omega arith
first_tick-next (Delay s) o = omega arith
first_tick-next (Router s) o = omega arith
first_tick-next (Sink s) o = omega arith

-- ---- replay

module _ (net : Net) where
  -- the state after a log, from any state on
  abbrev replay_from : ℕ → StateView → List (Entry Msg Line) → StateView
  replay_from s st log = world.replay (λ (m : Msg). m.to) (λ (r : ℕ). handle net) s st log

  -- it has handled one message more for each entry
  count_from : (s : ℕ) (st : StateView) (log : List (Entry Msg Line))
      → (replay_from s st log).handled ≡ st.handled + length log
  unfolding handle
  count_from s st [] = omega arith
  count_from s st (e ∷ es) = count_from s (handle net st e.msg).state es ∙ omega arith

  -- the replay of a log has handled as many messages as the log has entries
  pub replay-counts : ReplayCounts net
  replay-counts s log = count_from s (setup net s).state log ∙ omega arith

  -- the replay of one more entry is the replay followed by its message
  pub replay-goes_on : ReplayGoesOn net
  replay-goes_on s log e = replay-push (simulation net) s (setup net s).state log e

module _ (net : Net) (valid : IsNet net) where
  -- at a station of the network it is a state of that station
  pub replay-suits : ReplaySuits net
  replay-suits s log is_station =
      let good : IsGood net s (replay_from net s (setup net s).state log) =
      replay_is_good (lawful-stations net valid) s log in
      let site = site_at-within net s is_station in
      let is = site_is net s site.0 site.1 in
      record {
        site = site.0;
        is_there = ap (site_at net) good.station ∙ site.1;
        kind = subst (λ (q : Site). IsOfKind q q.kind (replay_from net s (setup net s).state log).kind) is good.kind;
      }

  -- states that fit lead to such states, if the times of the log are early
  fits_from : (s : ℕ) (st : StateView) (log : List (Entry Msg Line)) → FitsState st → SuitsNet net st
      → AllByRecursion (λ e. e.msg.key.time < MAX_EVENT_TIMES) log → FitsState (replay_from net s st log)
  fits_from s st [] fits suits early = fits
  fits_from s st (e ∷ es) fits suits early =
      let well = handles-fitting net st e.msg valid fits suits early.0 in
      fits_from s (handle net st e.msg).state es well.fits well.suits early.1

  -- and it keeps the invariant of every state, if the times of the log are early
  pub replay-fits : ReplayFits net
  replay-fits s log is_station early =
      let site = site_at-within net s is_station in
      let well = setup-well net s site.0 valid site.1 in
      fits_from s (setup net s).state log well.0 well.1 early

  -- ---- numbers

  -- a station opens with at most one message
  opens_next : (s : ℕ) → (setup net s).state.sender.next ≤ 1
  opens_next s = first_tick-next (opening_kind (site_of net s) (site_of net s).kind) _

  -- a station opens with at most one message and sends at most `MAX_SENDS` at each, and each gets the next number
  pub sends-next_numbers : SendsNextNumbers net
  sends-next_numbers = record {
    opens = opens_next;
    at_most = λ s st m good. (handles-good net valid s st m good).at_most;
    next = λ s st m good. (handles-good net valid s st m good).next;
    sends = λ s st m good. (handles-good net valid s st m good).sends;
  }

  -- for each entry the next number goes up by at most `MAX_SENDS`
  next_from : (s : ℕ) (st : StateView) (log : List (Entry Msg Line)) → IsGood net s st
      → (replay_from net s st log).sender.next ≤ st.sender.next + MAX_SENDS * length log
  next_from s st [] good = omega arith
  next_from s st (e ∷ es) good =
      let one = handles-good net valid s st e.msg good in
      let rest = next_from s (handle net st e.msg).state es one.good in
      omega (arith, rest, one.next, one.at_most)

  -- so its next number is at most `MAX_SENDS` for each entry of its log, and once more
  pub numbers-small : NumbersAreSmall net
  numbers-small s log =
      let rest = next_from s (setup net s).state log (opens_good net valid s) in
      let first = opens_next s in
      omega (arith, rest, first)

  -- a job that is sent comes by the lookahead later or more
  pub jobs-take_lookahead : JobsTakeTheLookahead net
  jobs-take_lookahead s st m z good i job =
      (among net valid m.key.time s st.sender.next (handle net st m).sends z
      (handles-good net valid s st m good).sends i).is.on_link job
