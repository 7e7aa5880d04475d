-- The states of a run's stations meet `IsRunState`, if their logs are within the limit.
use Rattle.std.proofs.Common.{◌≡◌, ℕ, ◌+◌, ◌<◌, ◌≤◌, List, length, min, sym, ap, ◌∙◌, subst, arith}
use Rattle.std.specs.Prelude.{◌==◌}
use Rattle.std.specs.List.{AllByRecursion}
use Rattle.sim_base.specs.Clones.{Clone}
use Rattle.sim_base.specs.declared.message.Msg.{Msg}
use Rattle.sim_base.specs.declared.entry.Entry.{Entry}
use Rattle.sim_base.specs.declared.entry.Line.{Line}
use Rattle.run_laws.specs.Runs.{end_of, run_of}
use Rattle.run_laws.proofs.Fronts.{trace_below}
use Rattle.run_laws.proofs.Lists.{in_filter}
use Rattle.run_laws.proofs.Queue.{all_in, all_from}
use Rattle.run_laws.proofs.Replaying.{state_is_replay, replay_is_good}
use Rattle.net_model.specs.Net.{Net}
use Rattle.net_model.specs.Rules.{IsNet}
use Rattle.stations.specs.declared.sender.TheConstants.{MAX_EVENT_TIMES}
use Rattle.stations.specs.Fits.{FitsState, SuitsNet}
use Rattle.stations.specs.Good.{IsGood}
use Rattle.stations.specs.Handling.{StateView}
use Rattle.stations.specs.Runs.{simulation, log_at, state_at, replay}
use Rattle.stations.proofs.GoodLaws.{lawful-stations}
use Rattle.stations.proofs.ReplayLaws.{replay-counts, replay-suits, replay-fits}
use Rattle.checkpoint.specs.RunKeeps.{ticks_to, sent_of, jobs_of}
use Rattle.checkpoint.specs.SavedLaws.{RunStatesAreKept}
use Rattle.checkpoint.specs.Tally.{tally}
use Rattle.checkpoint.proofs.RunKeeps.{run_invariant_holds}

module _ (net : Net) (valid : IsNet net) where
  -- all that a station handled before a front up to the horizon comes before `MAX_EVENT_TIMES`
  log_at-early : (c : Clone) (s front : ℕ) → front ≤ net.horizon →
      AllByRecursion (λ e. e.msg.key.time < MAX_EVENT_TIMES) (log_at net c s front)
  log_at-early c s front within =
      let trace : List (Entry Msg Line) = (run_of (simulation net) c front).at.trace in
      let bound : ℕ = min front (end_of (simulation net) c) in
      let far = valid.horizon_max in
      all_from (λ e. e.msg.key.time < MAX_EVENT_TIMES) (log_at net c s front) (λ e i.
      let early : e.msg.key.time < min front (end_of (simulation net) c) =
      all_in (λ e. e.msg.key.time < bound) trace e (trace_below (lawful-stations net valid) c.plans bound)
      (in_filter (λ e. e.msg.to == s) trace e i).0 in
      omega (arith, early, within, far))

  -- the state of a station whose log is within the limit is the replay of that log, and keeps the run's invariant
  pub run_states_are_kept : RunStatesAreKept net
  run_states_are_kept c s front is_station early within short =
      let log : List (Entry Msg Line) = log_at net c s front in
      let st : StateView = state_at net c s front in
      let law = lawful-stations net valid in
      let replayed : st ≡ replay net s log = state_is_replay law c s front in
      let count : st.handled ≡ length log = ap (λ (x : StateView). x.handled) replayed ∙ replay-counts net s log in
      let kept = run_invariant_holds net valid c.plans (min front (end_of (simulation net) c)) early
      (omega (arith, within)) in
      let jobs : sent_of st.kind
      + tally (ticks_to s) (run_of (simulation net) c front).pending ≤ jobs_of st.kind = kept.jobs s in
      record {
        station = (subst (IsGood net s) (sym replayed) (replay_is_good law s log)).station;
        fits = subst FitsState (sym replayed) (replay-fits net valid s log is_station
            (log_at-early c s front within));
        suits = subst (SuitsNet net) (sym replayed) (replay-suits net valid s log is_station);
        within = omega (arith, count, short);
        kept = kept.states s;
        sent = omega (arith, jobs);
      }
