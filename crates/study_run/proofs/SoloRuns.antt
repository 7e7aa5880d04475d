-- The run of one clone alone.
use Rattle.std.proofs.Common.{◌≡◌, ℕ, ◌+◌, ◌≤◌, refl, sym, ap}
use Rattle.std.proofs.Common.{ap₂, ◌∙◌, arith, min, List, [], length, Option, unwrap_or}
use Rattle.std.proofs.Math.Nat.{min-eq_right, min-le_left, min-le_right}
use Rattle.sim_base.specs.Order.{msg_cmp}
use Rattle.sim_base.specs.Clones.{Clone}
use Rattle.sim_base.specs.declared.decision.Planned.{Planned}
use Rattle.net_model.specs.Net.{Net}
use Rattle.run_laws.specs.Machine.{run_to}
use Rattle.run_laws.specs.Runs.{end_of, run}
use Rattle.run_laws.specs.World.{first_world}
use Rattle.stations.specs.Runs.{simulation, trace_of}
use Rattle.solo_run.specs.Limit.{first_beyond}
use Rattle.solo_run.specs.SoloView.{IsSolo, SoloView, config_of}
use Rattle.solo_run.specs.Turns.{Stops, run_from, step_of}
use Rattle.solo_run.specs.declared.turn.SoloFault.TheVariants.{Limit}
use Rattle.solo_run.proofs.ToFront.{trace-short}
use Rattle.study_run.specs.Faults.{StopsAlone}
use Rattle.study_run.specs.Limits.{IsWithin, last_time, until}
use Rattle.study_run.specs.Work.{IsFew}
use Rattle.study_run.proofs.Fulls.{met_alone, within_alone}

-- ---- trace_of

-- a clone's run reaches its end, or otherwise the horizon
module _ (net : Net) (c : Clone) (plans : List Planned) (front : ℕ) (v : SoloView) (same_plans : plans ≡ c.plans)
    (is_last : front ≡ min net.horizon (end_of (simulation net) c))
    (begins : config_of net v ≡ first_world (simulation net) plans) where
  -- the trace of the run from its start
  trace_from : (run_from net v front).at.trace ≡ trace_of net c
  trace_from = ap (λ k. (run_to msg_cmp (step_of net) (λ m. m.key.time) k front).at.trace) begins
      ∙ ap₂ (λ ps b. (run (simulation net) ps b).at.trace) same_plans is_last

  -- at first nothing was handled
  none_yet : length v.trace ≡ 0
  none_yet = ap (λ k. length k.at.trace) begins

  -- ---- run, trace_of, IsWithin, IsFew, at the end

  module _ (s : SoloView) (old new : ℕ) (ends : config_of net s ≡ run_from net v front) (solo : IsSolo net s)
      (steps : new + length v.trace ≡ old + length s.trace) where
    -- the trace at the end is that of the clone's run
    pub whole_trace : s.trace ≡ trace_of net c
    whole_trace = ap (λ k. k.at.trace) ends ∙ trace_from

    -- the steps rose by the length of that trace
    pub steps_exact : new ≡ old + length (trace_of net c)
    steps_exact = let none = none_yet in let all = ap length whole_trace in omega (arith, none, all, steps)

    -- no log of the clone's run is longer than the limit
    pub stays_within : IsWithin net c
    stays_within = within_alone net c (ap (first_beyond net.limit []) (sym whole_trace) ∙ solo.below)

    -- the stations have handled at most as many messages as they may
    pub steps_few : IsFew net 1 old new
    steps_few =
        let short = trace-short net solo.valid [] s solo in
        let none = none_yet in
        omega (arith, short, none, steps)

  -- ---- StopsAlone

  -- if the run to the front stops at the limit, the clone's run stops there
  pub stops_alone : (place old new station kept : ℕ) → Stops net v front old new (Limit station kept)
      → StopsAlone net c place old new station place
  stops_alone place old new station kept h =
      let none = none_yet in
      let steps = h.steps in
      let bounded = h.bounded in
      let some = ap (first_beyond net.limit []) (sym trace_from) ∙ h.first in
      record {
        meets = met_alone net c station h.is_station some;
        is_it = refl;
        at_most = omega (arith, none, steps, bounded);
      }

-- ---- last_time

-- the state of a run from the first world of these decisions, for equal decisions and an equal front
pub ran_to : (net : Net) (plans those : List Planned) (front last : ℕ) (v s : SoloView) → plans ≡ those → front ≡ last
    → config_of net v ≡ first_world (simulation net) plans → config_of net s ≡ run_from net v front
    → config_of net s ≡ run (simulation net) those last
ran_to net plans those front last v s same is begins ends =
    ends ∙ ap (λ k. run_to msg_cmp (step_of net) (λ m. m.key.time) k front) begins
    ∙ ap₂ (λ ps b. run (simulation net) ps b) same is

-- the time at which a clone stops, from its end
pub last_time-is : (net : Net) (time front last : ℕ) (c : Clone) (end : Option ℕ) → front ≡ min time last
    → last ≡ min net.horizon (unwrap_or end net.horizon) → end ≡ c.end → front ≡ last_time net time c
last_time-is net time front last c end is last_is same =
    is ∙ ap (min time) (last_is ∙ ap (λ o. min net.horizon (unwrap_or o net.horizon)) same)

-- it is not after the horizon
pub last_time-within : (net : Net) (time : ℕ) (c : Clone) → last_time net time c ≤ net.horizon
last_time-within net time c =
    let a = min-le_right time (min net.horizon (end_of (simulation net) c)) in
    let b = min-le_left net.horizon (end_of (simulation net) c) in
    omega (arith, a, b)

-- a clone that ends there is run up to there
pub until-last : (net : Net) (time front : ℕ) (c : Clone) → front ≡ last_time net time c
    → front ≡ min net.horizon (end_of (simulation net) (until net time c))
until-last net time front c is = is ∙ sym (min-eq_right (last_time-within net time c))
