-- The invariant of each kind of station in a run, message by message.
use Rattle.std.proofs.Common.{◌≡◌, ℕ, ◌+◌, ◌<◌, ◌≤◌, Bool, true, false}
use Rattle.std.proofs.Common.{nat_lt}
use Rattle.std.proofs.Common.{if◌then◌else◌, refl, slice_get, arith, ltb-true}
use Rattle.std.specs.List.{AllByRecursion}
use Rattle.std.proofs.lemmas.Bool.{lt-ltb}
use Rattle.sim_base.specs.declared.message.Job.{Job as JobOf}
use Rattle.sim_base.specs.declared.message.Change.{Change}
use Rattle.sim_base.specs.declared.message.Payload.{Payload}
use Rattle.sim_base.specs.declared.message.Payload.TheVariants.{Tick, Job, Done, Set}
use Rattle.net_model.specs.declared.station.Kind.{Kind}
use Rattle.net_model.specs.declared.station.Kind.TheVariants as kind
use Rattle.net_model.specs.declared.limits.TheConstants.{MAX_JOBS}
use Rattle.net_model.specs.Net.{Net, Site, site_of, is_source, routes_by_turn}
use Rattle.net_model.specs.Rules.{IsLink, IsRange}
use Rattle.stations.specs.declared.kind_state.KindState.{KindState}
use Rattle.stations.specs.declared.kind_state.KindState.TheVariants.{Source, Server, Delay, Router, Sink}
use Rattle.stations.specs.declared.kind_state.SourceState.{SourceState}
use Rattle.stations.specs.declared.kind_state.RouterState.{RouterState}
use Rattle.stations.specs.declared.sender.TheConstants.{MAX_EVENT_TIMES}
use Rattle.stations.specs.Changes.{is_accepted}
use Rattle.stations.specs.Fits.{GoodKind}
use Rattle.stations.specs.Handling.{kind_on}
use Rattle.stations.specs.Sending.{Outgoing, Reaction, reaction, weights_of, route, send_later, send_over, route_by}
use Rattle.stations.specs.Sources.{next_tick, source_set}
use Rattle.stations.specs.Delays.{delay_set}
use Rattle.stations.specs.Routers.{router_job, router_set}
use Rattle.stations.specs.Fitting.{is_job_of}
use Rattle.checkpoint.specs.RunKeeps.{CarriesJobOf, RunKeepsKind, ticks_in, completions_in, sent_of, jobs_of, busy_of}
use Rattle.checkpoint.proofs.Adding.{Adds, adds-none, adds-trans, adds-as, adds-later, adds-route, adds-over}
use Rattle.checkpoint.proofs.Adding.{adds-held}
use Rattle.checkpoint.proofs.ServerKeeps.{server_on-reacts}

-- the effect of a message on a station in a run. It sends at most one tick, only at a tick, and only if a job is left
-- to send. It sends at most as many completions as services begin
pub record KindReacts (net : Net) (now : ℕ) (k : Kind) (handled : ℕ) (p : Payload) (s : KindState) (a : Outgoing)
    (r : Reaction KindState) : Type 0 where
  pub ticks : ℕ
  pub completions : ℕ
  pub adds : Adds net now ticks completions a r.out
  pub kept : RunKeepsKind net k (handled + 1) r.state
  pub jobs : jobs_of r.state ≡ jobs_of s
  pub ticks_max : ticks ≤ ticks_in p
  pub sent_same : ticks_in p ≡ 0 → sent_of r.state ≡ sent_of s
  pub jobs_max : sent_of r.state + ticks ≤ jobs_of s
  pub busy : completions + busy_of s ≤ busy_of r.state + completions_in p

-- ---- next_tick

module _ (net : Net) (now : ℕ) (early : now < net.horizon) where
  -- b is o after the next tick of a source, which is sent only if a job is left
  record AddsNextTick (s : SourceState) (o : Outgoing) (b : Outgoing) : Type 0 where
    pub count : ℕ
    pub adds : Adds net now count 0 o b
    pub jobs_max : s.sent ≤ s.jobs → s.sent + count ≤ s.jobs
    pub count_max : count ≤ 1

  next_tick-adds : (s : SourceState) (o : Outgoing) → IsRange 1 s.lo s.hi → AddsNextTick s o (next_tick now s o)
  next_tick-adds s o range = by (nat_lt s.sent s.jobs) refl
    where
      by : (b : Bool) → nat_lt s.sent s.jobs ≡ b → AddsNextTick s o (if b then send_later now s.lo s.hi Tick o else o)
      by true some = record {
        count = 1;
        adds = adds-later net now o s.lo s.hi Tick range tt;
        jobs_max = λ le. let less = ltb-true s.sent s.jobs some in omega arith;
        count_max = omega arith;
      }
      by false none =
          record { count = 0; adds = adds-none net now o; jobs_max = λ le. omega arith; count_max = omega arith }

  -- the source of a new job made it before the horizon
  is_job_of-made : (station sent jobs : ℕ) → is_source (site_of net station).kind ≡ true → sent < jobs →
      jobs ≤ MAX_JOBS → is_job_of net (record { source = station; count = sent; born = now }) ≡ true
  is_job_of-made station sent jobs source less few =
      rw (source, lt-ltb sent MAX_JOBS (omega arith), lt-ltb now net.horizon early) refl

module _ (net : Net) (site : Site) (now : ℕ) (links : AllByRecursion (IsLink net) site.links)
    (early : now < net.horizon) where
  -- a station that sends no tick and no completion, and keeps its jobs and its count of jobs sent
  reacts-quiet : (k : Kind) (handled : ℕ) (p : Payload) (s t : KindState) (a b : Outgoing) → Adds net now 0 0 a b →
      RunKeepsKind net k (handled + 1) t → jobs_of t ≡ jobs_of s → sent_of t ≡ sent_of s →
      busy_of s ≤ busy_of t + completions_in p →
      sent_of s + ticks_in p ≤ jobs_of s → KindReacts net now k handled p s a (reaction t b)
  reacts-quiet k handled p s t a b adds kept jobs sent busy may = record {
    ticks = 0;
    completions = 0;
    adds = adds;
    kept = kept;
    jobs = jobs;
    ticks_max = omega arith;
    sent_same = λ none. sent;
    jobs_max = omega (arith, sent, may);
    busy = omega (arith, busy);
  }

  -- a source makes a job at its tick
  source_ticks-reacts : (lo hi jobs class handled : ℕ) (s : SourceState) (a : Outgoing) →
      is_source (site_of net a.sender.station).kind ≡ true → s.jobs ≡ jobs → IsRange 1 s.lo s.hi → s.jobs ≤ MAX_JOBS →
      s.sent + 1 ≤ s.jobs → KindReacts net now (kind.Source lo hi jobs class) handled Tick (Source s) a
      (kind_on net site now Tick (Source s) a)
  source_ticks-reacts lo hi jobs class handled s a source same range few may =
      let t : SourceState = record s { sent = s.sent + 1 } in
      let job : JobOf = record { source = a.sender.station; count = s.sent; born = now } in
      let own = is_job_of-made net now early a.sender.station s.sent s.jobs source (omega arith) few in
      let routed : Outgoing = route site.links now job a in
      let next = next_tick-adds net now early t routed range in
      let left = next.jobs_max (omega arith) in
      record {
        ticks = next.count;
        completions = 0;
        adds = adds-as net now (0 + next.count) 0 next.count 0 a (next_tick now t routed)
            (adds-trans net now 0 0 next.count 0 a routed (next_tick now t routed)
            (adds-route net now site.links links (weights_of site.links) job a own) next.adds) (omega arith) refl;
        kept = same;
        jobs = refl;
        ticks_max = next.count_max;
        sent_same = λ none. absurd (omega arith);
        jobs_max = left;
        busy = omega arith;
      }

  -- a decision reaches a source
  source_set-reacts : (lo hi jobs class handled : ℕ) (c : Change) (s : SourceState) (a : Outgoing) → s.jobs ≡ jobs →
      s.sent + 0 ≤ s.jobs → KindReacts net now (kind.Source lo hi jobs class) handled (Set c) (Source s) a
      (reaction (Source (source_set site c s)) a)
  source_set-reacts lo hi jobs class handled c s a same may = by (is_accepted site c)
    where
      by : (t : Bool) → KindReacts net now (kind.Source lo hi jobs class) handled (Set c) (Source s) a
          (reaction (Source (if t then record s { lo = c.a; hi = c.b } else s)) a)
      by true =
          reacts-quiet (kind.Source lo hi jobs class) handled (Set c) (Source s)
          (Source (record s { lo = c.a; hi = c.b })) a a (adds-none net now a) same refl refl (omega arith) may
      by false =
          reacts-quiet (kind.Source lo hi jobs class) handled (Set c) (Source s) (Source s) a a
          (adds-none net now a) same
          refl refl (omega arith) may

  -- a router passes a job on
  router_job-adds : (j : JobOf) (s : RouterState) (a : Outgoing) → is_job_of net j ≡ true →
      Adds net now 0 0 a (router_job site now j s a)
  router_job-adds j s a own = by (routes_by_turn site.kind) _
    where
      by : (b : Bool) (i : ℕ) → Adds net now 0 0 a
          (if b then send_over (slice_get site.links i) now j a else route_by site.links s.weights.items now j a)
      by true i = adds-over net now site.links links (slice_get site.links i) i now j a refl (omega arith) own
      by false i = adds-route net now site.links links s.weights.items j a own

  -- a decision reaches a router
  router_set-reacts : (turn : Bool) (handled : ℕ) (c : Change) (s : RouterState) (a : Outgoing) →
      KindReacts net now (kind.Router turn) handled (Set c) (Router s) a (reaction (Router (router_set site c s)) a)
  router_set-reacts turn handled c s a =
      reacts-quiet (kind.Router turn) handled (Set c) (Router s) (Router (router_set site c s)) a a
      (adds-none net now a) tt refl refl
      (omega arith) (omega arith)

  -- every kind, at every message
  pub kind_on-reacts : (k : Kind) (handled : ℕ) (p : Payload) (s : KindState) (a : Outgoing) → site.kind ≡ k →
      is_source (site_of net a.sender.station).kind ≡ is_source k → GoodKind handled s → RunKeepsKind net k handled s →
      CarriesJobOf net p → now < MAX_EVENT_TIMES → sent_of s + ticks_in p ≤ jobs_of s →
      KindReacts net now k handled p s a (kind_on net site now p s a)
  kind_on-reacts (kind.Source lo hi jobs class) handled Tick (Source s) a is source good kept own soon may =
      source_ticks-reacts lo hi jobs class handled s a source kept good.range good.jobs may
  kind_on-reacts (kind.Source lo hi jobs class) handled (Set c) (Source s) a is source good kept own soon may =
      source_set-reacts lo hi jobs class handled c s a kept may
  kind_on-reacts (kind.Source lo hi jobs class) handled (Job j) (Source s) a is source good kept own soon may =
      reacts-quiet (kind.Source lo hi jobs class) handled (Job j) (Source s) (Source s) a a
      (adds-none net now a) kept refl refl
      (omega arith) may
  kind_on-reacts (kind.Source lo hi jobs class) handled (Done j) (Source s) a is source good kept own soon may =
      reacts-quiet (kind.Source lo hi jobs class) handled (Done j) (Source s) (Source s) a a
      (adds-none net now a) kept refl refl
      (omega arith) may
  kind_on-reacts (kind.Server servers room lo hi by_class) handled p (Server s) a is source good kept own soon may =
      let r = server_on-reacts net site now links p s a kept good.rules.service own in
      let b = r.busy in
      record {
        ticks = 0;
        completions = r.completions;
        adds = r.adds;
        kept = r.line;
        jobs = refl;
        ticks_max = omega arith;
        sent_same = λ none. refl;
        jobs_max = omega arith;
        busy = b;
      }
  kind_on-reacts (kind.Delay lo hi) handled (Job j) (Delay s) a is source good kept own soon may =
      reacts-quiet (kind.Delay lo hi) handled (Job j) (Delay s) _ a _
      (adds-held net now site.links links (weights_of site.links) s.lo s.hi j a good.range.ordered good.range.small own)
      tt refl refl (omega arith) may
  kind_on-reacts (kind.Delay lo hi) handled (Set c) (Delay s) a is source good kept own soon may =
      reacts-quiet (kind.Delay lo hi) handled (Set c) (Delay s) (Delay (delay_set site c s)) a a
      (adds-none net now a) tt refl refl
      (omega arith) may
  kind_on-reacts (kind.Delay lo hi) handled Tick (Delay s) a is source good kept own soon may =
      reacts-quiet (kind.Delay lo hi) handled Tick (Delay s) (Delay s) a a (adds-none net now a) tt refl refl
      (omega arith) may
  kind_on-reacts (kind.Delay lo hi) handled (Done j) (Delay s) a is source good kept own soon may =
      reacts-quiet (kind.Delay lo hi) handled (Done j) (Delay s) (Delay s) a a (adds-none net now a) tt refl refl
      (omega arith) may
  kind_on-reacts (kind.Router turn) handled (Job j) (Router s) a is source good kept own soon may =
      reacts-quiet (kind.Router turn) handled (Job j) (Router s) _ a _ (router_job-adds j s a own) tt refl refl
      (omega arith) may
  kind_on-reacts (kind.Router turn) handled (Set c) (Router s) a is source good kept own soon may =
      router_set-reacts turn handled c s a
  kind_on-reacts (kind.Router turn) handled Tick (Router s) a is source good kept own soon may =
      reacts-quiet (kind.Router turn) handled Tick (Router s) (Router s) a a (adds-none net now a) tt refl refl
      (omega arith) may
  kind_on-reacts (kind.Router turn) handled (Done j) (Router s) a is source good kept own soon may =
      reacts-quiet (kind.Router turn) handled (Done j) (Router s) (Router s) a a (adds-none net now a) tt refl refl
      (omega arith) may
  kind_on-reacts kind.Sink handled (Job j) (Sink s) a is source good kept own soon may =
      reacts-quiet kind.Sink handled (Job j) (Sink s) _ a a (adds-none net now a) (omega arith) refl refl
      (omega arith) may
  kind_on-reacts kind.Sink handled (Set c) (Sink s) a is source good kept own soon may =
      reacts-quiet kind.Sink handled (Set c) (Sink s) (Sink s) a a (adds-none net now a) (omega arith) refl refl
      (omega arith) may
  kind_on-reacts kind.Sink handled Tick (Sink s) a is source good kept own soon may =
      reacts-quiet kind.Sink handled Tick (Sink s) (Sink s) a a (adds-none net now a) (omega arith) refl refl
      (omega arith) may
  kind_on-reacts kind.Sink handled (Done j) (Sink s) a is source good kept own soon may =
      reacts-quiet kind.Sink handled (Done j) (Sink s) (Sink s) a a (adds-none net now a) (omega arith) refl refl
      (omega arith) may
  kind_on-reacts k handled p s a is source good kept own soon may = absurd kept
