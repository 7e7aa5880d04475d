-- The invariant of a source, and its sends.
use Rattle.std.proofs.Common.{◌≡◌, ℕ, ◌+◌, ◌≤◌, Bool, true, false, nat_lt, if◌then◌else◌, refl, arith}
use Rattle.std.specs.List.{AllByRecursion}
use Rattle.sim_base.specs.declared.message.Job.{Job as JobOf}
use Rattle.sim_base.specs.declared.message.Change.{Change}
use Rattle.sim_base.specs.declared.message.Payload.{Payload}
use Rattle.sim_base.specs.declared.message.Payload.TheVariants.{Tick, Job, Done, Set}
use Rattle.net_model.specs.declared.station.Kind.TheVariants as kind
use Rattle.net_model.specs.Net.{Net, Site, HasStation}
use Rattle.net_model.specs.Rules.{IsLink, IsRange}
use Rattle.stations.specs.declared.kind_state.SourceState.{SourceState}
use Rattle.stations.specs.Changes.{is_accepted}
use Rattle.stations.specs.Fits.{FitsSource}
use Rattle.stations.specs.Sending.{Outgoing, weights_of, route, send_later}
use Rattle.stations.specs.Sources.{next_tick, source_ticks, source_set, source_on}
use Rattle.stations.proofs.Accepting.{is_accepted-source}
use Rattle.stations.proofs.Growing.{Grown, grown-more, grown-trans, grown-later, grown-route, grown-same}
use Rattle.stations.specs.declared.sender.TheConstants.{MAX_SENDS}

-- ---- next_tick

module _ (net : Net) (now : ℕ) where
  -- the next tick is at most one message and takes at most one word drawn
  pub next_tick-grown : (s : SourceState) (o : Outgoing) → IsRange 1 s.lo s.hi
      → HasStation net o.sender.station → Grown net now 1 o (next_tick now s o)
  next_tick-grown s o range is_station = by (nat_lt s.sent s.jobs)
    where
      -- by whether a job is left
      by : (b : Bool) → Grown net now 1 o (if b then send_later now s.lo s.hi Tick o else o)
      by true = grown-later net now o is_station s.lo s.hi Tick (λ job. job) range.above
      by false = grown-same net now 1 o

module _ (net : Net) (site : Site) (now : ℕ) (links : AllByRecursion (IsLink net) site.links)
    (ahead : 1 ≤ net.lookahead)
    (a : Outgoing) (is_station : HasStation net a.sender.station) where
  -- ---- source_set

  -- after a change a source fits one message more
  source_set-fits : (lo hi jobs class handled : ℕ) (c : Change) (s : SourceState)
      → site.kind ≡ kind.Source lo hi jobs class → FitsSource handled s → FitsSource (handled + 1) (source_set site c s)
  source_set-fits lo hi jobs class handled c s is f = by (is_accepted site c) refl
    where
      -- by whether it takes the change
      by : (t : Bool) → is_accepted site c ≡ t
          → FitsSource (handled + 1) (if t then record s { lo = c.a; hi = c.b } else s)
      by true accepted = record {
        range = is_accepted-source lo hi jobs class site c is accepted;
        jobs = f.jobs;
        sent = omega (arith, f.sent);
      }
      by false refused = record { range = f.range; jobs = f.jobs; sent = omega (arith, f.sent) }

  -- ---- source_ticks

  -- a job that is made and the next tick are at most `MAX_SENDS` messages
  source_ticks-grown : (s : SourceState) → IsRange 1 s.lo s.hi
      → Grown net now MAX_SENDS a (source_ticks site now s a).out
  source_ticks-grown s range =
      let job : JobOf = record { source = a.sender.station; count = s.sent; born = now } in
      let t : SourceState = record s { sent = s.sent + 1 } in
      let routed = grown-route net now site.links (weights_of site.links) job a links ahead in
      let after = route site.links now job a in
      let ticked = next_tick-grown net now t after range (rw routed.station is_station) in
      grown-more net now 2 MAX_SENDS a (next_tick now t after)
      (grown-trans net now 1 1 a after (next_tick now t after) routed ticked) (omega arith)

  -- ---- source_on

  -- after any message a source fits one message more, and sends at most `MAX_SENDS` messages
  pub source_on-good : (lo hi jobs class handled : ℕ) (p : Payload) (s : SourceState)
      → site.kind ≡ kind.Source lo hi jobs class → FitsSource handled s
      → FitsSource (handled + 1) (source_on site now p s a).state
      × Grown net now MAX_SENDS a (source_on site now p s a).out
  source_on-good lo hi jobs class handled Tick s is f =
      (record { range = f.range; jobs = f.jobs; sent = omega (arith, f.sent) }, source_ticks-grown s f.range)
  source_on-good lo hi jobs class handled (Set c) s is f =
      (source_set-fits lo hi jobs class handled c s is f, grown-same net now MAX_SENDS a)
  source_on-good lo hi jobs class handled (Job j) s is f =
      (record { range = f.range; jobs = f.jobs; sent = omega (arith, f.sent) }, grown-same net now MAX_SENDS a)
  source_on-good lo hi jobs class handled (Done j) s is f =
      (record { range = f.range; jobs = f.jobs; sent = omega (arith, f.sent) }, grown-same net now MAX_SENDS a)
