-- The invariant of a delay, and its sends.
use Rattle.std.proofs.Common.{◌≡◌, ℕ, ◌+◌, ◌≤◌, Bool, true, false, if◌then◌else◌, refl, arith}
use Rattle.std.specs.List.{AllByRecursion}
use Rattle.sim_base.specs.declared.message.Change.{Change}
use Rattle.sim_base.specs.declared.message.Payload.{Payload}
use Rattle.sim_base.specs.declared.message.Payload.TheVariants.{Tick, Job, Done, Set}
use Rattle.net_model.specs.declared.station.Kind.TheVariants as kind
use Rattle.net_model.specs.Net.{Net, Site, HasStation}
use Rattle.net_model.specs.Rules.{IsLink}
use Rattle.stations.specs.declared.kind_state.DelayState.{DelayState}
use Rattle.stations.specs.Changes.{is_accepted}
use Rattle.sim_draw.specs.Drawing.{range_of}
use Rattle.stations.specs.Fits.{FitsDelay}
use Rattle.stations.specs.Sending.{Outgoing, weights_of, after_pick}
use Rattle.stations.specs.Delays.{delay_job, delay_set, delay_on}
use Rattle.stations.proofs.Accepting.{is_accepted-delay}
use Rattle.stations.proofs.Growing.{Grown, grown-more, grown-held, grown-same}
use Rattle.stations.specs.declared.sender.TheConstants.{MAX_SENDS}

module _ (net : Net) (site : Site) (now : ℕ) (links : AllByRecursion (IsLink net) site.links)
    (ahead : 1 ≤ net.lookahead)
    (a : Outgoing) (is_station : HasStation net a.sender.station) where
  -- ---- delay_set

  -- after a change a delay fits one message more
  delay_set-fits : (lo hi handled : ℕ) (c : Change) (s : DelayState) → site.kind ≡ kind.Delay lo hi
      → FitsDelay handled s → FitsDelay (handled + 1) (delay_set site c s)
  delay_set-fits lo hi handled c s is f = by (is_accepted site c) refl
    where
      -- by whether it takes the change
      by : (t : Bool) → is_accepted site c ≡ t
          → FitsDelay (handled + 1) (if t then record s { lo = c.a; hi = c.b } else s)
      by true accepted = record { range = is_accepted-delay lo hi site c is accepted; passed = omega (arith, f.passed) }
      by false refused = record { range = f.range; passed = omega (arith, f.passed) }

  -- ---- delay_on

  -- an unchanged delay fits one more message
  delay-later : (handled : ℕ) (s : DelayState) → FitsDelay handled s → FitsDelay (handled + 1) s
  delay-later handled s f = record { range = f.range; passed = omega (arith, f.passed) }

  -- after any message a delay fits one message more, and sends at most `MAX_SENDS` messages
  pub delay_on-good : (lo hi handled : ℕ) (p : Payload) (s : DelayState) → site.kind ≡ kind.Delay lo hi
      → FitsDelay handled s
      → FitsDelay (handled + 1) (delay_on site now p s a).state
      × Grown net now MAX_SENDS a (delay_on site now p s a).out
  delay_on-good lo hi handled (Job j) s is f = (
    record { range = f.range; passed = omega (arith, f.passed) },
    grown-more net now 2 MAX_SENDS a (delay_job site now j s a)
        (grown-held net now site.links (weights_of site.links)
        (range_of s.lo s.hi (after_pick (weights_of site.links) a).sender.draws) j a links ahead) (omega arith),
  )
  delay_on-good lo hi handled (Set c) s is f = (delay_set-fits lo hi handled c s is f, grown-same net now MAX_SENDS a)
  delay_on-good lo hi handled Tick s is f = (delay-later handled s f, grown-same net now MAX_SENDS a)
  delay_on-good lo hi handled (Done j) s is f = (delay-later handled s f, grown-same net now MAX_SENDS a)
