-- The invariant of a router, and its sends.
use Rattle.std.proofs.Common.{◌≡◌, ℕ, ◌+◌, ◌-◌, ◌≤◌, List, length, Bool}
use Rattle.std.proofs.Common.{true, false, if◌then◌else◌, refl, ◌∙◌, slice_get, slice_set, length-set, arith}
use Rattle.std.specs.List.{AllByRecursion}
use Rattle.sim_base.specs.declared.message.Job.{Job as JobOf}
use Rattle.sim_base.specs.declared.message.Change.{Change}
use Rattle.sim_base.specs.declared.message.Payload.{Payload}
use Rattle.sim_base.specs.declared.message.Payload.TheVariants.{Tick, Job, Done, Set}
use Rattle.sim_base.specs.Weights.{IsWeight}
use Rattle.sim_base.proofs.ListLaws.{all_set}
use Rattle.sim_draw.specs.Drawing.{AreWeights}
use Rattle.net_model.specs.Net.{Net, Site, HasStation, is_router, routes_by_turn}
use Rattle.net_model.specs.Rules.{IsLink}
use Rattle.stations.specs.declared.kind_state.RouterState.{RouterState}
use Rattle.stations.specs.Changes.{is_accepted}
use Rattle.stations.specs.Fits.{FitsRouter}
use Rattle.stations.specs.Sending.{Outgoing, send_over, route_by}
use Rattle.stations.specs.Routers.{router_job, router_set, router_on}
use Rattle.stations.proofs.Accepting.{is_accepted-router}
use Rattle.stations.proofs.Growing.{Grown, grown-more, grown-route, grown-over, grown-same}
use Rattle.stations.specs.declared.sender.TheConstants.{MAX_SENDS}

module _ (net : Net) (site : Site) (now : ℕ) (links : AllByRecursion (IsLink net) site.links)
    (ahead : 1 ≤ net.lookahead)
    (a : Outgoing) (is_station : HasStation net a.sender.station) where
  -- ---- router_set

  -- an unchanged router fits one more message
  router-later : (handled : ℕ) (s : RouterState) → FitsRouter handled s → FitsRouter (handled + 1) s
  router-later handled s f = record { weights = f.weights; passed = omega (arith, f.passed) }

  -- weights of which one is another weight now
  set_weights : (i w : ℕ) (ws : List ℕ) → AreWeights ws → IsWeight w → AreWeights (slice_set ws i w)
  set_weights i w ws are is =
      let count = length-set ws i w in
      record {
        nonempty = omega (arith, count, are.nonempty);
        at_most = omega (arith, count, are.at_most);
        all = all_set IsWeight ws i w are.all is;
      }

  -- after a change a router fits one message more, and still has a weight for each link
  router_set-fits : (handled : ℕ) (c : Change) (s : RouterState) → is_router site.kind ≡ true
      → length s.weights.items ≡ length site.links → FitsRouter handled s
      → FitsRouter (handled + 1) (router_set site c s)
      × (length (router_set site c s).weights.items ≡ length site.links)
  router_set-fits handled c s is count f = by (is_accepted site c) refl
    where
      -- by whether it takes the change
      by : (t : Bool) → is_accepted site c ≡ t → let r =
          (if t then record s { weights = record { items = slice_set s.weights.items (c.a - 1) c.b } } else s) in
          FitsRouter (handled + 1) r × (length r.weights.items ≡ length site.links)
      by true accepted =
          let change = is_accepted-router site c is accepted in (
            record {
              weights = set_weights (c.a - 1) c.b s.weights.items f.weights change.weight;
              passed = omega (arith, f.passed);
            },
            length-set s.weights.items (c.a - 1) c.b ∙ count,
          )
      by false refused = (router-later handled s f, count)

  -- ---- router_job

  -- a job that is sent on is at most `MAX_SENDS` messages
  router_job-grown : (j : JobOf) (s : RouterState) → Grown net now MAX_SENDS a (router_job site now j s a)
  router_job-grown j s = by (routes_by_turn site.kind) _
    where
      -- by whether it routes by turn, over whichever link
      by : (b : Bool) (i : ℕ) → Grown net now MAX_SENDS a
          (if b then send_over (slice_get site.links i) now j a else route_by site.links s.weights.items now j a)
      by true i = grown-more net now 1 MAX_SENDS a _ (grown-over net now site.links i j a links ahead) (omega arith)
      by false i = grown-more net now 1 MAX_SENDS a _
          (grown-route net now site.links s.weights.items j a links ahead) (omega arith)

  -- ---- router_on

  -- after any message a router fits one more, has a weight for each link, and sends at most `MAX_SENDS` messages
  pub router_on-good : (handled : ℕ) (p : Payload) (s : RouterState) → is_router site.kind ≡ true
      → length s.weights.items ≡ length site.links → FitsRouter handled s
      → FitsRouter (handled + 1) (router_on site now p s a).state
      × (length (router_on site now p s a).state.weights.items ≡ length site.links)
      × Grown net now MAX_SENDS a (router_on site now p s a).out
  router_on-good handled (Job j) s is count f =
      (record { weights = f.weights; passed = omega (arith, f.passed) }, count, router_job-grown j s)
  router_on-good handled (Set c) s is count f = let r = router_set-fits handled c s is count f in
      (r.0, r.1, grown-same net now MAX_SENDS a)
  router_on-good handled Tick s is count f = (router-later handled s f, count, grown-same net now MAX_SENDS a)
  router_on-good handled (Done j) s is count f = (router-later handled s f, count, grown-same net now MAX_SENDS a)
