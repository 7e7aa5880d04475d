-- The invariant of every kind, and its sends.
use Rattle.std.proofs.Common.{◌≡◌, ℕ, ◌+◌, ◌<◌, ◌≤◌, sym, ap, subst}
use Rattle.std.specs.List.{AllByRecursion}
use Rattle.sim_base.specs.declared.message.Payload.{Payload}
use Rattle.net_model.specs.declared.station.Kind.{Kind}
use Rattle.net_model.specs.declared.station.Kind.TheVariants as kind
use Rattle.net_model.specs.Net.{Net, Site, HasStation, is_router}
use Rattle.net_model.specs.Rules.{IsLink}
use Rattle.stations.specs.declared.kind_state.KindState.{KindState}
use Rattle.stations.specs.declared.kind_state.KindState.TheVariants.{Source, Server, Delay, Router, Sink}
use Rattle.stations.specs.Fits.{FitsKind, GoodKind, IsOfKind}
use Rattle.stations.specs.Sending.{Outgoing, Reaction}
use Rattle.stations.specs.Routers.{router_on}
use Rattle.stations.specs.Handling.{kind_on}
use Rattle.stations.proofs.Growing.{Grown, grown-same}
use Rattle.stations.proofs.SourceLaws.{source_on-good}
use Rattle.stations.proofs.DelayLaws.{delay_on-good}
use Rattle.stations.proofs.RouterLaws.{router_on-good}
use Rattle.stations.proofs.ServerLaws.{server_on-good}
use Rattle.stations.proofs.SinkLaws.{sink_on-fits}
use Rattle.stations.specs.declared.sender.TheConstants.{MAX_EVENT_TIMES, MAX_SENDS}

-- ---- GoodKind

-- a state that fits is good, for every kind
pub good_kind : (handled : ℕ) (s : KindState) → FitsKind handled s → GoodKind handled s
good_kind handled (Source s) f = f
good_kind handled (Server s) f = f
good_kind handled (Delay s) f = f
good_kind handled (Router s) f = f
good_kind handled (Sink s) f = tt

-- ---- kind_on

module _ (net : Net) (site : Site) (now : ℕ) where
  -- a reaction of any kind that fits after one message more, is of the station's kind, and sends as stations send
  pub record IsGoodReaction (handled : ℕ) (a : Outgoing) (r : Reaction KindState) : Type 0 where
    pub good : GoodKind (handled + 1) r.state
    pub kind : IsOfKind site site.kind r.state
    pub grown : Grown net now MAX_SENDS a r.out

module _ (net : Net) (site : Site) (now : ℕ) (links : AllByRecursion (IsLink net) site.links)
    (ahead : 1 ≤ net.lookahead)
    (a : Outgoing) (is_station : HasStation net a.sender.station) where
  -- for every message, a station of any kind keeps its invariant, and sends as stations send
  pub kind_on-good : (k : Kind) (handled : ℕ) (p : Payload) (s : KindState) → site.kind ≡ k → IsOfKind site k s
      → GoodKind handled s → IsGoodReaction net site now handled a (kind_on net site now p s a)
  kind_on-good (kind.Source lo hi jobs class) handled p (Source s) is of f =
      let r = source_on-good net site now links ahead a is_station lo hi jobs class handled p s is f in
      record { good = r.0; kind = rw is tt; grown = r.1 }
  kind_on-good (kind.Server servers room lo hi by_class) handled p (Server s) is of f =
      let r = server_on-good net site now links ahead a is_station handled p s f in
      record { good = r.holds; kind = rw is tt; grown = r.grown }
  kind_on-good (kind.Delay lo hi) handled p (Delay s) is of f =
      let r = delay_on-good net site now links ahead a is_station lo hi handled p s is f in
      record { good = r.0; kind = rw is tt; grown = r.1 }
  kind_on-good (kind.Router turn) handled p (Router s) is of f =
      let r = router_on-good net site now links ahead a is_station handled p s (ap is_router is) of f in
      record {
        good = r.0;
        kind = subst (λ (q : Kind). IsOfKind site q (Router (router_on site now p s a).state))
            (sym is) r.1;
        grown = r.2;
      }
  kind_on-good kind.Sink handled p (Sink s) is of f =
      record { good = tt; kind = rw is tt; grown = grown-same net now MAX_SENDS a }
  kind_on-good (kind.Source lo hi jobs class) handled p (Server s) is of f = absurd of
  kind_on-good (kind.Source lo hi jobs class) handled p (Delay s) is of f = absurd of
  kind_on-good (kind.Source lo hi jobs class) handled p (Router s) is of f = absurd of
  kind_on-good (kind.Source lo hi jobs class) handled p (Sink s) is of f = absurd of
  kind_on-good (kind.Server servers room lo hi by_class) handled p (Source s) is of f = absurd of
  kind_on-good (kind.Server servers room lo hi by_class) handled p (Delay s) is of f = absurd of
  kind_on-good (kind.Server servers room lo hi by_class) handled p (Router s) is of f = absurd of
  kind_on-good (kind.Server servers room lo hi by_class) handled p (Sink s) is of f = absurd of
  kind_on-good (kind.Delay lo hi) handled p (Source s) is of f = absurd of
  kind_on-good (kind.Delay lo hi) handled p (Server s) is of f = absurd of
  kind_on-good (kind.Delay lo hi) handled p (Router s) is of f = absurd of
  kind_on-good (kind.Delay lo hi) handled p (Sink s) is of f = absurd of
  kind_on-good (kind.Router turn) handled p (Source s) is of f = absurd of
  kind_on-good (kind.Router turn) handled p (Server s) is of f = absurd of
  kind_on-good (kind.Router turn) handled p (Delay s) is of f = absurd of
  kind_on-good (kind.Router turn) handled p (Sink s) is of f = absurd of
  kind_on-good kind.Sink handled p (Source s) is of f = absurd of
  kind_on-good kind.Sink handled p (Server s) is of f = absurd of
  kind_on-good kind.Sink handled p (Delay s) is of f = absurd of
  kind_on-good kind.Sink handled p (Router s) is of f = absurd of

module _ (now : ℕ) (early : now < MAX_EVENT_TIMES) where
  -- a good state fits if the sums of a sink stay small
  pub kind_on-fits : (net : Net) (site : Site) (handled : ℕ) (p : Payload) (s : KindState) (o : Outgoing)
      → FitsKind handled s → GoodKind (handled + 1) (kind_on net site now p s o).state
      → FitsKind (handled + 1) (kind_on net site now p s o).state
  kind_on-fits net site handled p (Source s) o f good = good
  kind_on-fits net site handled p (Server s) o f good = good
  kind_on-fits net site handled p (Delay s) o f good = good
  kind_on-fits net site handled p (Router s) o f good = good
  kind_on-fits net site handled p (Sink s) o f good = sink_on-fits now early handled p s f
