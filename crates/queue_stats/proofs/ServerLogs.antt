-- The log of a server in a run meets the conditions of its statistics. Its visits end in order if waits are reported.
use Rattle.std.proofs.Common.{◌≡◌, ℕ, ◌<◌, ◌≤◌, ◌==◌, ◌&&◌, ◌∙◌, not, List, Bool, true, false, Some, None, IsSome, refl}
use Rattle.std.proofs.Common.{sym, ap, subst, arith, eqb-true, if◌then◌else◌}
use Rattle.std.specs.List.{AllByRecursion}
use Rattle.std.proofs.lemmas.Bool.{and_parts, false≢true}
use Rattle.sim_base.specs.declared.entry.Entry.{Entry}
use Rattle.sim_base.specs.declared.entry.Line.{Line}
use Rattle.sim_base.specs.declared.message.Msg.{Msg}
use Rattle.net_model.specs.Net.{Net, HasStation, site_of}
use Rattle.net_model.specs.Rules.{IsNet}
use Rattle.net_model.specs.declared.station.Kind.{Kind}
use Rattle.net_model.specs.declared.station.Kind.TheVariants as kind
use Rattle.stations.specs.Runs.{log_at}
use Rattle.queue_stats.specs.Moments.{moments, is_change}
use Rattle.queue_stats.specs.Figures.{count, loss_count, waits}
use Rattle.queue_stats.specs.Queues.{IsQueue, IsServerQueue}
use Rattle.net_model.specs.declared.limits.TheConstants.{MAX_HORIZON}
use Rattle.queue_stats.specs.Laws.{IsLogOf, is_server, is_single_by_arrival}
use Rattle.queue_stats.specs.Orders.{DepartInOrder, VisitsEndInOrder}
use Rattle.queue_stats.specs.Stats.{server_stats, reports_waits, waits_summary}
use Rattle.queue_stats.proofs.ServerRuns.{logs-are_queues}
use Rattle.queue_stats.proofs.VisitOrder.{visits-end_in_order}
use Rattle.queue_stats.proofs.OrderedRuns.{runs-serve_in_order}

module _ (net : Net) (valid : IsNet net) (s until : ℕ) (log : List (Entry Msg Line)) (there : HasStation net s)
    (of : IsLogOf net s until log) where
  -- by the kind of the station
  server_queue_by : (k : Kind) → (site_of net s).kind ≡ k → is_server k ≡ true
      → IsServerQueue (is_single_by_arrival k) until log
  server_queue_by (kind.Server servers room lo hi by_class) is yes' =
      let q = logs-are_queues net valid of.clone s of.front servers room lo hi by_class there is in
      record {
        servers = servers;
        queue = subst (λ l. IsQueue servers (moments l)) (sym of.is) q.queue;
        time_max = subst (λ l. AllByRecursion (λ x. x.time < until) (moments l)) (sym of.is)
            (subst (λ n. AllByRecursion (λ x. x.time < n) (moments (log_at net of.clone s of.front)))
            (sym of.end) q.time_max);
        one = λ alone. eqb-true servers 1 (and_parts (servers == 1) (not by_class) alone).0;
      }
  server_queue_by (kind.Source lo hi jobs class) is yes' = absurd (false≢true yes')
  server_queue_by (kind.Delay lo hi) is yes' = absurd (false≢true yes')
  server_queue_by (kind.Router turn) is yes' = absurd (false≢true yes')
  server_queue_by kind.Sink is yes' = absurd (false≢true yes')

  -- the log of a server is that of a queue
  pub server_queue : is_server (site_of net s).kind ≡ true
      → IsServerQueue (is_single_by_arrival (site_of net s).kind) until log
  server_queue serves = server_queue_by (site_of net s).kind refl serves

  -- its end is at most the greatest horizon
  pub until-le : until ≤ MAX_HORIZON
  until-le =
      let e = of.end in
      let w = of.within in
      let h = valid.horizon_max in
      omega (arith, e, w, h)

  -- if waits are reported, visits end in order of arrival
  visits-in_order_by : (k : Kind) → (site_of net s).kind ≡ k → is_single_by_arrival k ≡ true
      → count is_change (moments log) ≡ 0 → VisitsEndInOrder (moments log)
  visits-in_order_by (kind.Server servers room lo hi by_class) is single unchanged =
      let a = and_parts (servers == 1) (not by_class) single in
      let one : servers ≡ 1 = eqb-true servers 1 a.0 in
      let arrival : by_class ≡ false = not-true by_class a.1 in
      let kind_is : (site_of net s).kind ≡ kind.Server 1 room lo hi false =
      is ∙ ap (λ n. kind.Server n room lo hi by_class) one ∙ ap (λ b. kind.Server 1 room lo hi b) arrival in
      visits-end_in_order (moments log)
      (subst (λ l. DepartInOrder (moments l)) (sym of.is)
      (runs-serve_in_order net valid of.clone s of.front room lo hi there kind_is
      (ap (λ l. count is_change (moments l)) (sym of.is) ∙ unchanged)))
    where
      not-true : (b : Bool) → not b ≡ true → b ≡ false
      not-true true is = sym is
      not-true false is = refl
  visits-in_order_by (kind.Source lo hi jobs class) is single unchanged = absurd (false≢true single)
  visits-in_order_by (kind.Delay lo hi) is single unchanged = absurd (false≢true single)
  visits-in_order_by (kind.Router turn) is single unchanged = absurd (false≢true single)
  visits-in_order_by kind.Sink is single unchanged = absurd (false≢true single)

  -- the same, by the statistics
  pub visits-in_order : IsSome (server_stats net s until log).waits → VisitsEndInOrder (moments log)
  visits-in_order = by (reports_waits (is_single_by_arrival (site_of net s).kind) (moments log)) refl
    where
      by : (b : Bool) → reports_waits (is_single_by_arrival (site_of net s).kind) (moments log) ≡ b
          → IsSome (if b then Some (waits_summary (waits (moments log))) else None) → VisitsEndInOrder (moments log)
      by true is some =
          let single : Bool = is_single_by_arrival (site_of net s).kind in
          let a = and_parts single (count is_change (moments log) == 0 && loss_count (moments log) == 0) is in
          let b = and_parts (count is_change (moments log) == 0) (loss_count (moments log) == 0) a.1 in
          visits-in_order_by (site_of net s).kind refl a.0 (eqb-true (count is_change (moments log)) 0 b.0)
      by false is some = absurd (false≢true some)
