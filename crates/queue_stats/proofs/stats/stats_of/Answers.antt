use Rattle.std.proofs.Common.{◌≡◌, IsSome, arith, ap, sym, subst, ◌∙◌}
use Rattle.net_model.specs.Net.{Site, site_of}
use Rattle.net_model.specs.Sites.{as_site}
use Rattle.stations.proofs.Lawful.{site_is}
use Rattle.queue_stats.specs.declared.stats.Stats.{Stats}
use Rattle.queue_stats.specs.Queues.{IsServerQueue}
use Rattle.queue_stats.specs.Stats.{stats}
use Rattle.queue_stats.specs.Laws.{is_single_by_arrival}
use Rattle.queue_stats.proofs.ServerLogs.{server_queue, until-le, visits-in_order}
use Rattle.queue_stats.proofs.stats.stats_of.Goals as goal

-- the code tests the kind that the network states
single-is : (c : goal.After-is_single_by_arrival)
    → is_single_by_arrival (site_of c.args.model.now c.args.station).kind ≡ c.is_single_by_arrival.result
single-is c = ap (λ (site : Site). is_single_by_arrival site.kind)
    (site_is c.args.model.now c.args.station (as_site c.station.result.now) c.station.ensures.value)
    ∙ sym c.is_single_by_arrival.ensures.value

pub stats_until-requires-clause-queue : goal.stats_until-requires-clause-queue
stats_until-requires-clause-queue c = subst (λ b. IsServerQueue b c.args.until c.args.log.now) (single-is c)
    (server_queue c.args.model.now c.station.ensures.valid c.args.station c.args.until c.args.log.now
    c.requires.is_station c.requires.of_run c.requires.server)

pub stats_until-requires-clause-until_max : goal.stats_until-requires-clause-until_max
stats_until-requires-clause-until_max c = until-le c.args.model.now c.station.ensures.valid c.args.station
    c.args.until c.args.log.now c.requires.is_station c.requires.of_run

pub stats_until-requires-clause-entries_max : goal.stats_until-requires-clause-entries_max
stats_until-requires-clause-entries_max c =
    let entries = c.requires.entries_max in
    let limit = c.station.ensures.valid.limit_max in
    omega (arith, entries, limit)

pub returns-clause-value : goal.returns-clause-value
returns-clause-value c = c.stats_until.ensures.value
    ∙ ap (λ b. stats b c.args.until c.args.log.now)
    (sym (ap (λ (site : Site). is_single_by_arrival site.kind)
    (site_is c.args.model.now c.args.station (as_site c.station.result.now) c.station.ensures.value)
    ∙ sym c.is_single_by_arrival.ensures.value))

pub returns-clause-order : goal.returns-clause-order
returns-clause-order c some = visits-in_order c.args.model.now c.station.ensures.valid c.args.station c.args.until
    c.args.log.now c.requires.is_station c.requires.of_run
    (subst (λ (s : Stats). IsSome s.waits) (returns-clause-value c) some)
