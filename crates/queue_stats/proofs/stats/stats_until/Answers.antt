use Rattle.std.proofs.Common.{if◌then◌else◌, Some, None, subst, sym, ap, ◌∙◌, IsSome, ◌*◌, ◌≤◌, ◌≡◌}
use Rattle.sim_base.specs.declared.limits.TheConstants.{MAX_HANDLED}
use Rattle.queue_stats.specs.declared.tally.Tally.{Tally}
use Rattle.queue_stats.specs.declared.stats.Stats.{Stats}
use Rattle.queue_stats.specs.Stats.{stats}
use Rattle.queue_stats.specs.Trails.{waits_along_log}
use Rattle.queue_stats.proofs.LogStats.{log-within_limits, may_add_all-log, last_time-log, little-log, lindley-log}
use Rattle.queue_stats.proofs.LogStats.{stats_from, stats_from-is}
use Rattle.queue_stats.proofs.stats.stats_until.Goals as goal

pub tally_of-tally-requires-clause-within_limits : goal.tally_of-tally-requires-clause-within_limits
tally_of-tally-requires-clause-within_limits c = log-within_limits c.args.single c.args.until c.args.log.now
    c.requires.queue c.requires.until_max c.requires.entries_max

pub waits_if-requires-clause-within_limits : goal.waits_if-requires-clause-within_limits
waits_if-requires-clause-within_limits c = log-within_limits c.args.single c.args.until c.args.log.now
    c.requires.queue c.requires.until_max c.requires.entries_max

pub present-requires-clause-until_min : goal.present-requires-clause-until_min
present-requires-clause-until_min c =
    subst (λ (t : Tally). t.last_time ≤ c.args.until) (sym c.tally_of-tally.ensures.value)
    (last_time-log c.args.single c.args.until c.args.log.now c.requires.queue c.requires.until_max
    c.requires.entries_max)

pub present-requires-clause-in_system_max : goal.present-requires-clause-in_system_max
present-requires-clause-in_system_max c =
    subst (λ (t : Tally). t.in_system ≤ MAX_HANDLED) (sym c.tally_of-tally.ensures.value)
    (may_add_all-log c.args.single c.args.until c.args.log.now c.requires.queue c.requires.until_max
    c.requires.entries_max).in_system

pub present-requires-clause-area_max : goal.present-requires-clause-area_max
present-requires-clause-area_max c =
    subst (λ (t : Tally). t.area ≤ MAX_HANDLED * t.last_time) (sym c.tally_of-tally.ensures.value)
    (may_add_all-log c.args.single c.args.until c.args.log.now c.requires.queue c.requires.until_max
    c.requires.entries_max).area

pub returns : goal.returns
returns c =
    let t : Tally = c.tally_of-tally.result in
    let value : stats_from c.args.single c.args.until c.args.log.now c.requires.queue c.requires.until_max
    c.requires.entries_max t c.present.result c.waits_if.result ≡ stats c.args.single c.args.until c.args.log.now =
    stats_from-is c.args.single c.args.until c.args.log.now c.requires.queue c.requires.until_max
    c.requires.entries_max t c.present.result c.waits_if.result c.tally_of-tally.ensures.value
    c.present.ensures.value
    (c.waits_if.ensures.value
    ∙ ap (λ b. if b then Some (waits_along_log c.args.log.now) else None) c.reports_waits-reported.ensures.value) in
    record {
      value = value;
      little = ap (λ (s : Stats). s.present) value
          ∙ little-log c.args.single c.args.until c.args.log.now c.requires.queue c.requires.until_max
          c.requires.entries_max;
      lindley = λ some. lindley-log c.args.single c.args.until c.args.log.now c.requires.queue c.requires.until_max
          c.requires.entries_max (subst (λ (s : Stats). IsSome s.waits) value some);
    }
