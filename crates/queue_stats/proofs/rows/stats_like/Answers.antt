use Rattle.std.proofs.Common.{◌≡◌, ap, min, unwrap_or, List, ◌∙◌}
use Rattle.sim_base.specs.Clones.{Clone, clone_at}
use Rattle.run_laws.specs.Runs.{end_of}
use Rattle.stations.specs.Runs.{simulation}
use Rattle.queue_stats.proofs.SharedLogs.{row-other}
use Rattle.queue_stats.proofs.rows.stats_like.Goals as goal

pub returns : goal.returns
returns c =
    let net = c.args.model.now in
    let one : Clone = clone_at c.args.world.now.clones c.args.other in
    let other : Clone = clone_at c.args.world.now.clones c.args.clone in
    let from = c.simulated_until-from.result in
    let until = c.simulated_until-until.result in
    let from_is : from ≡ min net.horizon (end_of (simulation net) one) =
    c.simulated_until-from.ensures.value
    ∙ ap (λ e. min net.horizon (unwrap_or e net.horizon))
    (c.end_of.ensures.value ∙ ap (λ (cs : List Clone). (clone_at cs c.args.other).end) c.lists-lists.ensures.clones) in
    let until_is : until ≡ min net.horizon (end_of (simulation net) other) =
    c.simulated_until-until.ensures.value
    ∙ ap (λ e. min net.horizon (unwrap_or e net.horizon))
    (c.end_of-2.ensures.value ∙ ap (λ (cs : List Clone). (clone_at cs c.args.clone).end) c.lists-lists.ensures.clones)
    in
    record {
      value = row-other net c.requires.valid one other c.args.station from until c.requires.is_station c.requires.server
          from_is until_is c.requires.same_log c.requires.entries_max c.args.stats c.with_end.result c.requires.stats
          c.with_end.ensures.value;
    }
