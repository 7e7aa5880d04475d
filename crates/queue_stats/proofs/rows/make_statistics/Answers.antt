use Rattle.std.proofs.Common.{◌≡◌, ◌≤◌, length, arith, ap, sym, subst, ◌∙◌, ℕ, List, IfOk}
use Rattle.std.specs.List.{All}
use Rattle.net_model.specs.Net.{HasStation}
use Rattle.queue_stats.specs.declared.text.StatRow.{StatRow}
use Rattle.queue_stats.specs.StatsText.{stats_text}
use Rattle.queue_stats.proofs.Gathering.{rows-all, rows-stations}
use Rattle.queue_stats.proofs.rows.make_statistics.Goals as goal

pub stats_text-requires : goal.stats_text-requires
stats_text-requires c =
    let clones = ap length c.lists.ensures.clones in
    let high : length c.args.world.now.clones ≤ c.loop-clone.clone =
    omega (arith, c.loop-clone-test.false, c.loop-clone.auto.clone-end, c.len-clone-end.ensures.value, clones) in
    let all = rows-all c.args.model.now c.args.world.now.clones c.loop-clone.clone c.loop-clone.rows.items high
    c.loop-clone.invariant.within c.loop-clone.invariant.so_far in
    record {
      are_stations = subst (All (λ (r : StatRow). HasStation c.args.model.now r.station))
          (sym (c.as_slice.ensures.value ∙ all)) (rows-stations c.args.model.now c.args.world.now.clones);
    }

pub returns : goal.returns
returns c =
    let clones = ap length c.lists.ensures.clones in
    let high : length c.args.world.now.clones ≤ c.loop-clone.clone =
    omega (arith, c.loop-clone-test.false, c.loop-clone.auto.clone-end, c.len-clone-end.ensures.value, clones) in
    let all = rows-all c.args.model.now c.args.world.now.clones c.loop-clone.clone c.loop-clone.rows.items high
    c.loop-clone.invariant.within c.loop-clone.invariant.so_far in
    record {
      value = subst (λ (e : List ℕ). IfOk c.stats_text.result (λ t. t.items ≡ e))
          (ap (stats_text c.args.model.now) (c.as_slice.ensures.value ∙ all)) c.stats_text.ensures.value;
    }
