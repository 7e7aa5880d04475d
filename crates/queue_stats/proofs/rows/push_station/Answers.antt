use Rattle.std.proofs.Common.{ap, sym, List, ◌∙◌}
use Rattle.sim_base.specs.Clones.{Clone, clone_at}
use Rattle.queue_stats.proofs.Gathering.{rows_before-server}
use Rattle.queue_stats.proofs.rows.push_station.Goals as goal

pub returns : goal.returns
returns c = record {
  value = rows_before-server c.args.model.now c.args.world.now.clones c.args.clone c.args.s c.args.out.now.items
      c.push.new.self.items c.name.result c.next_stats.result (sym c.if-not-is_server_at.ensures.value)
      c.requires.so_far
      (c.name.ensures.value
      ∙ ap (λ (cs : List Clone). (clone_at cs c.args.clone).name) c.lists.ensures.clones)
      c.next_stats.ensures.value c.in_ok-push.ensures.items;
}
