use Rattle.std.proofs.Common.{◌≡◌, ◌+◌, ◌<◌, sym, ap, ap₂, ◌∙◌, subst, arith, length}
use Rattle.sim_base.specs.Clones.{clone_at}
use Rattle.net_model.specs.Net.{Net, HasStation}
use Rattle.stations.specs.Good.{sender_of, number_of}
use Rattle.stations.specs.Runs.{simulation}
use Rattle.run_laws.specs.Merges.{merge, merge_of_logs}
use Rattle.run_laws.specs.Runs.{run_of}
use Rattle.world_core.specs.Worlds.{WorldView}
use Rattle.world_core.specs.Tracing.{by_key}
use Rattle.world_core.specs.declared.advancing.Stations.{Stations}
use Rattle.world_core.proofs.Merging.{one_more, all_merged}
use Rattle.world_core.proofs.world.World.trace.Goals as goal

pub log-requires-clause-is_station : goal.log-requires-clause-is_station
log-requires-clause-is_station c =
    let many = ap (λ (n : Net). length n.sites) (c.deref-2.ensures ∙ ap (λ (s : Stations). s.model.value) c.deref.ensures) in
    subst (λ (w : WorldView). HasStation w.net (c.loop-i.i + 1)) c.self.view_is (record {
      low = omega arith;
      high = omega (arith, c.loop-i-test.true, c.len-i-end.ensures.value, many);
    })

pub loop-i-preserved : goal.loop-i-preserved
loop-i-preserved c =
    one_more c.args.self.now.net (clone_at c.args.self.now.clones c.args.who) c.args.self.now.front c.loop-i.i
    c.loop-i.trace.items c.in_ok-log.log.items c.in_ok-trace.trace.items c.loop-i.invariant
    (c.in_ok-log.ensures.value ∙ c.log.ensures.value)
    (c.in_ok-trace.ensures.value ∙ ap₂ (merge by_key) c.as_slice.ensures.value c.as_slice-in-loop-i.ensures.value)

pub returns : goal.returns
returns c =
    let w = c.self.inside in
    let there = subst (λ (w : WorldView). c.args.who < length w.clones) (sym c.self.view_is) c.requires.in_range in
    let many = ap (λ (n : Net). length n.sites) (c.deref-2.ensures ∙ ap (λ (s : Stations). s.model.value) c.deref.ensures) in
    let merged = subst (λ (w : WorldView). c.loop-i.trace.items
    ≡ merge_of_logs (simulation w.net) sender_of number_of (clone_at w.clones c.args.who) w.front c.loop-i.i)
    (sym c.self.view_is) c.loop-i.invariant in
    record {
      value = subst (λ (w : WorldView). c.loop-i.trace.items
          ≡ (run_of (simulation w.net) (clone_at w.clones c.args.who) w.front).at.trace) c.self.view_is
          (all_merged w.stations.value.model.value w.stations.value.lists.clones w.stations.value.ends w.front w.stations.value.procs.items
          c.self.invariant c.args.who there
          c.loop-i.i c.loop-i.trace.items
          (omega (arith, c.loop-i-test.false, c.loop-i.auto.i-end, c.len-i-end.ensures.value, many)) merged);
    }
