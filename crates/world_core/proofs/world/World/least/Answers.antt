use Rattle.std.proofs.Common.{◌≡◌, ◌<◌, subst, arith, length, ℕ, List}
use Rattle.net_model.specs.Net.{Net}
use Rattle.stations.specs.Runs.{simulation}
use Rattle.run_laws.specs.Fronts.{least}
use Rattle.phys_proc.specs.Ends.{ends_in}
use Rattle.phys_proc.specs.Procs.{IsWithLeast}
use Rattle.world_core.specs.Worlds.{WorldView}
use Rattle.station_steps.proofs.Places.{got_at}
use Rattle.world_core.proofs.DueTimes.{TakenTo, least_next, least_all}
use Rattle.world_core.proofs.Timing.{least_with}
use Rattle.world_core.proofs.Windowed.{unboxed}
use Rattle.world_core.proofs.world.World.least.Goals as goal

pub loop-i-preserved : goal.loop-i-preserved
loop-i-preserved c =
    let i = c.deref-stations.result.now in
    let of = unboxed i c.self.inside.stations.value c.self.inside.front c.args.self.now c.deref-stations.ensures
    c.self.invariant c.self.view_is in
    let procs = i.procs.items in
    let ended = i.ends in
    let net = i.model.value in
    let p = c.index.result.now in
    let l : c.loop-i.i < length procs =
    omega (arith, c.loop-i-test.true, c.loop-i.auto.i-end, c.len-i-end.ensures, i.procs.ok.0) in
    least_next net i.lists.clones ended c.self.inside.front procs of.0 c.loop-i.i p
    c.with_least-least.result (got_at procs c.loop-i.i p l c.index.ensures)
    (least_with (ends_in net.horizon ended) p.copies c.loop-i.least c.with_least-least.result
    (subst (λ (e : List (ℕ × ℕ)). IsWithLeast (ends_in net.horizon e) p.copies c.loop-i.least
    c.with_least-least.result) c.ends.ensures.value
    (subst (λ (n : Net). IsWithLeast (ends_in n.horizon c.ends.result.now) p.copies c.loop-i.least
    c.with_least-least.result) c.deref.ensures c.with_least-least.ensures.least))
    (TakenTo (ends_in net.horizon ended) procs c.loop-i.i) c.loop-i.invariant)

pub returns : goal.returns
returns c =
    let i = c.deref-stations.result.now in
    let of = unboxed i c.self.inside.stations.value c.self.inside.front c.args.self.now c.deref-stations.ensures
    c.self.invariant c.self.view_is in
    record {
      value = subst (λ (w : WorldView). c.loop-i.least ≡ least (simulation w.net) w.clones w.front) of.1
          (least_all i.model.value i.lists.clones i.ends
          c.self.inside.front
          i.procs.items of.0 c.loop-i.i c.loop-i.least
          (omega (arith, c.loop-i-test.false, c.loop-i.auto.i-end, c.len-i-end.ensures, i.procs.ok.0))
          c.loop-i.invariant);
    }
