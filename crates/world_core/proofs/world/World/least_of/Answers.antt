use Rattle.std.proofs.Common.{◌≡◌, ◌+◌, ◌<◌, sym, ◌∙◌, subst, arith, length, ℕ, List}
use Rattle.net_model.specs.Net.{Net}
use Rattle.sim_base.specs.Clones.{clone_at}
use Rattle.stations.specs.Runs.{simulation}
use Rattle.run_laws.specs.Fronts.{earlier, least_of}
use Rattle.run_laws.specs.FrontLaws.{least_to}
use Rattle.phys_proc.specs.Ends.{ends_in}
use Rattle.phys_proc.specs.Procs.{IsLeastOf}
use Rattle.world_core.specs.Worlds.{WorldView}
use Rattle.station_steps.proofs.Places.{got_at}
use Rattle.world_core.proofs.DueTimes.{least_of_next, least_of_all}
use Rattle.world_core.proofs.Windowed.{unboxed}
use Rattle.world_core.proofs.world.World.least_of.Goals as goal

pub loop-i-preserved : goal.loop-i-preserved
loop-i-preserved c =
    let i = c.deref-stations.result.now in
    let of = unboxed i c.self.inside.stations.value c.self.inside.front c.args.self.now c.deref-stations.ensures
    c.self.invariant c.self.view_is in
    let procs = i.procs.items in
    let ended = i.ends in
    let net = i.model.value in
    let p = c.index.result.now in
    let l : c.loop-i.i < length procs =
    omega (arith, c.loop-i-test.true, c.loop-i.auto.i-end, c.len-i-end.ensures, i.procs.ok.0) in
    let there = subst (λ (w : WorldView). c.args.c < length w.clones) (sym of.1) c.requires.in_range in
    record {
      within = omega (arith, l);
      least = c.earlier-least.ensures.value ∙ subst (λ (w : WorldView). earlier c.loop-i.least c.least_of.result
          ≡ least_to (simulation w.net) (clone_at w.clones c.args.c) w.front (c.loop-i.i + 1)) of.1 (least_of_next net i.lists.clones ended
          c.self.inside.front
          procs of.0 c.loop-i.i c.args.c p c.loop-i.least c.least_of.result
          (got_at procs c.loop-i.i p l c.index.ensures) there
          (subst (λ (w : WorldView). c.loop-i.least ≡ least_to (simulation w.net) (clone_at w.clones c.args.c) w.front
          c.loop-i.i) (sym of.1) c.loop-i.invariant.least)
          (subst (λ (e : List (ℕ × ℕ)). IsLeastOf (ends_in net.horizon e) p.copies c.args.c c.least_of.result)
          c.ends.ensures.value
          (subst (λ (n : Net). IsLeastOf (ends_in n.horizon c.ends.result.now) p.copies c.args.c c.least_of.result)
          c.deref.ensures c.least_of.ensures.least)));
    }

pub returns : goal.returns
returns c =
    let i = c.deref-stations.result.now in
    let of = unboxed i c.self.inside.stations.value c.self.inside.front c.args.self.now c.deref-stations.ensures
    c.self.invariant c.self.view_is in
    let there = subst (λ (w : WorldView). c.args.c < length w.clones) (sym of.1) c.requires.in_range in
    let within = c.loop-i.invariant.within in
    record {
      value = subst (λ (w : WorldView). c.loop-i.least ≡ least_of (simulation w.net)
          (clone_at w.clones c.args.c) w.front) of.1
          (least_of_all i.model.value i.lists.clones
          i.ends c.self.inside.front
          i.procs.items of.0 c.loop-i.i c.args.c c.loop-i.least
          (omega (
            arith,
            within,
            c.loop-i-test.false,
            c.loop-i.auto.i-end,
            c.len-i-end.ensures,
            i.procs.ok.0,
          )) there (subst (λ (w : WorldView). c.loop-i.least ≡ least_to (simulation w.net)
          (clone_at w.clones c.args.c) w.front c.loop-i.i) (sym of.1) c.loop-i.invariant.least));
    }
