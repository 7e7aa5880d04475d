use Rattle.std.proofs.Common.{◌∙◌, sym, ap, subst, arith}
use Rattle.clone_sets.specs.Sets.{has}
use Rattle.copy_pending.proofs.Bounds.{bound_before}
use Rattle.phys_proc.specs.Own.{StationCopy, IsCopy, ComesFrom}
use Rattle.phys_proc.specs.StepGoals.{ends_for}
use Rattle.phys_proc.specs.Together.{copy_of}
use Rattle.phys_proc.proofs.quick.handle_packed.Goals as goal

pub run_packed-requires-clause-fits : goal.run_packed-requires-clause-fits
run_packed-requires-clause-fits g c =
    subst (IsCopy c.args.goal.now.model.now c.args.goal.now.station) (sym c.copy.view_is) c.requires.fits

pub run_packed-requires-clause-together : goal.run_packed-requires-clause-together
run_packed-requires-clause-together g c =
    let a = c.min.ensures in
    let b = c.min-together.ensures in
    bound_before c.min-together.result c.partial_time.result c.copy.inside.pending.partial (omega (arith, a, b))
    c.partial_time.ensures.bound

pub returns-clause-onward : goal.returns-clause-onward
returns-clause-onward g c =
    let net = c.args.goal.now.model.now in
    let station = c.args.goal.now.station in
    let bound = c.args.goal.now.bound in
    let ends = ends_for c.args.goal.now in
    let new : StationCopy = copy_of c.run_packed.new.pending c.run_packed.new.state c.run_packed.new.log in
    let a = c.min.ensures in
    let b = c.min-together.ensures in
    let t = c.requires.time_max in
    subst (λ (u : StationCopy). ComesFrom net station ends bound u new c.args.sent.now
    c.run_packed.new.sent c.args.steps.now c.run_packed.new.steps) c.copy.view_is
    (c.in_ok-count.ensures.onward ends bound (record {
      at_most = omega (arith, a, b);
      alive = λ k i.
          let f = c.first_of.ensures.first net.horizon k (ap (λ s. has s k) c.set.ensures.value ∙ i) in
          omega (arith, f, a, b, t);
    }))
