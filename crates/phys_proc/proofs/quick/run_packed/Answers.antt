use Rattle.std.proofs.Common.{◌+◌, ◌-◌, ◌<◌, ◌∙◌, ap, sym, subst, arith, length, length-append, refl, ℕ}
use Rattle.copy_pending.specs.Merged.{IsLowerBoundOf}
use Rattle.net_model.specs.Net.{site_at}
use Rattle.stations.specs.Quick.{IsQuick}
use Rattle.phys_proc.specs.Together.{AreAlive, copy_of}
use Rattle.phys_proc.proofs.ComesFrom.{comes_from-start}
use Rattle.phys_proc.proofs.Together.{comes_from-first, first_may, quick_one}
use Rattle.phys_proc.proofs.quick.run_packed.Goals as goal

pub loop-count-init : goal.loop-count-init
loop-count-init g c = record {
  onward = λ ends bound alive. comes_from-start c.args.goal.now.model.now c.args.goal.now.station ends bound
      (copy_of c.args.pending.now c.args.state.now c.args.log.now) c.args.sent.now c.args.steps.now
      c.requires.fits;
  counted = omega arith;
  long = let l = c.requires.fits.length_max in let a = c.len.ensures in let b = c.limit.ensures.value in
      omega (arith, l, a, b);
  quick = subst (λ n. IsQuick n c.args.state.now) (omega arith) (c.is_quick.ensures c.if-not-is_quick.false);
  partial = refl;
}

pub first_event-requires : goal.first_event-requires
first_event-requires g c = record {
  together = subst (IsLowerBoundOf c.args.together) (sym c.loop-count.invariant.partial) c.requires.together;
}

pub take_event-requires : goal.take_event-requires
take_event-requires g c =
    let l = c.loop-count in
    let net = c.args.goal.now.model.now in
    let station = c.args.goal.now.station in
    let t = c.args.together in
    let fits = (l.invariant.onward (λ k. t) t (record { at_most = omega arith; alive = λ k i. omega arith })).fits in
    let below = c.loop-count-test.true in
    let long = l.invariant.long in
    let less : length l.log < net.limit = omega (arith, below, long) in
    let soon = c.in-Some.ensures.time_max in
    let early = c.requires.time_max in
    record {
      site = ap (λ (n : ℕ). site_at net n) fits.station ∙ c.station-site.ensures.value;
      may_take = first_may net station l.pending l.state l.log c.in-Some.event.msg c.in-Some.ensures.first fits
          less (omega (arith, soon, early));
      quick = quick_one (c.limit.result - c.len.result - l.count) l.state (omega (arith, below)) l.invariant.quick;
      first = c.in-Some.ensures.first;
      content = c.in-Some.ensures.content;
    }

pub loop-count-preserved : goal.loop-count-preserved
loop-count-preserved g c =
    let l = c.loop-count in
    let net = c.args.goal.now.model.now in
    let station = c.args.goal.now.station in
    let t = c.args.together in
    let here = l.invariant.onward (λ k. t) t (record { at_most = omega arith; alive = λ k i. omega arith }) in
    let below = c.loop-count-test.true in
    let long = l.invariant.long in
    let less : length l.log < net.limit = omega (arith, below, long) in
    let taken = c.in_ok-take_event.ensures in
    let more = ap length taken.taken.log ∙ length-append l.log _ in
    let steps = l.invariant.counted in
    let tick = taken.counted in
    record {
      onward = λ ends bound alive. comes_from-first net station l.pending l.state l.log c.in-Some.event.msg
          c.in-Some.ensures.first here.fits ends bound t
          (subst (AreAlive ends bound t) (sym here.set) alive) c.in-Some.ensures.time_max
          (copy_of c.args.pending.now c.args.state.now c.args.log.now)
          (copy_of c.take_event.new.pending c.take_event.new.state c.take_event.new.log)
          c.args.sent.now l.sent c.take_event.new.sent c.args.steps.now l.steps c.take_event.new.steps
          (l.invariant.onward ends bound alive) less taken.taken taken.counted;
      counted = omega (arith, steps, tick);
      long = omega (arith, long, more);
      quick = taken.quick (c.limit.result - c.len.result - (l.count + 1))
          (subst (λ n. IsQuick n l.state) (omega (arith, below)) l.invariant.quick);
      partial = taken.partial ∙ l.invariant.partial;
    }
