use Rattle.std.proofs.Common.{◌≡◌, ◌<◌, None, arith, refl, sym, ap, subst, ◌∙◌, length, List, ℕ}
use Rattle.std.proofs.lemmas.List.{get_or_read}
use Rattle.clone_sets.specs.Sets.{empty}
use Rattle.phys_proc.specs.Own.{IsLowerBoundOfAll, MarkedMessages}
use Rattle.phys_proc.specs.Ends.{ends_in}
use Rattle.station_steps.specs.declared.station_step.StationStep.{StationStep}
use Rattle.station_steps.specs.Windows.{bound_of}
use Rattle.station_steps.specs.Stepping.{SteppedAt, SteppedTo}
use Rattle.station_steps.proofs.Places.{got_at}
use Rattle.station_steps.proofs.InPlace.{SteppedTo-none, SteppedTo-idle, SteppedTo-next, SteppedTo-all}
use Rattle.station_steps.proofs.stepping.step_in_place.Goals as goal

-- ---- the loop begins

pub loop-i-init : goal.loop-i-init
loop-i-init g c =
    let net = c.args.model.now in
    let ends = ends_in net.horizon c.args.ends.now in
    let bounds = bound_of c.args.buffers.now.bounds.items in
    let olds = c.args.procs.now.items in
    record {
      stepped = subst (λ l. SteppedTo net ends bounds 0 olds olds l None c.args.steps.now c.args.steps.now)
          (sym {A = MarkedMessages} c.clear.ensures.none) (SteppedTo-none net ends bounds olds c.args.steps.now);
      bounds = refl;
      at_most = tt;
    }

-- ---- a station with nothing due

pub loop-i-preserved-then-is_idle : goal.loop-i-preserved-then-is_idle
loop-i-preserved-then-is_idle g c =
    let net = c.args.model.now in
    let ends = ends_in net.horizon c.args.ends.now in
    let bounds = c.args.buffers.now.bounds.items in
    let olds = c.args.procs.now.items in
    let far = c.loop-i.invariant.stepped in
    let same = far.long in
    let many = c.requires.bounds.count in
    let l : c.loop-i.i < length olds =
    omega (arith, c.loop-i-test.true, c.loop-i.auto.i-end, c.len-i-end.ensures, c.args.procs.now.ok.0) in
    let p = c.index.result.now in
    let got = got_at c.loop-i.procs.items c.loop-i.i p (omega (arith, l, same)) c.index.ensures in
    let kept : c.loop-i.buffers.bounds.items ≡ bounds = ap (λ v. v.items) c.loop-i.invariant.bounds in
    let bound = c.index-in-loop-i.result.now in
    let is : bound ≡ bound_of bounds c.loop-i.i = get_or_read c.loop-i.buffers.bounds.items c.loop-i.i bound
    (let k = ap length kept in omega (arith, l, many, k)) c.index-in-loop-i.ensures 0
    ∙ ap (λ (xs : List ℕ). bound_of xs c.loop-i.i) kept in
    let late = subst (λ b. IsLowerBoundOfAll b p.copies) is (c.if-is_idle.ensures.lower refl) in
    let flow : StationStep = record {
      done = p;
      sent = record { items = c.clear.new.self };
      over = empty;
      handled = 0;
    } in
    record {
      stepped = SteppedTo-idle net ends (bound_of bounds) olds c.loop-i.i c.loop-i.procs.items
          c.loop-i.buffers.sent c.loop-i.over c.args.steps.now c.loop-i.steps p flow l far got
          (c.requires.stations.procs_in_order c.loop-i.i p (sym (far.others c.loop-i.i (omega arith)) ∙ got)) late
          c.is_idle.ensures.shared refl c.clear.ensures.none refl refl;
      bounds = c.loop-i.invariant.bounds;
      at_most = c.loop-i.invariant.at_most;
    }

-- ---- a station that is stepped

pub loop-i-preserved : goal.loop-i-preserved
loop-i-preserved g c =
    let net = c.args.model.now in
    let ends = ends_in net.horizon c.args.ends.now in
    let bounds = c.args.buffers.now.bounds.items in
    let olds = c.args.procs.now.items in
    let far = c.loop-i.invariant.stepped in
    let l : c.loop-i.i < length olds =
    omega (arith, c.loop-i-test.true, c.loop-i.auto.i-end, c.len-i-end.ensures, c.args.procs.now.ok.0) in
    let gain = c.in_ok-gain.gain in
    let kept : c.loop-i.buffers.bounds.items ≡ bounds = ap (λ v. v.items) c.loop-i.invariant.bounds in
    let stepped = subst (λ (xs : List ℕ). SteppedAt net ends (bound_of xs c.loop-i.i) c.loop-i.i c.loop-i.procs.items
    c.step_place.new.procs.items c.loop-i.buffers.sent c.step_place.new.buffers.sent gain.over gain.handled)
    kept c.in_ok-gain.ensures.stepped in
    record {
      stepped = SteppedTo-next net ends (bound_of bounds) olds c.loop-i.i c.loop-i.procs.items
          c.step_place.new.procs.items c.loop-i.buffers.sent c.step_place.new.buffers.sent c.loop-i.over
          c.first_so_far-over.result gain.over gain.handled c.args.steps.now c.loop-i.steps
          c.step_place.new.steps l far stepped c.in_ok-gain.ensures.steps
          c.first_so_far-over.ensures.first;
      bounds = c.step_place.ensures.bounds ∙ c.loop-i.invariant.bounds;
      at_most = c.first_so_far-over.ensures.at_most;
    }

-- ---- the result

pub returns-clause-stepped : goal.returns-clause-stepped
returns-clause-stepped g c =
    let net = c.args.model.now in
    let olds = c.args.procs.now.items in
    SteppedTo-all net (ends_in net.horizon c.args.ends.now) (bound_of c.args.buffers.now.bounds.items) olds c.loop-i.i
    c.loop-i.procs.items c.loop-i.buffers.sent c.loop-i.over c.args.steps.now c.loop-i.steps
    (omega (arith, c.loop-i-test.false, c.loop-i.auto.i-end, c.len-i-end.ensures, c.args.procs.now.ok.0))
    c.loop-i.invariant.stepped
