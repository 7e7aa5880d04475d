use Rattle.std.proofs.Common.{◌≡◌, ◌<◌, arith, ap, refl, subst, sym, length, slice_set}
use Rattle.std.proofs.lemmas.List.{length-set}
use Rattle.std.proofs.lemmas.Slice.Zip.{AllZip-long}
use Rattle.phys_proc.specs.StepGoals.{ends_for}
use Rattle.phys_proc.specs.Own.{StationCopy, IsCopy, IsLowerBound, IsAdvance, may_handle}
use Rattle.phys_proc.specs.Stops.{IsStop}
use Rattle.phys_proc.proofs.LowerBounds.{IsLowerBound-before}
use Rattle.phys_proc.proofs.CopyBounds.{bound_at, bounds_set, bounds_without}
use Rattle.phys_proc.proofs.ComesFrom.{left_few}
use Rattle.phys_proc.proofs.InPlace.{stepped_to-start, stepped_to-fits, stepped_to-few, stepped_to-next, stepped_to-out}
use Rattle.phys_proc.proofs.InPlace.{stepped_to-idle, stepped_to-end, copy_at, set_there, without_shorter}
use Rattle.phys_proc.proofs.stepping.step_copies_in_place.Goals as goal

-- ---- the loop begins

pub loop-i-init : goal.loop-i-init
loop-i-init g c = record {
  far = stepped_to-start c.args.goal.now.model.now c.requires.may_step.valid c.args.goal.now.station
      (ends_for c.args.goal.now) c.args.goal.now.bound c.args.copies.now.items c.args.stage.now.done
      c.args.stage.now.sent c.args.stage.now.over c.args.steps.now c.requires.new.none c.requires.new.silent
      c.requires.new.under;
  each = c.requires.each;
  within = omega arith;
  handled = omega (arith, c.requires.new.idle);
}

-- ---- the list of times is as long as that of copies

pub index-first-requires : goal.index-first-requires
index-first-requires g c = omega (
  arith,
  c.loop-i-test.true,
  c.len.ensures,
  c.loop-i.bounds.ok.0,
  AllZip-long IsLowerBound c.loop-i.bounds.items c.loop-i.copies.items c.loop-i.invariant.each,
)

pub index_mut-requires-in-Settled : goal.index_mut-requires-in-Settled
index_mut-requires-in-Settled g c = omega (
  arith,
  c.loop-i-test.true,
  c.len.ensures,
  c.loop-i.bounds.ok.0,
  AllZip-long IsLowerBound c.loop-i.bounds.items c.loop-i.copies.items c.loop-i.invariant.each,
)

pub remove-requires : goal.remove-requires
remove-requires g c = omega (
  arith,
  c.loop-i-test.true,
  c.len.ensures,
  c.loop-i.bounds.ok.0,
  AllZip-long IsLowerBound c.loop-i.bounds.items c.loop-i.copies.items c.loop-i.invariant.each,
)

-- ---- a copy with nothing due

pub loop-i-preserved-then-goal-first : goal.loop-i-preserved-then-goal-first
loop-i-preserved-then-goal-first g c =
    let net = c.args.goal.now.model.now in
    let station = c.args.goal.now.station in
    let bound = c.args.goal.now.bound in
    let ends = ends_for c.args.goal.now in
    let l = c.loop-i in
    let cs = l.copies.items in
    let there : l.i < length cs = omega (arith, c.loop-i-test.true, c.len.ensures) in
    let at = copy_at cs l.i there in
    let x = at.0 in
    let first = c.index-first.result.now in
    let late : IsLowerBound first x = bound_at l.bounds.items cs l.i first first x l.invariant.each there
    c.index-first.ensures at.1 in
    let fits = stepped_to-fits net c.requires.may_step.valid station ends bound l.invariant.far there x
    at.1 c.requires.may_step.fits in
    record {
      far = stepped_to-idle net c.requires.may_step.valid station ends bound l.invariant.far there x at.1
          c.requires.may_step.disjoint fits (IsLowerBound-before bound first x c.if-goal-first.true late);
      each = l.invariant.each;
      within = omega (arith, there);
      handled = l.invariant.handled;
    }

-- ---- a copy that is handled in place

pub handle_together-requires : goal.handle_together-requires
handle_together-requires g c = record {
  may_advance = record {
    fits = stepped_to-fits c.args.goal.now.model.now c.requires.may_step.valid c.args.goal.now.station
        (ends_for c.args.goal.now) c.args.goal.now.bound c.loop-i.invariant.far
        (omega (arith, c.loop-i-test.true, c.len.ensures)) c.index_mut.result.now c.index_mut.ensures.value
        c.requires.may_step.fits;
    time_max = c.requires.may_step.time_max;
    at_most = stepped_to-few c.args.goal.now.model.now c.requires.may_step.valid c.args.goal.now.station
        (ends_for c.args.goal.now) c.args.goal.now.bound c.loop-i.invariant.far
        (omega (arith, c.loop-i-test.true, c.len.ensures)) c.index_mut.result.now c.index_mut.ensures.value
        c.requires.may_step.at_most c.loop-i.stage.handled c.loop-i.invariant.handled;
  };
}

pub loop-i-preserved-in-Settled : goal.loop-i-preserved-in-Settled
loop-i-preserved-in-Settled g c =
    let net = c.args.goal.now.model.now in
    let station = c.args.goal.now.station in
    let bound = c.args.goal.now.bound in
    let ends = ends_for c.args.goal.now in
    let l = c.loop-i in
    let cs = l.copies.items in
    let y = c.handle_together.new.copy in
    let s = c.handle_together.new.stage in
    let one = c.in_ok-stop.ensures in
    let there : l.i < length cs = omega (arith, c.loop-i-test.true, c.len.ensures) in
    record {
      far = stepped_to-next net c.requires.may_step.valid station ends bound l.invariant.far there
          c.index_mut.result.now c.index_mut.ensures.value c.requires.may_step.disjoint y (slice_set cs l.i y)
          s.done s.sent s.over c.handle_together.new.steps one.onward (rw c.in-Settled.is at one.stop) refl
          one.done one.over;
      each = bounds_set l.bounds.items cs l.i c.lower_bound_of-now.result y l.invariant.each
          (subst (IsLowerBound c.lower_bound_of-now.result)
          (set_there cs l.i c.index.result.now y there c.index.ensures) c.lower_bound_of-now.ensures.lower);
      within = let n = length-set cs l.i y in omega (arith, there, n);
      handled = let h = l.invariant.handled in let k = one.handled in omega (arith, h, k);
    }

-- ---- a copy that is taken out

pub bring_to_bound-requires : goal.bring_to_bound-requires
bring_to_bound-requires g c =
    let net = c.args.goal.now.model.now in
    let station = c.args.goal.now.station in
    let bound = c.args.goal.now.bound in
    let ends = ends_for c.args.goal.now in
    let l = c.loop-i in
    let cs = l.copies.items in
    let x = c.index_mut.result.now in
    let y = c.handle_together.new.copy in
    let z = c.remove-copy.result in
    let one = c.in_ok-stop.ensures in
    let there : l.i < length cs = omega (arith, c.loop-i-test.true, c.len.ensures) in
    let same : z ≡ y = set_there cs l.i z y there c.remove-copy.ensures.value in
    let few = stepped_to-few net c.requires.may_step.valid station ends bound l.invariant.far there x
    c.index_mut.ensures.value c.requires.may_step.at_most l.stage.handled l.invariant.handled in
    let left = left_few net station ends bound x y l.stage.sent
    c.handle_together.new.stage.sent l.steps c.handle_together.new.steps one.onward in
    let counted = one.onward.counted in
    let handled = one.handled in
    let is = ap (may_handle net.limit) same in
    record {
      may_advance = record {
        fits = subst (IsCopy net station) (sym same) one.onward.fits;
        time_max = c.requires.may_step.time_max;
        at_most = omega (arith, few, left, counted, handled, is);
      };
      stop = subst (λ (u : StationCopy). IsStop net.limit ends bound u c.handle_together.new.stage.takers
          c.in_ok-stop.stop) (sym same) one.stop;
    }

pub loop-i-preserved : goal.loop-i-preserved
loop-i-preserved g c =
    let net = c.args.goal.now.model.now in
    let station = c.args.goal.now.station in
    let bound = c.args.goal.now.bound in
    let ends = ends_for c.args.goal.now in
    let l = c.loop-i in
    let cs = l.copies.items in
    let y = c.handle_together.new.copy in
    let s = c.handle_together.new.stage in
    let f = c.bring_to_bound.new.stage in
    let one = c.in_ok-stop.ensures in
    let come = c.in_ok-bring_to_bound-in_default.ensures in
    let there : l.i < length cs = omega (arith, c.loop-i-test.true, c.len.ensures) in
    let same : c.remove-copy.result ≡ y = set_there cs l.i c.remove-copy.result y there c.remove-copy.ensures.value in
    let after = c.remove-copy.new.self.items in
    record {
      far = stepped_to-out net c.requires.may_step.valid station ends bound l.invariant.far there
          c.index_mut.result.now c.index_mut.ensures.value c.requires.may_step.disjoint y after s.done f.done
          s.sent f.sent s.over f.over c.handle_together.new.steps c.bring_to_bound.new.steps one.onward
          (subst (λ (u : StationCopy). IsAdvance net station ends bound u s.done f.done s.sent
          f.sent s.over f.over c.handle_together.new.steps c.bring_to_bound.new.steps) same come.comes)
          c.remove-copy.ensures.items one.done one.over;
      each = rw (c.remove.ensures.items, c.remove-copy.ensures.items)
          (bounds_without l.bounds.items cs l.i y l.invariant.each);
      within = let n = without_shorter cs after l.i y there c.remove-copy.ensures.items in omega (arith, there, n);
      handled =
          let h = l.invariant.handled in
          let k = one.handled in
          let m = come.handled in
          omega (arith, h, k, m);
    }

-- ---- the result

pub returns-clause-stepped : goal.returns-clause-stepped
returns-clause-stepped g c = stepped_to-end c.args.goal.now.model.now c.requires.may_step.valid c.args.goal.now.station
    (ends_for c.args.goal.now) c.args.goal.now.bound c.loop-i.invariant.far
    (omega (arith, c.loop-i-test.false, c.len.ensures))

pub returns-clause-each : goal.returns-clause-each
returns-clause-each g c = c.loop-i.invariant.each
