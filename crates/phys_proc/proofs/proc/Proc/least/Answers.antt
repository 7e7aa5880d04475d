use Rattle.std.proofs.Common.{◌+◌, ◌<◌, arith, refl, subst, ◌∙◌, ap, take, length, get_or}
use Rattle.std.proofs.lemmas.List.{take_all}
use Rattle.std.proofs.lemmas.Slice.Zip.{AllZip-long}
use Rattle.sim_base.proofs.Elements.{take_next}
use Rattle.phys_proc.specs.Own.{IsLowerBound}
use Rattle.phys_proc.specs.Ends.{ends_in}
use Rattle.phys_proc.specs.Procs.{IsLeast}
use Rattle.phys_proc.proofs.CopyBounds.{bound_at}
use Rattle.phys_proc.proofs.LeastTimes.{least_with}
use Rattle.phys_proc.proofs.proc.Proc.least.Goals as goal

pub returns : goal.returns
returns c =
    let xs = c.args.self.now.copies in
    let e = ap length c.copies-copies.ensures.value in
    let l = c.loop-i-test.false in
    record {
      least = subst (λ k. IsLeast (ends_in c.args.model.now.horizon c.args.ends.now) k c.loop-i.least)
          (take_all c.loop-i.i xs (omega (arith, e, l))) c.loop-i.invariant;
    }

pub bounds-bounds-i : goal.bounds-bounds-i
bounds-bounds-i c =
    let e = ap length c.copies-copies.ensures.value in
    let n = AllZip-long IsLowerBound c.bounds-bounds.result.now c.args.self.now.copies c.bounds-bounds.ensures.each in
    omega (arith, e, n, c.loop-i-test.true)

pub with_copy-least-requires-clause-lower : goal.with_copy-least-requires-clause-lower
with_copy-least-requires-clause-lower c =
    let xs = c.args.self.now.copies in
    let x = c.index-copies-i.result in
    let same = c.copies-copies.ensures.value in
    let e = ap length same in
    bound_at c.bounds-bounds.result.now xs c.loop-i.i 0 (get_or c.bounds-bounds.result.now c.loop-i.i 0) x
    c.bounds-bounds.ensures.each (omega (arith, e, c.loop-i-test.true)) refl
    (c.index-copies-i.is ∙ ap (λ k. get_or k c.loop-i.i x) same)

pub loop-i-preserved : goal.loop-i-preserved
loop-i-preserved c =
    let net = c.args.model.now in
    let xs = c.args.self.now.copies in
    let i = c.loop-i.i in
    let x = c.index-copies-i.result in
    let same = c.copies-copies.ensures.value in
    let e = ap length same in
    let there : i < length xs = omega (arith, e, c.loop-i-test.true) in
    let whole = take_next xs i x there (c.index-copies-i.is ∙ ap (λ k. get_or k i x) same) in
    least_with (ends_in net.horizon c.args.ends.now) (take i xs) (take (i + 1) xs) x whole c.loop-i.least
    c.with_copy-least.result (rw (← c.horizon.ensures.value) c.with_copy-least.ensures.least) c.loop-i.invariant
