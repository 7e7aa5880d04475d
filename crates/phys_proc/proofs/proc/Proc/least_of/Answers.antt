use Rattle.std.proofs.Common.{◌+◌, ◌<◌, arith, sym, ap, subst, ◌∙◌, take, length, get_or}
use Rattle.std.proofs.lemmas.List.{take_all}
use Rattle.sim_base.proofs.Elements.{take_next}
use Rattle.phys_proc.specs.Ends.{ends_in}
use Rattle.phys_proc.specs.Procs.{IsLeastOf}
use Rattle.phys_proc.proofs.LeastTimes.{least_of_more}
use Rattle.phys_proc.proofs.proc.Proc.least_of.Goals as goal

pub loop-copy-preserved : goal.loop-copy-preserved
loop-copy-preserved c =
    let net = c.args.model.now in
    let xs = c.args.self.now.copies in
    let i = c.loop-copy.copy-index in
    let x = c.copy-item.result in
    let same = c.copies-copy-items.ensures.value in
    let l : i < length xs = subst (λ k. i < length k) same c.loop-copy-test.true in
    let whole = take_next xs i x l (c.copy-item.is ∙ ap (λ k. get_or k i x) same) in
    let end = c.end_of-end.ensures.end ∙ ap (λ h. ends_in h c.args.ends.now c.args.c) c.horizon.ensures.value in
    subst (IsLeastOf (ends_in net.horizon c.args.ends.now) (take (i + 1) xs) c.args.c)
    (sym c.earlier-least.ensures.value)
    (least_of_more (ends_in net.horizon c.args.ends.now) (take i xs)
    (take (i + 1) xs) x whole c.args.c c.loop-copy.least c.least_of_clone.result c.loop-copy.invariant
    (c.least_of_clone.ensures.least (ends_in net.horizon c.args.ends.now) end))

pub returns : goal.returns
returns c =
    let xs = c.args.self.now.copies in
    let same = c.copies-copy-items.ensures.value in
    let e = ap length same in
    let l = c.loop-copy-test.false in
    record {
      least = subst (λ k. IsLeastOf (ends_in c.args.model.now.horizon c.args.ends.now) k c.args.c
          c.loop-copy.least) (take_all c.loop-copy.copy-index xs (omega (arith, e, l))) c.loop-copy.invariant;
    }
