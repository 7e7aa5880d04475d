use Rattle.std.proofs.Common.{◌<◌, ◌≤◌, arith, ap, subst, sym}
use Rattle.sim_base.proofs.ListLaws.{all_weaker}
use Rattle.copy_pending.specs.Merged.{CopyPendingView, IsFirstForAll, IsLowerBoundOf}
use Rattle.copy_pending.proofs.pending.CopyPending.first_before.Goals as goal

pub returns-in-Some-clause-first : goal.returns-in-Some-clause-first
returns-in-Some-clause-first c =
    let p = c.self.inside in
    let m = c.in-Some.first in
    let late = subst (λ (v : CopyPendingView). IsLowerBoundOf c.args.bound v.partial) (sym c.self.view_is)
    c.requires.bound in
    let soon = c.if-time-bound.true in
    let time = c.time.ensures.value in
    subst (IsFirstForAll m) c.self.view_is (record {
      sorted = c.first.ensures.sorted;
      first = sym c.in-Some.ensures.value;
      before = all_weaker (λ x. c.args.bound ≤ x.0.key.time) (λ x. m.key.time < x.0.key.time) p.partial
          (λ x h. omega (arith, soon, time, h)) late;
    })
