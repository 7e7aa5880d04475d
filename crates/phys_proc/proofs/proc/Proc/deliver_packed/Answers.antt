use Rattle.std.proofs.Common.{sym, ap, subst, ◌∙◌}
use Rattle.std.specs.List.{AllByRecursion}
use Rattle.phys_proc.specs.Own.{IsCopy}
use Rattle.phys_proc.specs.Procs.{ProcView, IsProc}
use Rattle.phys_proc.proofs.Delivery.{all_fit}
use Rattle.phys_proc.proofs.Shares.{shares_same}
use Rattle.phys_proc.proofs.proc.Proc.deliver_packed.Goals as goal

pub invariant_of-self : goal.invariant_of-self
invariant_of-self c = let i = c.self.inside in
    shares_same i.station i.handled i.living i.copies c.deliver_packed.new.self c.in_err-deliver_packed.ensures.same
    c.self.invariant

pub invariant_of-self-then-branch : goal.invariant_of-self-then-branch
invariant_of-self-then-branch c = let i = c.self.inside in
    shares_same i.station i.handled i.living i.copies c.deliver_packed.new.self c.in_ok-deliver_packed.ensures.same
    c.self.invariant

pub returns-then-branch-clause-proc : goal.returns-then-branch-clause-proc
returns-then-branch-clause-proc c = λ net f.
    let h = subst (IsProc net) (sym c.self.view_is) f in
    record {
      valid = h.valid;
      is_station = h.is_station;
      copies = subst (AllByRecursion (IsCopy net c.self.inside.station))
          (sym (c.in_ok-deliver_packed.ensures.given c.if-branch.true))
          (all_fit net (λ k. 0) c.args.msg c.args.set c.self.inside.station c.self.inside.copies
          (c.requires.target ∙ sym (ap (λ (u : ProcView). u.station) c.self.view_is)) h.copies);
    }
