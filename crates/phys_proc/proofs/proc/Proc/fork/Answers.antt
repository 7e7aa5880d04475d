use Rattle.std.proofs.Common.{sym, ap, subst, ◌∙◌}
use Rattle.clone_sets.specs.Sets.{has}
use Rattle.stations.specs.Runs.{simulation}
use Rattle.std.specs.List.{AllZip}
use Rattle.run_laws.specs.Copies.{IsForked}
use Rattle.phys_proc.specs.Procs.{ProcView, IsProc}
use Rattle.phys_proc.proofs.Forks.{shares_forked, forked_fits, all_forked, fresh_in}
use Rattle.phys_proc.proofs.proc.Proc.fork.Goals as goal

pub invariant_of-self : goal.invariant_of-self
invariant_of-self c =
    let i = c.self.inside in
    let is = c.self.view_is in
    rw (c.with-self-inside.ensures.value, c.fork.ensures.forked)
    (shares_forked c.args.old c.args.new i.station i.handled i.living i.copies
    (ap (λ (u : ProcView). has u.living c.args.old) is ∙ c.requires.old)
    (ap (λ (u : ProcView). has u.living c.args.new) is ∙ c.requires.new) c.self.invariant)

pub returns-clause-each_forked : goal.returns-clause-each_forked
returns-clause-each_forked c = λ net ends f.
    let i = c.self.inside in
    let h = subst (IsProc net) (sym c.self.view_is) f in
    let fresh = fresh_in c.args.old c.args.new i.living i.copies c.self.invariant.shares.together
    (ap (λ (u : ProcView). has u.living c.args.new) c.self.view_is ∙ c.requires.new) in
    subst (λ (u : ProcView). AllZip (IsForked (simulation net) has ends c.args.old c.args.new) u.copies
    c.fork.new.self) c.self.view_is
    (rw c.fork.ensures.forked (all_forked c.args.old c.args.new net i.station ends i.copies fresh h.copies))

pub returns-clause-proc : goal.returns-clause-proc
returns-clause-proc c = λ net f.
    let i = c.self.inside in
    let h = subst (IsProc net) (sym c.self.view_is) f in
    let fresh = fresh_in c.args.old c.args.new i.living i.copies c.self.invariant.shares.together
    (ap (λ (u : ProcView). has u.living c.args.new) c.self.view_is ∙ c.requires.new) in
    record {
      valid = h.valid;
      is_station = h.is_station;
      copies = rw c.fork.ensures.forked (forked_fits c.args.old c.args.new net i.station i.copies fresh h.copies);
    }
