use Rattle.std.proofs.Common.{sym, subst, ap, ◌∙◌, List}
use Rattle.clone_sets.specs.Sets.{has, one}
use Rattle.clone_sets.proofs.SetLaws.{has-one}
use Rattle.stations.specs.Runs.{simulation}
use Rattle.run_laws.specs.Copies.{first_copy}
use Rattle.phys_proc.specs.Own.{StationCopy}
use Rattle.phys_proc.specs.Procs.{KeepsShares}
use Rattle.phys_proc.proofs.Counting.{not_empty}
use Rattle.phys_proc.proofs.Shares.{shares_one}
use Rattle.phys_proc.proofs.proc.Proc.new.Goals as goal

pub invariant_of-result : goal.invariant_of-result
invariant_of-result c =
    subst (λ (l : List StationCopy).
    KeepsShares (record { station = c.args.station; living = c.one.result; handled = 0; copies = l }))
    (sym c.in_ok-copies.ensures.first)
    (shares_one c.args.station c.one.result (first_copy (simulation c.args.model.now) (one 0) c.args.station)
    (sym c.one.ensures.value)
    (not_empty c.one.result 0 (ap (λ k. has k 0) c.one.ensures.value ∙ has-one 0 0)))
