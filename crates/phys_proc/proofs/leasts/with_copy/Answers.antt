use Rattle.std.proofs.Common.{◌≡◌, inr, sym, ap, ◌∙◌}
use Rattle.run_laws.specs.Fronts.{earlier}
use Rattle.phys_proc.proofs.leasts.with_copy.Goals.{in-Some+else-time-lower_bound, in_default}
use Rattle.phys_proc.proofs.leasts.with_copy.Goals as goal

pub returns : goal.returns
returns c =
    let here = c.least_of_copy.result in
    let same : c.match-before.before ≡ c.args.before = elim c.match-before.branch [
      | in-Some+else-time-lower_bound w ↦ w.before-is ∙ sym w.in-Some.is
      | in_default w ↦ w.before-is
    ] in
    let is = c.earlier.ensures.value ∙ ap (λ b. earlier b here) same in
    record { least = inr (here, c.least_of_copy.ensures.least, is) }
