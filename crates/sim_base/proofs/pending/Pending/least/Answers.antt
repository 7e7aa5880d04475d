use Rattle.std.proofs.Common.{ap, sym, ◌∙◌}
use Rattle.std.specs.Prelude.{slice_get}
use Rattle.sim_base.proofs.Blocks.{slice_get-of_blocks}
use Rattle.sim_base.proofs.pending.Pending.least.Goals as goal

pub returns-clause-value : goal.returns-clause-value
returns-clause-value g c =
    c.first.ensures.value
    ∙ sym (slice_get-of_blocks c.self.inside.first c.self.inside.later.items c.self.invariant.sized)
    ∙ ap (λ xs. slice_get xs 0) c.self.view_is
