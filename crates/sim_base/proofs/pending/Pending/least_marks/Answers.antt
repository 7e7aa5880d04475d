use Rattle.std.proofs.Common.{ap, sym, ◌∙◌, option_map}
use Rattle.sim_base.specs.Pending.{first_marks}
use Rattle.sim_base.proofs.Blocks.{slice_get-of_blocks}
use Rattle.sim_base.proofs.pending.Pending.least_marks.Goals as goal

pub returns : goal.returns
returns g c =
    record {
      value = c.first_marks.ensures.value ∙ ap (option_map (λ x. x.1))
          (sym (slice_get-of_blocks c.self.inside.first c.self.inside.later.items c.self.invariant.sized))
          ∙ ap first_marks c.self.view_is;
    }
