use Rattle.std.proofs.Common.{ap, sym, ◌∙◌, option_map}
use Rattle.sim_base.specs.Pending.{first_time}
use Rattle.sim_base.proofs.Blocks.{slice_get-of_blocks}
use Rattle.sim_base.proofs.pending.Pending.least_time.Goals as goal

pub returns : goal.returns
returns g c =
    record {
      value = c.first_time.ensures.value ∙ ap (option_map (λ x. x.0.key.time))
          (sym (slice_get-of_blocks c.self.inside.first c.self.inside.later.items c.self.invariant.sized))
          ∙ ap first_time c.self.view_is;
    }
