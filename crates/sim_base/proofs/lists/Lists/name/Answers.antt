use Rattle.std.proofs.Common.{ap}
use Rattle.sim_base.proofs.Distinct.{seen_by_name}
use Rattle.sim_base.proofs.lists.Lists.name.Goals as goal

pub returns-clause-only : goal.returns-clause-only
returns-clause-only c =
    rw (ap (λ k. k.name) c.clone.view_is)
    (seen_by_name c.self.inside.clones.items _ c.args.c _ (ap (λ l. l.clones) c.self.view_is) c.self.invariant.2
    c.requires.in_range c.index-clone.ensures)
