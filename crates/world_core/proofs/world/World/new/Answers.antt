use Rattle.std.proofs.Common.{◌∷◌, [], sym, subst}
use Rattle.sim_base.specs.Clones.{base}
use Rattle.net_model.specs.Net.{Net}
use Rattle.world_core.specs.Worlds.{WorldStands}
use Rattle.world_core.specs.declared.advancing.Stations.{Stations}
use Rattle.world_core.proofs.Opening.{world_begins}
use Rattle.world_core.proofs.world.World.new.Goals as goal

pub invariant_of-result : goal.invariant_of-result
invariant_of-result c =
    let net = c.args.model.value in
    let procs = c.in_ok-procs.procs.items in
    let h = c.in_ok-procs.ensures in
    subst (λ (s : Stations). WorldStands s.model.value s.lists.clones s.ends 0 s.procs.items)
    (sym c.in_ok-new.ensures.ok)
    (subst (λ cs. WorldStands net cs c.in_ok-ends.ends 0 procs) (sym c.in_ok-lists.ensures.value)
    (subst (λ e. WorldStands net (base ∷ []) e 0 procs) (sym c.in_ok-ends.ensures.none)
    (subst (λ (n : Net). WorldStands n (base ∷ []) [] 0 procs) c.deref.ensures
    (world_begins c.deref.result.now procs h.valid h.count h.first))))
