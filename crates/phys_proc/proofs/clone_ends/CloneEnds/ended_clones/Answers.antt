use Rattle.std.proofs.Common.{◌||◌, ap, ap₂, ◌∙◌, arith}
use Rattle.clone_sets.specs.Sets.{has}
use Rattle.clone_sets.proofs.SetLaws.{has-empty}
use Rattle.phys_proc.specs.Ends.{has_ended}
use Rattle.phys_proc.proofs.Ends.{number_below}
use Rattle.phys_proc.proofs.clone_ends.CloneEnds.ended_clones.Goals as goal

pub loop-i-init : goal.loop-i-init
loop-i-init c = λ x. ap₂ (λ s es. has s x || has_ended c.args.time es x) c.empty-clones.ensures c.self.view_is
    ∙ ap (λ b. b || has_ended c.args.time c.args.self.now x) (has-empty x)

pub with-clones-requires : goal.with-clones-requires
with-clones-requires c = number_below c.self.inside.ended.items c.loop-i.i c.index.result.now c.self.invariant
    (omega (arith, c.loop-i-test.true, c.loop-i.auto.i-end, c.len-i-end.ensures, c.self.inside.ended.ok.0))
    c.index.ensures
