use Rattle.std.proofs.Common.{arith, sym, subst, ◌∙◌}
use Rattle.std.proofs.lemmas.Bool.{false≢true}
use Rattle.clone_sets.specs.Sets.{IsFirst}
use Rattle.clone_sets.specs.declared.set.CloneSet.{CloneSet}
use Rattle.world_core.proofs.Merging.{first_within, not_empty}
use Rattle.world_core.proofs.world.World.first_with.Goals as goal

pub unreachable-requires : goal.unreachable-requires
unreachable-requires c = not_empty c.copy.result.now.set c.args.who c.copy.ensures.is_in
    (sym c.set.ensures.value ∙ c.in-None.ensures.none)

pub returns-clause-within : goal.returns-clause-within
returns-clause-within c =
    let first = subst (λ (k : CloneSet). IsFirst k c.in-Some.first) c.set.ensures.value c.in-Some.ensures.some in
    first_within c.copy.result.now.set c.in-Some.first c.args.who first c.copy.ensures.is_in

pub returns-clause-same : goal.returns-clause-same
returns-clause-same c =
    let first = subst (λ (k : CloneSet). IsFirst k c.in-Some.first) c.set.ensures.value c.in-Some.ensures.some in
    sym (c.copy.ensures.log c.in-Some.first first.in_set) ∙ c.copy.ensures.log c.args.who c.copy.ensures.is_in

pub returns-clause-first : goal.returns-clause-first
returns-clause-first c = λ d less alike.
    let first = subst (λ (k : CloneSet). IsFirst k c.in-Some.first) c.set.ensures.value c.in-Some.ensures.some in
    let within = first_within c.copy.result.now.set c.in-Some.first c.args.who first c.copy.ensures.is_in in
    let there = c.requires.in_range in
    false≢true (sym (first.least d less) ∙ c.copy.ensures.alike d (omega (arith, less, within, there)) alike)
