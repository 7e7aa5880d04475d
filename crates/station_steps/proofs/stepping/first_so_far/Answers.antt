use Rattle.std.proofs.Common.{sym, subst, ◌∙◌}
use Rattle.clone_sets.specs.Sets.{IsFirst}
use Rattle.clone_sets.specs.declared.set.CloneSet.{CloneSet}
use Rattle.station_steps.specs.Stepping.{FirstOver}
use Rattle.station_steps.proofs.InPlace.{IsFirstOver-push, IsFirstOver-new, NoneOver-push}
use Rattle.station_steps.proofs.stepping.first_so_far.Goals as goal

pub returns-in-Some-clause-first : goal.returns-in-Some-clause-first
returns-in-Some-clause-first c = λ flows f many over h.
    IsFirstOver-push flows f c.in-Some.first.0 c.in-Some.first.1 (subst (FirstOver flows) c.in-Some.is h)

pub returns-in-Some-first-clause-first : goal.returns-in-Some-first-clause-first
returns-in-Some-first-clause-first c = λ flows f many over h.
    IsFirstOver-new flows f c.args.i c.in-Some-first.who many (subst (FirstOver flows) c.in_default.is h)
    (subst (λ (k : CloneSet). IsFirst k c.in-Some-first.who) (sym over) c.in-Some-first.ensures.some)

pub returns-clause-first : goal.returns-clause-first
returns-clause-first c = λ flows f many over h.
    NoneOver-push flows f (subst (FirstOver flows) c.in_default.is h) (over ∙ c.in_default-first.ensures.none)
