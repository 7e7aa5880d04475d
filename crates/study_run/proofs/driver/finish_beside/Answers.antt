use Rattle.std.proofs.Common.{◌≡◌, Some, ◌∙◌, sym, subst}
use Rattle.study_run.specs.Onwards.{HasComeTo, run_state}
use Rattle.study_run.proofs.driver.finish_beside.Goals as goal

-- equal in an option, equal
same_some : {W : Type 0} (v w : W) → Some v ≡ Some w → v ≡ w
same_some v w e = cc

pub go-done-requires : goal.go-done-requires
go-done-requires g c =
    let there = c.requires.is_given in
    let is = same_some there.0 c.in-Some-take.world (sym there.1.0 ∙ sym c.take-2.ensures.value ∙ c.in-Some-take.is) in
    record {
      come = subst (λ w. HasComeTo g.A.Onwards.has_gone_on (run_state c.args.mode.now w c.args.steps.now)) is
          there.1.1;
    }
