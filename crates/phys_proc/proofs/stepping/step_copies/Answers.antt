use Rattle.std.proofs.Common.{◌++◌, ◌∙◌, ap, subst, sym, append-nil}
use Rattle.phys_proc.specs.StepGoals.{ends_for}
use Rattle.phys_proc.specs.Own.{IsStepResult}
use Rattle.phys_proc.specs.StepOutputs.{MayStepCopies}
use Rattle.phys_proc.proofs.stepping.step_copies.Goals as goal

pub step_copies_in_place-stepped-requires-clause-may_step : goal.step_copies_in_place-stepped-requires-clause-may_step
step_copies_in_place-stepped-requires-clause-may_step g c =
    subst (MayStepCopies c.args.goal.now.model.now c.args.goal.now.station c.args.goal.now.bound)
    (sym c.copies.view_is) c.requires.may_step

-- ---- some copies were taken out

pub returns-in_ok-append-clause-stepped : goal.returns-in_ok-append-clause-stepped
returns-in_ok-append-clause-stepped g c =
    let net = c.args.goal.now.model.now in
    let station = c.args.goal.now.station in
    let bound = c.args.goal.now.bound in
    let ends = ends_for c.args.goal.now in
    let new = c.step_copies_in_place-stepped.new in
    let all = c.in_ok-append.ensures.all ∙ ap (λ d. new.copies.items ++ d) c.replace.ensures.value in
    subst (λ d. IsStepResult net station ends bound c.args.copies.now d new.stage.sent new.stage.over
    c.args.steps.now new.steps) (sym all)
    (subst (λ k. IsStepResult net station ends bound k (new.copies.items ++ new.stage.done)
    new.stage.sent new.stage.over c.args.steps.now new.steps) c.copies.view_is c.in_default.ensures.stepped)

-- ---- all stay in place

pub returns-else-not-is_empty-clause-stepped : goal.returns-else-not-is_empty-clause-stepped
returns-else-not-is_empty-clause-stepped g c =
    let net = c.args.goal.now.model.now in
    let station = c.args.goal.now.station in
    let bound = c.args.goal.now.bound in
    let ends = ends_for c.args.goal.now in
    let new = c.step_copies_in_place-stepped.new in
    let none = c.is_empty.ensures.value.0 c.if-not-is_empty.false in
    subst (λ d. IsStepResult net station ends bound c.args.copies.now d new.stage.sent new.stage.over
    c.args.steps.now new.steps) (ap (λ d. new.copies.items ++ d) none ∙ append-nil new.copies.items)
    (subst (λ k. IsStepResult net station ends bound k (new.copies.items ++ new.stage.done)
    new.stage.sent new.stage.over c.args.steps.now new.steps) c.copies.view_is c.in_default.ensures.stepped)
