use Rattle.study_run.proofs.driver.go.Goals as goal

pub advance-requires-clause-come : goal.advance-requires-clause-come
advance-requires-clause-come g c =
    let come = c.requires.come in
    (come.0, c.step.invariant.leads come.0 come.1)
