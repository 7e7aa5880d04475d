use Rattle.study_run.proofs.driver.go_to_end.Goals as goal

pub go_with_crew-requires-clause-come : goal.go_with_crew-requires-clause-come
go_with_crew-requires-clause-come g c κs within =
    let come = c.requires.come in
    (come.0, c.in_ok-world.ensures.goes.goes_on come.0 come.1)
