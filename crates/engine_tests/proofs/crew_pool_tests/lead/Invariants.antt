use Rattle.engine_tests.proofs.crew_pool_tests.lead.Given as goal

abbrev pub ghosts-lead_counted : goal.ghosts-lead_counted
ghosts-lead_counted g a = record { name = a.blank.name; parts = a.blank.parts }
