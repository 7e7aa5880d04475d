use Rattle.live_study.proofs.study.live_study.Given as goal

abbrev pub ghosts-run_prepared-J-Naming : goal.ghosts-run_prepared-J-Naming
ghosts-run_prepared-J-Naming g a = record { book = a.prepared.opened.seen.book; start = a.prepared.opened.pen.nib.key }

abbrev pub ghosts-run_prepared-E-Ledger : goal.ghosts-run_prepared-E-Ledger
ghosts-run_prepared-E-Ledger g a = record { name = a.blank.name; parts = a.blank.parts }
