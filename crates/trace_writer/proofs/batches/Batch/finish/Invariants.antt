use Rattle.trace_writer.proofs.batches.Batch.finish.Given as goal

abbrev pub ghosts-finish_counted : goal.ghosts-finish_counted
ghosts-finish_counted g a = record { name = a.blank.name; parts = a.blank.parts }
