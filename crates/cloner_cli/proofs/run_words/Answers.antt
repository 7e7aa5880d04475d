use Rattle.cloner_cli.proofs.run_words.Goals as goal

pub returns-in-Ok-clause-usage : goal.returns-in-Ok-clause-usage
returns-in-Ok-clause-usage g c = rw c.in-Ok.is (rw c.as_slice.ensures.value at c.run.ensures.usage)
