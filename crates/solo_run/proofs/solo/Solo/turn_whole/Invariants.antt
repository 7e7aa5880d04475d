use Rattle.solo_run.proofs.solo.Solo.turn_whole.Given as goal

abbrev pub ghost-turn : goal.ghost-turn
ghost-turn g a = g.past
