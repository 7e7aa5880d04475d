use Rattle.solo_run.proofs.solo.Solo.next_turn.Given as goal

abbrev pub ghost-turn_packed : goal.ghost-turn_packed
ghost-turn_packed g a = g.past

abbrev pub ghost-turn_whole : goal.ghost-turn_whole
ghost-turn_whole g a = g.past
