use Rattle.cloner_top.proofs.Decisions.{IsAt}
use Rattle.cloner_top.proofs.deciding.decide_script.Given as goal

abbrev pub invariant-loop-i : goal.invariant-loop-i
invariant-loop-i l = IsAt l.fn.model.value l.script.items l.i l.book
