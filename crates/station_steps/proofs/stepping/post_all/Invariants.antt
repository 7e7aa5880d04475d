use Rattle.station_steps.proofs.Posting.{PostedTo}
use Rattle.station_steps.proofs.stepping.post_all.Given as goal

abbrev pub invariant-loop-i : goal.invariant-loop-i
invariant-loop-i l = PostedTo l.mail.value l.i l.fn.procs.items l.procs.items
