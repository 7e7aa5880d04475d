use Rattle.sim_base.proofs.SameEntry.{same_entry-Decides}
use Rattle.sim_base.proofs.laws.entries_are_told_apart.Goals as goal

pub returns : goal.returns
returns c = record { equal = same_entry-Decides }
