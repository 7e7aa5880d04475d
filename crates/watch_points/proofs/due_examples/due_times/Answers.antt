use Rattle.std.proofs.Common.{refl}
use Rattle.watch_points.proofs.due_examples.due_times.Goals as goal

pub returns-clause-first : goal.returns-clause-first
returns-clause-first c = refl

pub returns-clause-late : goal.returns-clause-late
returns-clause-late c = refl

pub returns-clause-at_the_start : goal.returns-clause-at_the_start
returns-clause-at_the_start c = refl

pub returns-clause-between_entries : goal.returns-clause-between_entries
returns-clause-between_entries c = refl

pub returns-clause-after_the_last : goal.returns-clause-after_the_last
returns-clause-after_the_last c = refl

pub returns-clause-never : goal.returns-clause-never
returns-clause-never c = refl
