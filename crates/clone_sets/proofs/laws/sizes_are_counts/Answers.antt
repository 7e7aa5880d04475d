use Rattle.clone_sets.proofs.SizeLaws.{size_parts}
use Rattle.clone_sets.proofs.CountLaws.{size_is_count, set_has_clone}
use Rattle.clone_sets.proofs.laws.sizes_are_counts.Goals as goal

pub returns-clause-count : goal.returns-clause-count
returns-clause-count c = size_is_count

pub returns-clause-halves : goal.returns-clause-halves
returns-clause-halves c = size_parts

pub returns-clause-some : goal.returns-clause-some
returns-clause-some c = set_has_clone
