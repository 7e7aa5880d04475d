use Rattle.msg_route.proofs.TakingLaws.{taken_are_for, group_is_taken, contains_is_in}
use Rattle.msg_route.proofs.laws.clones_take_their_messages.Goals as goal

pub returns-clause-taken : goal.returns-clause-taken
returns-clause-taken c = taken_are_for

pub returns-clause-grouped : goal.returns-clause-grouped
returns-clause-grouped c = group_is_taken

pub returns-clause-parts : goal.returns-clause-parts
returns-clause-parts c = contains_is_in
