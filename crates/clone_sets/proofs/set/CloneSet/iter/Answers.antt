use Rattle.clone_sets.proofs.MemberLaws.{members_in, in_members, members_below, members_rise}
use Rattle.clone_sets.proofs.set.CloneSet.iter.Goals as goal

pub returns-clause-members : goal.returns-clause-members
returns-clause-members c = λ d l. (members_in c.args.self d, in_members c.args.self d l)

pub returns-clause-below : goal.returns-clause-below
returns-clause-below c = members_below c.args.self

pub returns-clause-rising : goal.returns-clause-rising
returns-clause-rising c = members_rise c.args.self
