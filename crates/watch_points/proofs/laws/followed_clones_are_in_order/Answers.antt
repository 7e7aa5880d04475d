use Rattle.run_laws.proofs.Gaining.{IsBeyond-later}
use Rattle.stations.proofs.GoodLaws.{lawful-stations}
use Rattle.watch_points.proofs.CloneNumbers.{numbers_name_clones}
use Rattle.watch_points.proofs.FollowedClones.{followed_clones_are_in_order, followed_clones_stay, order_has_all_clones}
use Rattle.watch_points.proofs.laws.followed_clones_are_in_order.Goals as goal

pub returns-clause-order : goal.returns-clause-order
returns-clause-order c = order_has_all_clones

pub returns-clause-clones : goal.returns-clause-clones
returns-clause-clones c = followed_clones_are_in_order

pub returns-clause-stay : goal.returns-clause-stay
returns-clause-stay c = followed_clones_stay

pub returns-clause-beyond : goal.returns-clause-beyond
returns-clause-beyond c net valid = IsBeyond-later (lawful-stations net valid)

pub returns-clause-names : goal.returns-clause-names
returns-clause-names c = numbers_name_clones
