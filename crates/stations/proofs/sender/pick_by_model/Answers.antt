use Rattle.std.proofs.Common.{◌≤◌}
use Rattle.net_model.specs.declared.limits.TheConstants.{MAX_TIME}
use Rattle.net_model.specs.declared.station.Link.{Link}
use Rattle.stations.proofs.Links.{are_weights}
use Rattle.stations.proofs.Places.{AllByRecursion-slice_get}
use Rattle.stations.proofs.sender.pick_by_model.Goals as goal

pub pick_link-requires-clause-valid : goal.pick_link-requires-clause-valid
pick_link-requires-clause-valid c = rw (c.as_slice.ensures.value, c.link_weights-weights.ensures)
    (are_weights c.args.links.now c.requires.valid)

pub returns-clause-delay_max : goal.returns-clause-delay_max
returns-clause-delay_max c = AllByRecursion-slice_get (λ (l : Link). l.delay ≤ MAX_TIME) c.args.links.now _
    c.pick_link.result c.requires.valid.delay_max c.pick_link.ensures.link
