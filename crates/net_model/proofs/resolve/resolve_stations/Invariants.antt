use Rattle.std.proofs.Common.{◌≡◌, ◌+◌, map, drop}
use Rattle.net_model.specs.Drafts.{as_draft}
use Rattle.net_model.specs.Resolving.{sites_of}
use Rattle.net_model.specs.Sites.{as_site}
use Rattle.net_model.proofs.ElementByElement.{after}
use Rattle.net_model.proofs.resolve.resolve_stations.Given as goal

abbrev pub invariant-stations : goal.invariant-stations
invariant-stations l =
    sites_of l.lookahead (map as_draft l.drafts) 1 (map as_draft l.drafts) ≡ after (map as_site l.stations.items)
    (sites_of l.lookahead (map as_draft l.drafts) (l.i + 1) (map as_draft (drop l.i l.drafts)))
