use Rattle.std.proofs.Common.{◌≡◌, length, map, drop}
use Rattle.net_model.specs.Drafts.{as_draft}
use Rattle.net_model.specs.Resolving.{links_of_named}
use Rattle.net_model.proofs.ElementByElement.{after}
use Rattle.net_model.proofs.resolve.resolve_links.Given as goal

abbrev pub invariant-links : goal.invariant-links
invariant-links l =
    record {
      so_far : links_of_named l.lookahead (map as_draft l.drafts) l.station l.fn.links ≡ after l.found.items
          (links_of_named l.lookahead (map as_draft l.drafts) l.station (drop l.link-index l.fn.links));
      count : length l.found.items ≡ l.link-index;
    }
