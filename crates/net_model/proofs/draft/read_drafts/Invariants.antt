use Rattle.std.proofs.Common.{◌≡◌, ◌+◌, [], length, map, drop}
use Rattle.toml.specs.View.{view}
use Rattle.net_model.specs.Drafts.{as_draft, drafts_of}
use Rattle.net_model.proofs.ElementByElement.{after}
use Rattle.net_model.proofs.draft.read_drafts.Given as goal

abbrev pub invariant-drafts : goal.invariant-drafts
invariant-drafts l =
    record {
      so_far : drafts_of l.format [] 1 (map view l.fn.tables) ≡ after (map as_draft l.drafts.items)
          (drafts_of l.format (map as_draft l.drafts.items) (l.i + 1) (map view (drop l.i l.fn.tables)));
      count : length l.drafts.items ≡ l.i;
    }
