use Rattle.std.proofs.Common.{◌≡◌, ap, ◌∙◌, ◌+◌, map, Ok, arith}
use Rattle.toml.specs.View.{view}
use Rattle.net_model.specs.Drafts.{as_draft, draft_of}
use Rattle.net_model.proofs.ElementByElement.{drafts_of-step}
use Rattle.net_model.proofs.draft.read_drafts.Goals as goal

pub drafts-preserved : goal.drafts-preserved
drafts-preserved c =
    let read : Ok (as_draft c.in-Ok.draft) ≡ draft_of c.args.format (map as_draft c.drafts.drafts.items)
    (c.drafts.i + 1) (view c.index-tables-i.result) =
    c.in-Ok.ensures ∙ ap (λ ds. draft_of c.args.format (map as_draft ds) (c.drafts.i + 1)
    (view c.index-tables-i.result)) c.as_slice.ensures.value in
    record {
      so_far = drafts_of-step c.args.format c.args.tables.now c.drafts.drafts.items c.push.new.self.items c.drafts.i
          c.index-tables-i.result c.in-Ok.draft _ c.drafts-test.true c.index-tables-i.is read
          c.in-Ok-push.ensures.items c.drafts.invariant.so_far;
      count = omega (arith, c.in-Ok-push.ensures.len, c.drafts.invariant.count);
    }
