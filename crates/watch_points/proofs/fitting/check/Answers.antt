use Rattle.std.proofs.Common.{◌≡◌, ap, sym, ◌∙◌}
use Rattle.watch_points.specs.Checking.{fit}
use Rattle.watch_points.proofs.NamesBack.{fit_after-more, fit_after-none, fit_after-refused}
use Rattle.watch_points.proofs.fitting.check.Goals as goal

pub returns-in_default : goal.returns-in_default
returns-in_default c =
    let net = c.args.model.now in
    let cs = c.args.lists.now.clones in
    let ws = c.as_slice-items.result.now in
    let w = c.index-items-i.result in
    let same : ws ≡ c.args.w.now = c.as_slice-items.ensures.value ∙ c.w.view_is in
    record {
      value = sym (fit_after-refused net cs ws c.watches.i w c.reply_to.result c.watches-test.true c.index-items-i.is
          c.reply_to.ensures.value c.in_default.not-Accepted)
          ∙ c.watches.invariant ∙ ap (fit net cs) same;
    }

pub watches-preserved : goal.watches-preserved
watches-preserved c =
    fit_after-more c.args.model.now c.args.lists.now.clones c.as_slice-items.result.now c.watches.i
    c.index-items-i.result c.watches-test.true c.index-items-i.is (sym c.reply_to.ensures.value ∙ c.in-Accepted.is)
    ∙ c.watches.invariant

pub returns : goal.returns
returns c =
    let net = c.args.model.now in
    let cs = c.args.lists.now.clones in
    let ws = c.as_slice-items.result.now in
    let same : ws ≡ c.args.w.now = c.as_slice-items.ensures.value ∙ c.w.view_is in
    record {
      value = sym (fit_after-none net cs ws c.watches.i c.watches-test.false) ∙ c.watches.invariant
          ∙ ap (fit net cs) same;
    }
