use Rattle.std.proofs.Common.{◌∙◌, ap, sym}
use Rattle.sim_base.specs.Pending.{spread_marks}
use Rattle.clone_sets.specs.Sets.{union, common, with, one, has}
use Rattle.copy_pending.specs.Merged.{CopyPendingView, merged, messages_of}
use Rattle.copy_pending.proofs.Firsts.{merged-fork}
use Rattle.copy_pending.proofs.pending.CopyPending.fork.Goals as goal

pub returns : goal.returns
returns c =
    let p = c.self.inside in
    let set = ap (λ (v : CopyPendingView). v.set) c.self.view_is in
    record {
      set = c.with-self-inside.ensures.value ∙ ap (λ s. with s c.args.new) set;
      forked = (λ j. merged (c.with-self-inside.ensures.value j) p.common
          ((c.spread.ensures.value
          ∙ (λ k. spread_marks union common (c.one.ensures.value k) (c.one-2.ensures.value k) p.partial)) j))
          ∙ sym (merged-fork p.set c.args.old c.args.new p.common p.partial
          (ap (λ s. has s c.args.old) set ∙ c.requires.old))
          ∙ ap (λ (v : CopyPendingView). spread_marks union common (one c.args.old) (one c.args.new) (messages_of v))
          c.self.view_is;
    }
