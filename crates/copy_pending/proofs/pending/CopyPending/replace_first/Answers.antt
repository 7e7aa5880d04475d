use Rattle.std.proofs.Common.{◌≡◌, ◌∙◌, ap, subst, sym, drop}
use Rattle.copy_pending.specs.Merged.{CopyPendingView, IsFirstForAll, merged, messages_of, with_other, without_first}
use Rattle.copy_pending.proofs.Firsts.{merged-insert}
use Rattle.copy_pending.proofs.Bounds.{first_taken, earlier_first}
use Rattle.copy_pending.proofs.pending.CopyPending.replace_first.Goals as goal

pub returns-in-Some : goal.returns-in-Some
returns-in-Some c =
    let p = c.self.inside in
    let old : CopyPendingView = record { set = p.set; common = p.common; partial = p.partial } in
    record {
      value = ap (λ xs. merged p.set xs p.partial) c.replace_first.ensures.value
          ∙ merged-insert p.set c.in-Some.other (drop 1 p.common) p.partial
          ∙ (λ i. with_other p.set ((sym c.in-Some.is ∙ c.get.ensures.value) i) (messages_of (without_first old)))
          ∙ ap (λ (v : CopyPendingView). with_other v.set c.args.other (messages_of (without_first v))) c.self.view_is;
      same = ap (λ (v : CopyPendingView). v.set) c.self.view_is;
      partial = ap (λ (v : CopyPendingView). v.partial) c.self.view_is;
    }

pub returns-in-None : goal.returns-in-None
returns-in-None c =
    let p = c.self.inside in
    let old : CopyPendingView = record { set = p.set; common = p.common; partial = p.partial } in
    record {
      value = ap (λ xs. merged p.set xs p.partial)
          (first_taken c.take_first.result p.common c.take_first.new.self c.take_first.ensures.some
          c.take_first.ensures.none)
          ∙ (λ i. with_other p.set ((sym c.in-None.is ∙ c.get.ensures.value) i) (messages_of (without_first old)))
          ∙ ap (λ (v : CopyPendingView). with_other v.set c.args.other (messages_of (without_first v))) c.self.view_is;
      same = ap (λ (v : CopyPendingView). v.set) c.self.view_is;
      partial = ap (λ (v : CopyPendingView). v.partial) c.self.view_is;
    }
