use Rattle.std.proofs.Common.{arith, ap, sym, subst, ◌∙◌, take}
use Rattle.std.specs.List.{flat_map}
use Rattle.std.proofs.lemmas.List.{take_all}
use Rattle.phys_proc.specs.Ends.{ends_in}
use Rattle.phys_proc.specs.Own.{MarkedMessages}
use Rattle.station_steps.specs.Mail.{IsEarliest, IsMailTaken, SentView, mail_for}
use Rattle.station_steps.proofs.MailTimes.{earliest-append}
use Rattle.station_steps.proofs.TakenMail.{flat_map-next, mail_for-append}
use Rattle.station_steps.proofs.mail.Mail.earlier_for.Goals as goal

pub loop-i-preserved : goal.loop-i-preserved
loop-i-preserved c =
    let lists = c.self.inside.lists.items in
    let i = c.loop-i.i in
    let x = c.index.result.now in
    let s = c.args.station in
    let ends = ends_in c.args.horizon c.args.ends.now in
    let before = flat_map (λ (l : SentView). l.items) (take i lists) in
    let next = flat_map-next (λ (l : SentView). l.items) lists i x
    (omega (arith, c.loop-i-test.true, c.loop-i.auto.i-end, c.len-i-end.ensures, c.self.inside.lists.ok.0))
    c.index.ensures in
    subst (λ (ms : MarkedMessages). IsEarliest c.args.before (IsMailTaken ends c.args.clones ms)
    c.earlier_for-least.result)
    (sym (ap (mail_for s) next ∙ mail_for-append s before x.items))
    (earliest-append ends c.args.clones (mail_for s before) (mail_for s x.items) c.args.before c.loop-i.least
    c.earlier_for-least.result c.loop-i.invariant c.earlier_for-least.ensures.earliest)

pub returns : goal.returns
returns c =
    let lists = c.self.inside.lists.items in
    let ends = ends_in c.args.horizon c.args.ends.now in
    record {
      earliest = subst (λ (ms : MarkedMessages). IsEarliest c.args.before
          (IsMailTaken ends c.args.clones (mail_for c.args.station ms)) c.loop-i.least)
          (ap (flat_map (λ (l : SentView). l.items)) (take_all c.loop-i.i lists
          (omega (arith, c.loop-i-test.false, c.loop-i.auto.i-end, c.len-i-end.ensures, c.self.inside.lists.ok.0)))
          ∙ c.self.view_is)
          c.loop-i.invariant;
    }
