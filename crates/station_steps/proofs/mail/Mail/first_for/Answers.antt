use Rattle.std.proofs.Common.{arith, sym, subst, take}
use Rattle.std.specs.List.{flat_map}
use Rattle.phys_proc.specs.Own.{MarkedMessages}
use Rattle.station_steps.specs.Mail.{IsFirstFor, SentView}
use Rattle.station_steps.proofs.TakenMail.{IsFirstFor-append, flat_map-next}
use Rattle.station_steps.proofs.mail.Mail.first_for.Goals as goal

pub loop-i-preserved : goal.loop-i-preserved
loop-i-preserved c =
    let lists = c.self.inside.lists.items in
    let i = c.loop-i.i in
    let x = c.index.result.now in
    let s = c.args.station in
    let low = c.min-first.ensures in
    subst (λ (ms : MarkedMessages). IsFirstFor s ms c.min-first.result)
    (sym (flat_map-next (λ (l : SentView). l.items) lists i x
    (omega (arith, c.loop-i-test.true, c.loop-i.auto.i-end, c.len-i-end.ensures, c.self.inside.lists.ok.0))
    c.index.ensures))
    (IsFirstFor-append s (flat_map (λ (l : SentView). l.items) (take i lists)) x.items c.loop-i.first
    c.first_for.result c.min-first.result (omega (arith, low)) (omega (arith, low)) c.loop-i.invariant
    c.first_for.ensures.first)
