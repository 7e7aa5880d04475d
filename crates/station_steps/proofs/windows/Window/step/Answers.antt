use Rattle.std.proofs.Common.{◌≡◌, ◌+◌, ap, ap₂, subst, sym, ◌∙◌}
use Rattle.phys_proc.specs.Ends.{ends_in}
use Rattle.phys_proc.specs.Own.{MarkedMessages}
use Rattle.phys_proc.specs.Procs.{ProcView}
use Rattle.station_steps.specs.Windows.{HasAdvanced, IsFlow, WindowView}
use Rattle.station_steps.specs.declared.station_step.StationStep.{StationStep}
use Rattle.station_steps.proofs.Flows.{is_flow}
use Rattle.station_steps.proofs.windows.Window.step.Goals as goal

pub returns-clause-flow : goal.returns-clause-flow
returns-clause-flow g c =
    let same = c.lend-messages.ensures.same in
    let v : WindowView = record { net = c.deref.result.now; ends = c.deref-2.result.now } in
    let here : v ≡ c.args.self.now = ap₂ (λ n e. record { net = n; ends = e }) c.deref.ensures c.deref-2.ensures
    ∙ c.self.view_is in
    let net = v.net in
    let ends = ends_in v.net.horizon v.ends in
    let gain = c.in_ok-gain.gain in
    let flow : StationStep = record {
      done = c.advance.new.self;
      sent = record { items = c.advance.new.sent };
      over = gain.over;
      handled = gain.handled;
    } in
    let is = subst (λ (w : WindowView). IsFlow w.net (ends_in w.net.horizon w.ends) c.args.bound c.args._i c.args.proc
    flow) here
    (subst (λ (p : ProcView). IsFlow net ends c.args.bound c.args._i p flow) same
    (is_flow net ends c.args.bound c.args._i c.lend-messages.new.self flow
    (ap (λ (p : ProcView). p.station) same ∙ c.requires.numbered.number) c.in_ok-gain.ensures.advanced)) in
    let w = c.args.self.now in
    let w_ends = ends_in w.net.horizon w.ends in
    subst (λ (d : ProcView). HasAdvanced w.net (c.args._i + 1) w_ends c.args.bound c.args.proc d
    c.in_ok-of.field-0.items gain.over gain.handled) (sym c.done.view_is)
    (subst (λ (ms : MarkedMessages). HasAdvanced w.net (c.args._i + 1) w_ends c.args.bound c.args.proc
    c.advance.new.self ms gain.over gain.handled) (sym c.in_ok-of.ensures.messages) is)
