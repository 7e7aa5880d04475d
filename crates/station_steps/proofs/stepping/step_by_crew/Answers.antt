use Rattle.std.proofs.Common.{◌≡◌, Some, None, sym, ap, ◌∙◌, subst, List, ℕ}
use Rattle.phys_proc.specs.Ends.{ends_in}
use Rattle.phys_proc.specs.Procs.{ProcView}
use Rattle.station_steps.specs.Stepping.{AllStepped, AllSteppedAndGiven}
use Rattle.station_steps.specs.Windows.{AllFlow, AreStations, bound_of}
use Rattle.station_steps.proofs.Flows.{AreStations-stepped}
use Rattle.station_steps.proofs.stepping.step_by_crew.Goals as goal

-- an option is not both Some and None
none_some : {X : Type 0} (x : X) → Some x ≡ None → ⊥
none_some x e = absurd (cc)

pub returns-in-Some-clause-stepped : goal.returns-in-Some-clause-stepped
returns-in-Some-clause-stepped g c =
    let w = c.args.work.value in
    let flows = c.in_ok-flows.flows.items in
    let run = c.in_ok-flows.ensures in
    let done = c.in_ok-stepped.ensures in
    let over = c.in_ok-stepped.stepped.over in
    let olds = c.replace-olds.result.items in
    let news = c.gather_flows.new.procs.items in
    let mail = c.in_ok-stepped.mail.value in
    let bounds = bound_of c.args.buffers.now.bounds.items in
    let stepped : AllStepped w.net (ends_in w.net.horizon w.ends) bounds olds news mail over c.args.steps.now
    c.run_tasks.new.steps = record {
      flows = flows;
      count = run.count;
      each = subst (λ (bounds : List ℕ). AllFlow w.net (ends_in w.net.horizon w.ends) (bound_of bounds) olds flows)
          c.as_slice.ensures.value run.flows;
      procs = done.procs;
      sent_is = done.sent;
      first = done.over;
      steps_are = run.cost;
    } in
    subst (λ (l : List ProcView). AllSteppedAndGiven w.net (ends_in w.net.horizon w.ends) bounds l news over
    c.args.steps.now c.run_tasks.new.steps) (ap (λ v. v.items) c.replace-olds.ensures.value) (record {
      news = news;
      sent = mail;
      stepped = stepped;
      delivered = λ none. absurd (none_some c.in-Some.field-0 (sym c.in-Some.is ∙ none));
    })

pub post_all-requires : goal.post_all-requires
post_all-requires g c =
    let w = c.args.work.value in
    let flows = c.in_ok-flows.flows.items in
    let run = c.in_ok-flows.ensures in
    let done = c.in_ok-stepped.ensures in
    let over = c.in_ok-stepped.stepped.over in
    let olds = c.replace-olds.result.items in
    let news = c.gather_flows.new.procs.items in
    let mail = c.in_ok-stepped.mail.value in
    let bounds = bound_of c.args.buffers.now.bounds.items in
    let stepped : AllStepped w.net (ends_in w.net.horizon w.ends) bounds olds news mail over c.args.steps.now
    c.run_tasks.new.steps = record {
      flows = flows;
      count = run.count;
      each = subst (λ (bounds : List ℕ). AllFlow w.net (ends_in w.net.horizon w.ends) (bound_of bounds) olds flows)
          c.as_slice.ensures.value run.flows;
      procs = done.procs;
      sent_is = done.sent;
      first = done.over;
      steps_are = run.cost;
    } in
    record {
      stations = (
        w.net,
        AreStations-stepped w.net (ends_in w.net.horizon w.ends) bounds olds news mail over c.args.steps.now
            c.run_tasks.new.steps (subst (λ (l : List ProcView). AreStations w.net l)
            (sym (ap (λ v. v.items) c.replace-olds.ensures.value)) c.requires.stations) stepped,
      );
    }

pub returns-clause-stepped : goal.returns-clause-stepped
returns-clause-stepped g c =
    let w = c.args.work.value in
    let flows = c.in_ok-flows.flows.items in
    let run = c.in_ok-flows.ensures in
    let done = c.in_ok-stepped.ensures in
    let over = c.in_ok-stepped.stepped.over in
    let olds = c.replace-olds.result.items in
    let news = c.gather_flows.new.procs.items in
    let mail = c.in_ok-stepped.mail.value in
    let bounds = bound_of c.args.buffers.now.bounds.items in
    let stepped : AllStepped w.net (ends_in w.net.horizon w.ends) bounds olds news mail over c.args.steps.now
    c.run_tasks.new.steps = record {
      flows = flows;
      count = run.count;
      each = subst (λ (bounds : List ℕ). AllFlow w.net (ends_in w.net.horizon w.ends) (bound_of bounds) olds flows)
          c.as_slice.ensures.value run.flows;
      procs = done.procs;
      sent_is = done.sent;
      first = done.over;
      steps_are = run.cost;
    } in
    subst (λ (l : List ProcView). AllSteppedAndGiven w.net (ends_in w.net.horizon w.ends) bounds l
    c.post_all.new.procs.items over c.args.steps.now c.run_tasks.new.steps)
    (ap (λ v. v.items) c.replace-olds.ensures.value) (record {
      news = news;
      sent = mail;
      stepped = stepped;
      delivered = λ none. c.in_ok-post_all.ensures.given;
    })
