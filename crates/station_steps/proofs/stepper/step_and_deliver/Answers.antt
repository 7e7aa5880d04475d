use Rattle.std.proofs.Common.{◌≡◌, ℕ, List, Some, None, sym, ◌∙◌, subst}
use Rattle.net_model.specs.Net.{Net}
use Rattle.phys_proc.specs.Ends.{ends_in}
use Rattle.phys_proc.specs.Own.{MarkedMessages}
use Rattle.phys_proc.specs.Procs.{ProcView}
use Rattle.station_steps.specs.Stepping.{AllStepped}
use Rattle.station_steps.specs.Windows.{AreStations, bound_of}
use Rattle.station_steps.proofs.Flows.{MayGiveAll-stepped}
use Rattle.station_steps.proofs.stepper.step_and_deliver.Goals as goal

-- an option is not both Some and None
none_some : {X : Type 0} (x : X) → Some x ≡ None → ⊥
none_some x e = absurd (cc)

-- stations stepped for one network and these ends are so for equal ones
stepped_same : (net n : Net) (ended listed : List (ℕ × ℕ)) (bounds : ℕ → ℕ) (olds news : List ProcView)
    (sent : MarkedMessages) (over : _) (steps0 steps1 : ℕ) → n ≡ net → listed ≡ ended
    → AllStepped n (ends_in n.horizon listed) bounds olds news sent over steps0 steps1
    → AllStepped net (ends_in net.horizon ended) bounds olds news sent over steps0 steps1
stepped_same net n ended listed bounds olds news sent over steps0 steps1 e f h =
    subst (λ l. AllStepped net (ends_in net.horizon l) bounds olds news sent over steps0 steps1) f
    (subst (λ (m : Net). AllStepped m (ends_in m.horizon listed) bounds olds news sent over steps0 steps1) e h)

pub returns-in-Some-clause-stepped : goal.returns-in-Some-clause-stepped
returns-in-Some-clause-stepped g c =
    let over = c.in_ok-stepped.stepped.over in
    let news = c.step_in_place.new.procs.items in
    let sent = c.step_in_place.new.buffers.sent in
    record {
      news = news;
      sent = sent;
      stepped = stepped_same c.args.model.now.value c.deref.result.now c.args.ends.now c.ends.result.now
          (bound_of c.args.buffers.now.bounds.items) c.args.procs.now.items news sent over
          c.args.steps.now c.step_in_place.new.steps c.deref.ensures c.ends.ensures.value
          c.in_ok-stepped.ensures.stepped;
      delivered = λ none. absurd (none_some c.in-Some.field-0 (sym c.in-Some.is ∙ none));
    }

pub deliver_all-requires : goal.deliver_all-requires
deliver_all-requires g c =
    let over = c.in_ok-stepped.stepped.over in
    let news = c.step_in_place.new.procs.items in
    let sent = c.step_in_place.new.buffers.sent in
    let n = c.deref.result.now in
    record {
      in_order = (MayGiveAll-stepped n (ends_in n.horizon c.ends.result.now)
          (bound_of c.args.buffers.now.bounds.items) c.args.procs.now.items news sent over
          c.args.steps.now c.step_in_place.new.steps
          (subst (λ (m : Net). AreStations m c.args.procs.now.items) (sym c.deref.ensures) c.requires.stations)
          c.in_ok-stepped.ensures.stepped).in_order;
    }

pub returns-clause-stepped : goal.returns-clause-stepped
returns-clause-stepped g c =
    let over = c.in_ok-stepped.stepped.over in
    let news = c.step_in_place.new.procs.items in
    let sent = c.step_in_place.new.buffers.sent in
    record {
      news = news;
      sent = sent;
      stepped = stepped_same c.args.model.now.value c.deref.result.now c.args.ends.now c.ends.result.now
          (bound_of c.args.buffers.now.bounds.items) c.args.procs.now.items news sent over
          c.args.steps.now c.step_in_place.new.steps c.deref.ensures c.ends.ensures.value
          c.in_ok-stepped.ensures.stepped;
      delivered = λ none. c.in_ok-deliver_all.ensures.given;
    }
