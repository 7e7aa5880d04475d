use Rattle.std.proofs.Common.{◌≡◌, ◌+◌, sym, subst, length, rules}
use Rattle.sim_base.specs.declared.message.Msg.{Msg}
use Rattle.sim_base.specs.declared.entry.Line.{Line}
use Rattle.run_laws.specs.Simulation.{Outcome}
use Rattle.net_model.specs.Sites.{as_site}
use Rattle.stations.specs.Fits.{FitsState, SuitsNet}
use Rattle.stations.specs.Handling.{StateView}
use Rattle.stations.specs.Sends.{AreSends}
use Rattle.stations.proofs.Lawful.{handles-fitting, handle-is}
use Rattle.stations.proofs.state.handle.Goals as goal

pub invariant_of-state-2 : goal.invariant_of-state-2
invariant_of-state-2 g c =
    let st : StateView = record {
      sender = c.state.inside.sender;
      handled = c.state.inside.handled;
      kind = c.state.inside.kind;
    } in
    let is = handle-is c.args.model.now st c.args.msg.now (as_site c.station-station.result.now) c.args.out.now.items
    c.kind_handles.new.out.items c.kind_handles.new.kind c.kind_handles.new.sender c.station-station.ensures.value
    c.requires.empty c.in_ok-kind_handles.ensures.ok in
    let well = handles-fitting c.args.model.now st c.args.msg.now c.station-station.ensures.valid c.state.invariant
    (subst (SuitsNet c.args.model.now) (sym c.state.view_is) c.requires.suits) c.requires.time_max in
    subst (λ (h : Outcome StateView Msg Line). FitsState h.state) is well.fits

pub returns : goal.returns
returns g c =
    let st : StateView = record {
      sender = c.state.inside.sender;
      handled = c.state.inside.handled;
      kind = c.state.inside.kind;
    } in
    let is = handle-is c.args.model.now st c.args.msg.now (as_site c.station-station.result.now) c.args.out.now.items
    c.kind_handles.new.out.items c.kind_handles.new.kind c.kind_handles.new.sender c.station-station.ensures.value
    c.requires.empty c.in_ok-kind_handles.ensures.ok in
    let well = handles-fitting c.args.model.now st c.args.msg.now c.station-station.ensures.valid c.state.invariant
    (subst (SuitsNet c.args.model.now) (sym c.state.view_is) c.requires.suits) c.requires.time_max in
    record {
      ok = rw (← c.state.view_is, c.kind_line.ensures) is;
      sends = rw (← c.state.view_is)
          (subst (λ (h : Outcome StateView Msg Line).
          AreSends c.args.model.now c.args.msg.now.key.time st.sender.station st.sender.next h.sends) is well.sends);
      next = rw (← c.state.view_is) (subst (λ (h : Outcome StateView Msg Line). h.state.sender.next
          ≡ st.sender.next + length h.sends) is well.next);
      suits = subst (λ (h : Outcome StateView Msg Line). SuitsNet c.args.model.now h.state) is well.suits;
      fits = subst (λ (h : Outcome StateView Msg Line). FitsState h.state) is well.fits;
      own = rw (← c.state.view_is) (subst (λ (h : Outcome StateView Msg Line). h.state.sender.station
          ≡ st.sender.station) is well.station);
      one_more = rw (← c.state.view_is)
          (subst (λ (h : Outcome StateView Msg Line). h.state.handled ≡ st.handled + 1) is well.handled);
      counted = search rules;
      err = search rules;
      nothing = search rules;
      uncounted = search rules;
    }
