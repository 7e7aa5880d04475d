use Rattle.std.proofs.Common.{◌≡◌, arith, subst, length-set, slice_set}
use Rattle.std.proofs.lemmas.List.{get_or_read}
use Rattle.phys_proc.specs.Ends.{ends_in}
use Rattle.station_steps.specs.declared.station_step.StationStep.{StationStep}
use Rattle.station_steps.specs.Windows.{bound_of}
use Rattle.station_steps.specs.Stepping.{SteppedAt}
use Rattle.station_steps.proofs.Flows.{is_flow}
use Rattle.station_steps.proofs.InPlace.{SteppedAt-flow}
use Rattle.station_steps.proofs.Places.{got_at}
use Rattle.station_steps.proofs.stepping.step_place.Goals as goal
use Rattle.run_laws.proofs.Lists.{slice_get-set_same, slice_get-set_other}

pub returns-clause-stepped : goal.returns-clause-stepped
returns-clause-stepped g c =
    let net = c.args.model.now in
    let ends = ends_in net.horizon c.args.ends.now in
    let items = c.args.procs.now.items in
    let bounds = c.args.buffers.now.bounds.items in
    let before = c.args.buffers.now.sent in
    let i = c.args.i in
    let x = c.index_mut.result.now in
    let y = c.advance.new.self in
    let many = c.requires.bounds.count in
    let place = c.requires.place in
    let bound = c.index-bound.result.now in
    let is : bound ≡ bound_of bounds i = get_or_read bounds i bound (omega (arith, place, many)) c.index-bound.ensures
    0 in
    let got = got_at items i x c.requires.place c.index_mut.ensures.value in
    let at = c.requires.numbered x got in
    let flow : StationStep = record {
      done = y;
      sent = record { items = c.advance.new.sent };
      over = c.in_ok-gain.gain.over;
      handled = c.in_ok-gain.gain.handled;
    } in
    subst (λ b. SteppedAt net ends b i items (slice_set items i y) before c.append.new.self flow.over
    flow.handled) is
    (SteppedAt-flow net ends bound i items (slice_set items i y) before c.append.new.self x flow got
    (is_flow net ends bound i x flow at.number c.in_ok-gain.ensures.advanced)
    (slice_get-set_same items i y c.requires.place) (λ j ne. slice_get-set_other items j i y ne)
    (length-set items i y) c.in_ok-append.ensures.both)
