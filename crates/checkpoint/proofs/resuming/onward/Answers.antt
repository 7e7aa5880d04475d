use Rattle.std.proofs.Common.{length, List, ◌∙◌, ap, sym, subst}
use Rattle.std.specs.List.{AllByRecursion}
use Rattle.sim_base.specs.declared.message.Msg.{Msg}
use Rattle.solo_run.specs.EventLists.{IsForStation}
use Rattle.stations.specs.Handling.{StateView}
use Rattle.checkpoint.proofs.AcceptedStarts.{length-restored_from}
use Rattle.checkpoint.proofs.GoingOn.{last_of-end, opened-may_go_on, resumed-may_go_on, resumed-opened, resumed-stays}
use Rattle.checkpoint.proofs.GoingOn.{resumed-stops, resumed-trace}
use Rattle.checkpoint.proofs.resuming.onward.Goals as goal

pub resumed-requires-clause-count : goal.resumed-requires-clause-count
resumed-requires-clause-count g c =
    ap (λ (l : List StateView). length l) c.in-Ok.ensures.value
    ∙ (length-restored_from c.args.model.now 1 c.args.snapshot.now.saved ∙ c.requires.accepted.count)

pub resumed-requires-clause-stations : goal.resumed-requires-clause-stations
resumed-requires-clause-stations g c =
    subst (λ (l : List Msg). AllByRecursion (IsForStation (length c.args.model.now.sites)) l)
    (sym c.due.ensures.value)
    (opened-may_go_on c.args.model.now c.restore_all.ensures.valid c.args.snapshot.now c.requires.accepted).targets

pub run_on-requires : goal.run_on-requires
run_on-requires g c κs within =
    let net = c.args.model.now in
    let valid = c.restore_all.ensures.valid in
    let x = c.args.snapshot.now in
    let ok = c.requires.accepted in
    let is = resumed-opened net valid x ok c.in-Ok.states.items c.due.result.now c.in-Ok-resumed.solo
    c.in-Ok.ensures.value c.due.ensures.value c.in-Ok-resumed.ensures.value in
    let same = last_of-end net valid x ok c.end.result c.last_front-last.result c.last_front-last.ensures.value
    c.end.ensures.value in (
      within,
      (
        resumed-may_go_on net valid x ok c.in-Ok-resumed.solo is c.last_front-last.result same,
        c.last_front-last.ensures.within,
      ),
    )

pub returns-in-Ok-run_on-clause-trace : goal.returns-in-Ok-run_on-clause-trace
returns-in-Ok-run_on-clause-trace g c =
    let net = c.args.model.now in
    let valid = c.restore_all.ensures.valid in
    let x = c.args.snapshot.now in
    let ok = c.requires.accepted in
    let is = resumed-opened net valid x ok c.in-Ok.states.items c.due.result.now c.in-Ok-resumed.solo
    c.in-Ok.ensures.value c.due.ensures.value c.in-Ok-resumed.ensures.value in
    let same = last_of-end net valid x ok c.end.result c.last_front-last.result c.last_front-last.ensures.value
    c.end.ensures.value in
    resumed-trace net valid x ok c.in-Ok-resumed.solo is c.last_front-last.result same c.in-Ok-run_on.solo
    c.in-Ok-run_on.ensures.ok

pub returns-in-Ok-run_on-clause-stays : goal.returns-in-Ok-run_on-clause-stays
returns-in-Ok-run_on-clause-stays g c =
    let net = c.args.model.now in
    let valid = c.restore_all.ensures.valid in
    let x = c.args.snapshot.now in
    let ok = c.requires.accepted in
    let is = resumed-opened net valid x ok c.in-Ok.states.items c.due.result.now c.in-Ok-resumed.solo
    c.in-Ok.ensures.value c.due.ensures.value c.in-Ok-resumed.ensures.value in
    let same = last_of-end net valid x ok c.end.result c.last_front-last.result c.last_front-last.ensures.value
    c.end.ensures.value in
    resumed-stays net valid x ok c.in-Ok-resumed.solo is c.last_front-last.result same c.in-Ok-run_on.solo
    c.in-Ok-run_on.ensures.ok c.in-Ok-run_on.ensures.solo

pub returns-in-Err-clause-stops : goal.returns-in-Err-clause-stops
returns-in-Err-clause-stops g c =
    let net = c.args.model.now in
    let valid = c.restore_all.ensures.valid in
    let x = c.args.snapshot.now in
    let ok = c.requires.accepted in
    let is = resumed-opened net valid x ok c.in-Ok.states.items c.due.result.now c.in-Ok-resumed.solo
    c.in-Ok.ensures.value c.due.ensures.value c.in-Ok-resumed.ensures.value in
    let same = last_of-end net valid x ok c.end.result c.last_front-last.result c.last_front-last.ensures.value
    c.end.ensures.value in
    resumed-stops net valid x ok c.in-Ok-resumed.solo is c.last_front-last.result same _ _ c.in-Err.fault
    c.in-Err.ensures.stops
