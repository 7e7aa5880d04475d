use Rattle.std.proofs.Common.{◌≡◌, ◌∙◌, ap, sym, subst, map, true}
use Rattle.std.specs.List.{list_all}
use Rattle.sim_base.specs.declared.entry.Line.{Line}
use Rattle.sim_base.specs.declared.message.Msg.{Msg}
use Rattle.run_laws.specs.Machine.{Config}
use Rattle.run_laws.specs.World.{World}
use Rattle.solo_run.specs.SoloView.{Entries}
use Rattle.stations.specs.Handling.{StateView}
use Rattle.checkpoint.specs.Accepted.{IsAccepted}
use Rattle.checkpoint.specs.RunSnapshots.{trace_line}
use Rattle.checkpoint.specs.TraceLines.{is_trace_line}
use Rattle.checkpoint.proofs.RunSnapshots.{run_is_accepted}
use Rattle.checkpoint.proofs.SayableRuns.{lines-sayable}
use Rattle.checkpoint.proofs.SoloSnapshots.{parts-snapshot, run-has_snapshot}
use Rattle.checkpoint.proofs.snapshot.Snapshot.of.Goals as goal

pub print_lines-requires : goal.print_lines-requires
print_lines-requires g c =
    let net = c.args.model.now in
    let at = c.requires.0 in
    record {
      lines = subst (λ (t : Entries). list_all is_trace_line (map (trace_line net) t) ≡ true)
          (sym (c.trace.ensures ∙ ap (λ (k : Config (World StateView Msg Line) Msg). k.at.trace) at.is))
          (lines-sayable net at.solo.valid g.clone c.args.front
          (run-has_snapshot net g.clone c.args.front c.args.solo.now at));
    }

pub returns-clause-value : goal.returns-clause-value
returns-clause-value g c =
    let net = c.args.model.now in
    parts-snapshot net g.clone c.args.front c.args.solo.now c.requires.0 c.args.who c.args.end
    c.in_ok-saved.saved.items c.in_ok-due.due.items c.in_ok-lines.lines c.requires.1.0 c.requires.1.1
    c.in_ok-saved.ensures.value c.in_ok-due.ensures.value
    (c.in_ok-lines.ensures.value ∙ ap (map (trace_line net)) c.trace.ensures) c.from_parts.result
    c.from_parts.ensures.value

pub returns-clause-accepted : goal.returns-clause-accepted
returns-clause-accepted g c =
    let net = c.args.model.now in
    subst (IsAccepted net) (sym (returns-clause-value g c))
    (run_is_accepted net c.requires.0.solo.valid g.clone c.args.front
    (run-has_snapshot net g.clone c.args.front c.args.solo.now c.requires.0))
