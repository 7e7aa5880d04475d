-- The result of a run that goes on from a snapshot.
use Rattle.std.proofs.Common.{◌≡◌, ℕ, ◌+◌, arith, sym, ap, subst, ◌∙◌, List, [], ◌∷◌, ◌++◌, length, Result}
use Rattle.std.proofs.Common.{append_assoc}
use Rattle.std.proofs.Common.{codes}
use Rattle.std.specs.List.{flat_map}
use Rattle.trace_report.specs.TraceText.{entry_line}
use Rattle.sim_outer.specs.Views.{SinkView}
use Rattle.net_model.specs.Net.{Net}
use Rattle.solo_run.specs.SoloView.{Entries}
use Rattle.solo_run.specs.declared.turn.SoloFault.TheVariants.{Limit}
use Rattle.world_core.specs.Overs.{most_handled}
use Rattle.checkpoint.specs.Laws.{StaysOnward, StopsOnward}
use Rattle.checkpoint.specs.Snapshots.{SnapshotView, onward, resumed_text}
use Rattle.checkpoint.specs.TraceLines.{lines_text}
use Rattle.trace_writer.specs.Texts.{text_after}
use Rattle.cloner_top.specs.declared.excess.Excess.{Excess}
use Rattle.cloner_top.specs.declared.refusal.Refusal.{Refusal}
use Rattle.cloner_top.specs.Endings.{HasWritten, IsExcessOf, MayGoOn, limit_met_at, limit_met_onward, resumed}
use Rattle.cloner_top.specs.Outsides.{AreDone, IsDone}
use Rattle.cloner_top.proofs.Endings.{put_done}

-- the text that is put is that of the resumed run
put_text_is : (net told : Net) (x : SnapshotView) (who lines : List ℕ) (trace : Entries) → told ≡ net → who ≡ x.who
    → lines ≡ lines_text x.lines → trace ≡ onward net x → text_after told who lines trace ≡ resumed_text net x
put_text_is net told x who lines trace same_net same_who same_lines same_trace =
    ap (λ (n : Net). text_after n who lines trace) same_net
    ∙ ap (λ (w : List ℕ). text_after net w lines trace) same_who
    ∙ ap (λ (l : List ℕ). text_after net x.who l trace) same_lines
    ∙ ap (text_after net x.who (lines_text x.lines)) same_trace
    ∙ sym (append_assoc (codes "clone " ++ x.who ++ codes "\n") (lines_text x.lines)
    (flat_map (entry_line net) (onward net x)))

module _ (net told : Net) (x : SnapshotView) (old_steps new_steps : ℕ) (same : told ≡ net) where
  -- the trace was put, or why not
  pub resumed_done : {T : Type 0} (put_net : Net) (trace put_trace : Entries) (who lines : List ℕ)
      → trace ≡ onward told x → StaysOnward told x → new_steps ≡ old_steps + length trace
      → put_net ≡ net → who ≡ x.who → lines ≡ lines_text x.lines → put_trace ≡ trace
      → (old new : SinkView) (r : Result T Refusal) → AreDone (text_after put_net who lines put_trace ∷ []) old new r
      → IsDone (MayGoOn net x) old_steps new_steps old new r
  resumed_done put_net trace put_trace who lines is stays steps same_net same_who same_lines same_trace old new r h =
      let onward_is : trace ≡ onward net x = is ∙ ap (λ (n : Net). onward n x) same in
      let wrote : HasWritten (MayGoOn net x) old_steps new_steps (resumed_text net x ∷ []) =
      record {
        work = length (onward net x);
        may = resumed (subst (λ (n : Net). StaysOnward n x) same stays);
        steps = steps ∙ ap (λ (l : Entries). old_steps + length l) onward_is;
      } in
      put_done (MayGoOn net x) old_steps new_steps (resumed_text net x ∷ []) old new r wrote
      (subst (λ (t : List ℕ). AreDone (t ∷ []) old new r)
      (put_text_is net put_net x who lines put_trace same_net same_who same_lines (same_trace ∙ onward_is)) h)

  -- the limit is met
  pub resumed_exceeds : (limit_net : Net) (who : List ℕ) (station kept : ℕ) (excess : Excess)
      → StopsOnward told x old_steps new_steps (Limit station kept) → limit_net ≡ net → who ≡ x.who
      → excess ≡ limit_met_at limit_net station who
      → IsExcessOf (MayGoOn net x) old_steps new_steps [] excess
  resumed_exceeds limit_net who station kept excess stopped same_net same_who is =
      let stops : StopsOnward net x old_steps new_steps (Limit station kept) =
      subst (λ (n : Net). StopsOnward n x old_steps new_steps (Limit station kept)) same stopped in
      let excess_is : limit_met_at net station x.who ≡ excess =
      sym (is ∙ ap (λ (n : Net). limit_met_at n station who) same_net ∙ ap (limit_met_at net station) same_who) in
      let bound = stops.2 in
      subst (IsExcessOf (MayGoOn net x) old_steps new_steps []) excess_is (record {
        most = most_handled net 1;
        may = limit_met_onward station (record { is_station = stops.1; first = stops.3 });
        steps = omega (arith, bound);
      })
