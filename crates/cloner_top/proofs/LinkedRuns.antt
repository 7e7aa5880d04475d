-- The result of a study's run in rounds.
use Rattle.std.proofs.Common.{◌≡◌, ℕ, sym, ap, subst, ◌∙◌, List, [], ◌∷◌, ◌++◌, length, Ok}
use Rattle.sim_base.specs.Clones.{Clone, clone_at}
use Rattle.net_model.specs.Net.{Net}
use Rattle.decision_book.specs.Plans.{ArePlanned}
use Rattle.world_core.specs.Overs.{most_handled}
use Rattle.world_core.specs.Worlds.{total_handled}
use Rattle.trace_writer.specs.WorldTraces.{AreShort}
use Rattle.study_run.specs.Limits.{AreWithin}
use Rattle.study_run.specs.Work.{IsFew}
use Rattle.study_run.specs.Linking.{IsLinkedRun, IsOverrun}
use Rattle.study_run.specs.declared.linked_study.LinkedWorld.{LinkedWorld}
use Rattle.cloner_top.specs.declared.excess.Excess.{Excess}
use Rattle.cloner_top.specs.Endings.{HasWritten, IsExcessOf, MayRunLinked, limit_met_at, linked, over_linked}
use Rattle.cloner_top.specs.Endings.{rounds_line}
use Rattle.cloner_top.specs.Endings.{run_texts}
use Rattle.cloner_top.specs.RunTexts.{MayPutRun}
use Rattle.cloner_top.proofs.Runs.{short_planned}

module _ (net : Net) (cs : List Clone) (old_steps new_steps : ℕ) (r : LinkedWorld)
    (run : IsLinkedRun net cs old_steps new_steps (Ok r)) where
  -- its texts are those of an ending
  pub linked_wrote : HasWritten (MayRunLinked net cs) old_steps new_steps
      (run_texts net r.world.clones ++ rounds_line r.rounds ∷ [])
  linked_wrote = subst (λ l. HasWritten (MayRunLinked net cs) old_steps new_steps
      (run_texts net l ++ rounds_line r.rounds ∷ [])) (sym run.clones_are)
      (record {
        work = total_handled net cs net.horizon;
        may = linked r.rounds run.rounds run.rounds_few (subst (AreWithin net) run.clones_are run.within);
        steps = run.steps;
      })

  -- its texts may be put
  pub linked_may_put : (planned : Net) → ArePlanned planned cs → MayPutRun net r.world
  linked_may_put planned plans = record {
    may_report = record { net = run.net_is; ended = run.front };
    length_max = subst AreShort (sym run.clones_are) (short_planned planned cs plans);
  }

-- the limit is met
pub linked_exceeds : (net told : Net) (cs made : List Clone) (station who old_steps new_steps : ℕ) (name : List ℕ)
    (excess : Excess) → made ≡ cs → IsOverrun net cs station who × IsFew net (length cs) old_steps new_steps
    → told ≡ net
    → name ≡ (clone_at made who).name → excess ≡ limit_met_at told station name
    → IsExcessOf (MayRunLinked net cs) old_steps new_steps [] excess
linked_exceeds net told cs made station who old_steps new_steps name excess same stops same_net same_name is =
    let name_is = same_name ∙ ap (λ l. (clone_at l who).name) same in
    let excess_is : limit_met_at net station (clone_at cs who).name ≡ excess =
    sym (is ∙ (ap (λ (n : Net). limit_met_at n station name) same_net ∙ ap (limit_met_at net station) name_is)) in
    subst (IsExcessOf (MayRunLinked net cs) old_steps new_steps []) excess_is (record {
      most = most_handled net (length cs);
      may = over_linked station who stops.0;
      steps = stops.1;
    })
