-- The result of a study's run.
use Rattle.std.proofs.Common.{◌≡◌, ℕ, zero, suc, ◌+◌, arith, refl, sym, ap, subst, ◌∙◌}
use Rattle.std.proofs.Common.{List, [], ◌∷◌, length, Some, Result}
use Rattle.std.specs.List.{AllByRecursion}
use Rattle.sim_base.specs.Clones.{Clone, clone_at, place_of}
use Rattle.sim_outer.specs.Views.{SinkView}
use Rattle.net_model.specs.Net.{Net}
use Rattle.stations.specs.Runs.{trace_of}
use Rattle.world_core.specs.Overs.{most_handled}
use Rattle.world_core.specs.Worlds.{total_handled}
use Rattle.trace_report.specs.Outputs.{clone_text}
use Rattle.decision_book.specs.Plans.{ArePlanned, IsPlanned}
use Rattle.trace_writer.specs.WorldTraces.{AreShort}
use Rattle.study_run.specs.Faults.{StopsAll, StopsAlone}
use Rattle.study_run.specs.Limits.{AreWithin, IsWithin, MeetsLimit}
use Rattle.command_words.specs.declared.request.Mode.{Mode}
use Rattle.cloner_top.specs.declared.excess.Excess.{Excess}
use Rattle.cloner_top.specs.declared.refusal.Refusal.{Refusal}
use Rattle.cloner_top.specs.Endings.{HasWritten, IsExcessOf, MayRun, MayRunAlone, MaySimulate, fits, limit_met}
use Rattle.cloner_top.specs.Endings.{limit_met_at, over, solo_text, whole, within}
use Rattle.cloner_top.specs.Outsides.{AreDone, IsDone}
use Rattle.cloner_top.proofs.Endings.{put_done}

-- the lists of planned clones are short
pub short_planned : (net : Net) (cs : List Clone) → ArePlanned net cs → AreShort cs
short_planned net cs planned = of_each cs planned.each
  where
    of_each : (cs : List Clone) → AllByRecursion (IsPlanned net) cs → AreShort cs
    of_each [] each k l = absurd (omega (arith, l))
    of_each (c ∷ cs) each zero l = let s = each.0.length_max in omega (arith, s)
    of_each (c ∷ cs) each (suc k) l = of_each cs each.1 k (omega (arith, l))

-- ---- all clones of a world

module _ (texts_of : Net → List Clone → List (List ℕ)) (net told : Net) (cs those : List Clone)
    (old_steps new_steps : ℕ) (same_net : told ≡ net) (same_clones : those ≡ cs) (short : AreWithin net those)
    (steps : new_steps ≡ old_steps + total_handled net those net.horizon) where
  -- no log is beyond the limit, so the texts are those of an ending
  run_wrote : HasWritten (MayRun net cs (MeetsLimit net cs) (texts_of net cs)) old_steps new_steps (texts_of net cs)
  run_wrote = record {
    work = total_handled net cs net.horizon;
    may = within (subst (AreWithin net) same_clones short);
    steps = subst (λ l. new_steps ≡ old_steps + total_handled net l net.horizon) same_clones steps;
  }

  -- they were put, or why not
  pub run_done : {T : Type 0} (old new : SinkView) (r : Result T Refusal) → AreDone (texts_of told those) old new r
      → IsDone (MayRun net cs (MeetsLimit net cs) (texts_of net cs)) old_steps new_steps old new r
  run_done old new r h = put_done (MayRun net cs (MeetsLimit net cs) (texts_of net cs)) old_steps new_steps
      (texts_of net cs) old new r run_wrote (subst (λ t. AreDone t old new r)
      (ap (λ (n : Net). texts_of n those) same_net ∙ ap (texts_of net) same_clones) h)

-- the limit is met in the run of all
pub run_exceeds : (net told : Net) (cs made : List Clone) (texts : List (List ℕ))
    (station who old_steps new_steps : ℕ) (name : List ℕ) (excess : Excess) → made ≡ cs
    → StopsAll net made old_steps new_steps station who → told ≡ net → name ≡ (clone_at cs who).name
    → excess ≡ limit_met_at told station name
    → IsExcessOf (MayRun net cs (MeetsLimit net cs) texts) old_steps new_steps [] excess
run_exceeds net told cs made texts station who old_steps new_steps name excess same stops same_net same_name is =
    let all : StopsAll net cs old_steps new_steps station who =
    subst (λ l. StopsAll net l old_steps new_steps station who) same stops in
    let excess_is : limit_met_at net station (clone_at cs who).name ≡ excess =
    sym (is ∙ (ap (λ (n : Net). limit_met_at n station name) same_net ∙ ap (limit_met_at net station) same_name)) in
    subst (IsExcessOf (MayRun net cs (MeetsLimit net cs) texts) old_steps new_steps []) excess_is
    (record { most = most_handled net (length cs); may = over station who all.meets; steps = all.at_most })

-- ---- one clone

module _ (net told : Net) (cs those : List Clone) (name : List ℕ) (k old_steps new_steps : ℕ) (same_net : told ≡ net)
    (same_clones : those ≡ cs) (found : place_of name cs ≡ Some k) where
  module _ (text : List ℕ) (is : text ≡ clone_text told (clone_at those k))
      (short : IsWithin told (clone_at those k))
      (steps : new_steps ≡ old_steps + length (trace_of told (clone_at those k))) where
    -- no log of the clone is beyond the limit, so its text is that of an ending
    alone_wrote : HasWritten (MayRunAlone net cs name whole (solo_text net)) old_steps new_steps
        (clone_text net (clone_at cs k) ∷ [])
    alone_wrote = record {
      work = length (trace_of net (clone_at cs k));
      may = fits k (clone_text net (clone_at cs k)) found (subst (λ l. IsWithin net (clone_at l k)) same_clones
          (subst (λ (n : Net). IsWithin n (clone_at those k)) same_net short)) refl;
      steps = steps ∙ ap (λ n. old_steps + n) (ap (λ (n : Net). length (trace_of n (clone_at those k))) same_net
          ∙ ap (λ l. length (trace_of net (clone_at l k))) same_clones);
    }

    -- it was put, or why not
    pub alone_done : {T : Type 0} (old new : SinkView) (r : Result T Refusal) → AreDone (text ∷ []) old new r
        → IsDone (MayRunAlone net cs name whole (solo_text net)) old_steps new_steps old new r
    alone_done old new r h = put_done (MayRunAlone net cs name whole (solo_text net)) old_steps new_steps
        (clone_text net (clone_at cs k) ∷ []) old new r alone_wrote (subst (λ t. AreDone (t ∷ []) old new r)
        (is ∙ (ap (λ (n : Net). clone_text n (clone_at those k)) same_net
        ∙ ap (λ l. clone_text net (clone_at l k)) same_clones)) h)

  -- the limit is met in the run of the clone alone
  pub alone_exceeds : (station who : ℕ) (excess : Excess)
      → StopsAlone told (clone_at those k) k old_steps new_steps station who
      → excess ≡ limit_met_at told station name
      → IsExcessOf (MayRunAlone net cs name whole (solo_text net)) old_steps new_steps [] excess
  alone_exceeds station who excess stops is =
      let one : StopsAlone net (clone_at those k) k old_steps new_steps station who =
      subst (λ (n : Net). StopsAlone n (clone_at those k) k old_steps new_steps station who) same_net stops in
      let all : StopsAlone net (clone_at cs k) k old_steps new_steps station who =
      subst (λ l. StopsAlone net (clone_at l k) k old_steps new_steps station who) same_clones one in
      let excess_is : limit_met_at net station name ≡ excess =
      sym (is ∙ ap (λ (n : Net). limit_met_at n station name) same_net) in
      subst (IsExcessOf (MayRunAlone net cs name whole (solo_text net)) old_steps new_steps []) excess_is
      (record { most = most_handled net 1; may = limit_met k station found all.meets; steps = all.at_most })

-- ---- by its mode

-- the result of a simulation in a mode is one in an equal mode
pub done_in_mode : {T : Type 0} (mode its : Mode) (net : Net) (cs : List Clone) (old_steps new_steps : ℕ)
    (old new : SinkView) (r : Result T Refusal) → mode ≡ its
    → IsDone (MaySimulate its net cs) old_steps new_steps old new r
    → IsDone (MaySimulate mode net cs) old_steps new_steps old new r
done_in_mode mode its net cs old_steps new_steps old new r same h =
    subst (λ m. IsDone (MaySimulate m net cs) old_steps new_steps old new r) (sym same) h
