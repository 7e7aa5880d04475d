-- The texts of a run: each clone's trace text, put from one buffer, and then the report.
use Rattle.std.proofs.Common.{◌≡◌, ◌≤◌, ℕ, refl, sym, ap, subst, ◌∙◌, List, []}
use Rattle.std.proofs.Common.{◌∷◌, ◌++◌, length, map, Result, Ok, Err, IfErr}
use Rattle.sim_base.specs.Clones.{Clone}
use Rattle.sim_outer.specs.Bytes.{IsAppended}
use Rattle.sim_outer.specs.Counts.{AreCounted}
use Rattle.sim_outer.specs.Views.{SinkView}
use Rattle.net_model.specs.Net.{Net}
use Rattle.trace_report.specs.Outputs.{clone_text, clone_texts, report}
use Rattle.trace_writer.specs.Puts.{AreCut}
use Rattle.cloner_top.specs.declared.refusal.Refusal.{Refusal}
use Rattle.cloner_top.specs.declared.refusal.Refusal.TheVariants.{CannotWrite}
use Rattle.cloner_top.specs.Endings.{run_texts}
use Rattle.cloner_top.specs.Outsides.{AreDone, ArePut, IsNotPut}
use Rattle.cloner_top.proofs.Puts.{cut_after, cut_ahead, cut_before, cut_last, cut_then, put_after, put_more, put_then}

-- ---- run_texts, clone_texts
-- the texts of a run by their parts
texts_are : (net : Net) (cs : List Clone) (last : List ℕ) → last ≡ report net cs
    → map (clone_text net) cs ++ last ∷ [] ≡ run_texts net cs
unfolding run_texts
texts_are net cs last is = ap (λ t. map (clone_text net) cs ++ t ∷ []) is

-- the same for equal networks and equal clones
pub run_texts_same : (told net : Net) (those cs : List Clone) → told ≡ net → those ≡ cs
    → run_texts told those ≡ run_texts net cs
run_texts_same told net those cs same_net same_clones = ap (λ (n : Net). run_texts n those) same_net
    ∙ ap (run_texts net) same_clones

-- the trace texts for equal networks and equal clones
same_texts : (told net : Net) (those cs : List Clone) → told ≡ net → those ≡ cs
    → clone_texts told those ≡ clone_texts net cs
same_texts told net those cs same_net same_clones = ap (λ (n : Net). clone_texts n those) same_net
    ∙ ap (clone_texts net) same_clones

-- ---- AreDone, AreCut, of a run
module _ (told net : Net) (those cs : List Clone) (same_net : told ≡ net) (same_clones : those ≡ cs) where
  module _ (last : List ℕ) (last_is : last ≡ report net cs) (old mid new : SinkView)
      (bytes : IsAppended old.bytes (clone_texts told those) mid.bytes)
      (calls : AreCounted (length those) old.calls mid.calls) where
    -- the bytes of the traces, for equal networks and equal clones
    bytes_same : IsAppended old.bytes (clone_texts net cs) mid.bytes
    bytes_same = subst (λ t. IsAppended old.bytes t mid.bytes) (same_texts told net those cs same_net same_clones) bytes

    -- and their calls
    calls_same : AreCounted (length cs) old.calls mid.calls
    calls_same = subst (λ l. AreCounted (length l) old.calls mid.calls) same_clones calls

    -- the traces were put, and then the report, or it was cut off
    pub run_texts_done : {T : Type 0} (r : Result T Refusal) → AreDone (last ∷ []) mid new r
        → IfErr r (λ e. e ≡ CannotWrite) → old.faults ≤ mid.faults → AreDone (run_texts net cs) old new r
    run_texts_done (Ok t) put cause later = subst (λ t. ArePut t old new) (texts_are net cs last last_is)
        (put_more (clone_text net) cs last old mid new bytes_same calls_same put)
    run_texts_done (Err e) cut cause later = subst (λ x. IsNotPut (run_texts net cs) old new x) (sym cause)
        (subst (λ t. AreCut t old new) (texts_are net cs last last_is)
        (cut_last (clone_text net) cs last old mid new bytes_same calls_same later
        (subst (λ x. IsNotPut (last ∷ []) mid new x) cause cut)))

  -- the traces were cut off
  pub traces_cut : (old new : SinkView) → AreCut (map (clone_text told) those) old new
      → AreCut (run_texts net cs) old new
  traces_cut old new cut = subst (λ t. AreCut t old new) (texts_are net cs (report net cs) refl)
      (cut_before (clone_text net) cs (report net cs) old new (subst (λ t. AreCut t old new) same cut))
    where
      same : map (clone_text told) those ≡ map (clone_text net) cs
      same = ap (λ (n : Net). map (clone_text n) those) same_net ∙ ap (map (clone_text net)) same_clones

-- ---- AreDone, of a journal and a run
-- a journal was put, and then the texts of a run
module _ (journal : List ℕ) (told net : Net) (those cs : List Clone) (same_net : told ≡ net) (same_clones : those ≡ cs)
    (old mid new : SinkView) (put : ArePut (journal ∷ []) old mid) (later : old.faults ≤ mid.faults) where
  -- the texts of the run, for equal networks and equal clones
  run_same : run_texts told those ≡ run_texts net cs
  run_same = run_texts_same told net those cs same_net same_clones

  -- the texts of the run were put after the journal, or they were cut off
  pub journal_done : {T : Type 0} (r : Result T Refusal) → AreDone (run_texts told those) mid new r
      → IfErr r (λ e. e ≡ CannotWrite) → AreDone (journal ∷ run_texts net cs) old new r
  journal_done (Ok t) more cause = put_then journal (run_texts net cs) old mid new put
      (subst (λ t. ArePut t mid new) run_same more)
  journal_done (Err e) cut cause = subst (λ x. IsNotPut (journal ∷ run_texts net cs) old new x) (sym cause)
      (cut_then journal (run_texts net cs) old mid new put later
      (subst (λ t. AreCut t mid new) run_same (subst (λ x. IsNotPut (run_texts told those) mid new x) cause cut)))

-- ---- AreDone, of a run and the rounds
-- the texts of a run were put, and then a line
module _ (first : List (List ℕ)) (line : List ℕ) (old mid new : SinkView) (put : ArePut first old mid)
    (later : old.faults ≤ mid.faults) where
  -- the line was put, or cut off
  pub line_done : {T : Type 0} (r : Result T Refusal) → AreDone (line ∷ []) mid new r
      → IfErr r (λ e. e ≡ CannotWrite) → AreDone (first ++ line ∷ []) old new r
  line_done (Ok t) more cause = put_after first (line ∷ []) old mid new put more
  line_done (Err e) cut cause = subst (λ x. IsNotPut (first ++ line ∷ []) old new x) (sym cause)
      (cut_after first (line ∷ []) old mid new put.bytes put.calls later
      (subst (λ x. IsNotPut (line ∷ []) mid new x) cause cut))

-- if the texts of a run were not put, they were not put with a line either
pub run_not_put : (first : List (List ℕ)) (line : List ℕ) (old new : SinkView) (r : Refusal)
    → IsNotPut first old new r → r ≡ CannotWrite → IsNotPut (first ++ line ∷ []) old new r
run_not_put first line old new r h is = subst (IsNotPut (first ++ line ∷ []) old new) (sym is)
    (cut_ahead first (line ∷ []) old new (subst (IsNotPut first old new) is h))
