-- The lines of a clone: those kept of the text before, and those that are put after them.
use Rattle.std.proofs.Common.{◌≡◌, ℕ, zero, suc, ◌-◌, ◌<◌, ◌≤◌, List, [], ◌∷◌, ◌++◌, refl, sym, ap, ◌∙◌, subst}
use Rattle.std.proofs.Common.{arith, length, append-nil, append_assoc}
use Rattle.std.proofs.lemmas.Grind.{flat_map-append}
use Rattle.sim_base.specs.Clones.{Clone, clone_at}
use Rattle.sim_base.specs.declared.message.TheConstants.{WORD_TIMES}
use Rattle.sim_outer.specs.Views.{SinkView}
use Rattle.run_laws.specs.Queue.{In}
use Rattle.net_model.specs.Net.{Net}
use Rattle.net_model.specs.Rules.{IsNet}
use Rattle.stations.specs.Laws.{HasFewNumbers}
use Rattle.stations.specs.Runs.{trace_of}
use Rattle.stations.proofs.GoodLaws.{lawful-stations, stations-to_stations, fresh-stations}
use Rattle.trace_report.specs.TraceText.{entry_line}
use Rattle.world_core.specs.Worlds.{AreInNet}
use Rattle.run_laws.specs.Beginnings.{before, from}
use Rattle.run_laws.proofs.BeginningParts.{before_from}
use Rattle.run_laws.proofs.BeginningTraces.{beginning_is_same}
use Rattle.trace_writer.specs.Words.{entry_word, first_word}
use Rattle.trace_writer.specs.Kept.{lines_before, lines_text, trace_before, HasFirstLines, IsPutTo}
use Rattle.trace_writer.specs.Pages.{IsPast}
use Rattle.trace_writer.specs.Puts.{IsPartPut, IsCutOff}
use Rattle.trace_writer.specs.Texts.{parting_at}
use Rattle.trace_writer.specs.declared.texts.Texts.{Texts}
use Rattle.trace_writer.proofs.Keeping.{agree_before, parting_fits, trace_before-is}
use Rattle.trace_writer.proofs.Logs.{of_trace, trace_rises}
use Rattle.trace_writer.proofs.Marks.{E, before_zero}
use Rattle.trace_writer.proofs.PageLines.{in_middle}
use Rattle.trace_writer.proofs.Puts.{cut_part, rest_cut, taken_then}

-- ---- the beginning that two clones share

module _ (net : Net) (valid : IsNet net) (cs : List Clone) (in_net : AreInNet net cs) (c : ℕ) (there : c < length cs)
    (time : ℕ) (is : time ≡ parting_at net cs c) where
  -- the time fits a word
  pub time_fits : time < WORD_TIMES
  time_fits = by c there is
    where
      by : (k : ℕ) → k < length cs → time ≡ parting_at net cs k → time < WORD_TIMES
      by zero l e = let zero_is : parting_at net cs 0 ≡ 0 = refl in omega (arith, e, zero_is)
      by (suc k) l e = parting_fits net valid cs in_net (suc k) (omega arith) l time e

  -- the lines before each word up to the time's first are those of the clone before
  pub same_lines : (w : ℕ) → w ≤ first_word time
      → lines_before net w (trace_before net cs c) ≡ lines_before net w (trace_of net (clone_at cs c))
  same_lines w l = by c there is
    where
      by : (k : ℕ) → k < length cs → time ≡ parting_at net cs k
          → lines_before net w (trace_before net cs k) ≡ lines_before net w (trace_of net (clone_at cs k))
      by zero m e =
          let none : time ≡ 0 = e in
          let w_is : w ≡ 0 = omega (arith, l, none) in
          ap (λ n. lines_before net n (trace_before net cs 0)) w_is ∙ before_zero net (trace_before net cs 0)
          ∙ sym (ap (λ n. lines_before net n (trace_of net (clone_at cs 0))) w_is
          ∙ before_zero net (trace_of net (clone_at cs 0)))
      by (suc k) m e =
          let agree = agree_before net valid cs in_net (suc k) (omega arith) m time e in
          ap (lines_before net w) (trace_before-is net cs (suc k) (omega arith))
          ∙ ap (lines_text net) (beginning_is_same (lawful-stations net valid) (stations-to_stations net valid)
          (fresh-stations net valid) entry_word (clone_at cs (suc k - 1)) (clone_at cs (suc k)) time w
          (λ (f : E) n. omega (arith, n, l)) agree)

-- ---- the lines of one clone

module _ (net : Net) (valid : IsNet net) (c : Clone) (counted : HasFewNumbers net c net.horizon) (w : ℕ) where
  -- its trace
  abbrev tr : List E
  tr = trace_of net c

  -- the part before a word, and the rest
  parts : tr ≡ before entry_word w tr ++ from entry_word w tr
  parts = before_from entry_word w tr (trace_rises net valid c counted)

  -- the lines of both are all lines
  pub whole : lines_before net w tr ++ lines_text net (from entry_word w tr) ≡ lines_text net tr
  whole = sym (flat_map-append (entry_line net) (before entry_word w tr) (from entry_word w tr))
      ∙ ap (lines_text net) (sym parts)

  -- a text with the lines before the word has the first lines, if the logs have the rest
  pub first_lines : (texts : Texts) → texts.text.items ≡ lines_before net w tr
      → texts.merge.left ≡ from entry_word w tr → HasFirstLines net tr texts
  first_lines texts text_is left = record {
    head = before entry_word w tr;
    parts = parts ∙ ap (λ k. before entry_word w tr ++ k) (sym left);
    text_is = text_is;
  }

  -- nothing of the trace is past the first word of the horizon
  none_past : (head left : List E) → tr ≡ head ++ left → IsPast (first_word net.horizon) left → left ≡ []
  none_past head [] parts past = refl
  none_past head (e ∷ es) parts past =
      let of = of_trace net valid c counted e (subst (λ k. In e k) (sym parts) (in_middle head e es)) in
      let sender = of.fits.sender in
      let number = of.fits.number in
      let early = of.early in
      let on = past.past in
      let at = past.within in
      absurd (omega (arith, sender, number, early, on, at))

  -- all of the rest is put, if none is left before that word
  pub rest_taken : (rest left : List E) (v u : SinkView) → rest ≡ from entry_word w tr → IsPutTo net rest left v u
      → IsPast (first_word net.horizon) left → IsPartPut (lines_text net (from entry_word w tr)) v u
  rest_taken rest left v u is put past =
      let all : tr ≡ (before entry_word w tr ++ put.done) ++ left =
      parts ∙ ap (λ k. before entry_word w tr ++ k) (sym is ∙ put.parts)
      ∙ sym (append_assoc (before entry_word w tr) put.done left) in
      let none = none_past (before entry_word w tr ++ put.done) left all past in
      let done : put.done ≡ from entry_word w tr =
      sym (append-nil put.done) ∙ ap (λ k. put.done ++ k) (sym none) ∙ sym put.parts ∙ is in
      subst (λ k. IsPartPut (lines_text net k) v u) done put.taken

  -- all lines are put: those before the word, and the rest
  pub all_taken : (text : List ℕ) (v0 v1 v2 : SinkView) → text ≡ lines_before net w tr → IsPartPut text v0 v1
      → IsPartPut (lines_text net (from entry_word w tr)) v1 v2 → IsPartPut (lines_text net tr) v0 v2
  all_taken text v0 v1 v2 is a b = subst (λ k. IsPartPut k v0 v2)
      (ap (λ k. k ++ lines_text net (from entry_word w tr)) is ∙ whole)
      (taken_then text (lines_text net (from entry_word w tr)) v0 v1 v2 a b)

  -- those before the word are cut off
  pub head_cut : (text : List ℕ) (v0 v1 : SinkView) → text ≡ lines_before net w tr → IsCutOff text v0 v1
      → IsCutOff (lines_text net tr) v0 v1
  head_cut text v0 v1 is cut = cut_part text (lines_text net (from entry_word w tr)) (lines_text net tr) v0 v1
      (ap (λ k. k ++ lines_text net (from entry_word w tr)) is ∙ whole) cut

  -- the others are cut off
  pub others_cut : (text : List ℕ) (v0 v1 v2 : SinkView) → text ≡ lines_before net w tr → IsPartPut text v0 v1
      → IsCutOff (lines_text net (from entry_word w tr)) v1 v2 → IsCutOff (lines_text net tr) v0 v2
  others_cut text v0 v1 v2 is a cut =
      rest_cut text (lines_text net (from entry_word w tr)) (lines_text net tr)
      (ap (λ k. k ++ lines_text net (from entry_word w tr)) is ∙ whole) v0 v1 v2 a cut
