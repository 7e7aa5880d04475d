-- From texts that were read to the possible endings, and why nothing is prepared.
use Rattle.std.proofs.Common.{◌≡◌, ◌∙◌, ◌≤◌, ℕ, ◌+◌, sym, ap, ap₂, subst, arith, List, [], Option, Some, None}
use Rattle.std.proofs.Common.{Result, Ok, Err}
use Rattle.sim_base.specs.Clones.{Clone}
use Rattle.std.proofs.lemmas.Result.{on_ok_weaker}
use Rattle.sim_outer.specs.Files.{Files}
use Rattle.sim_outer.specs.Views.{InputsView}
use Rattle.net_model.specs.Net.{Net}
use Rattle.net_model.specs.Text.{model}
use Rattle.net_model.specs.declared.fault.ModelFault.{ModelFault}
use Rattle.decision_script.specs.Reading.{script}
use Rattle.decision_script.specs.Stating.{IsScript, ScriptView}
use Rattle.decision_script.specs.declared.fault.ScriptFault.{ScriptFault}
use Rattle.decision_book.specs.Books.{BookView}
use Rattle.decision_book.specs.Journal.{after}
use Rattle.decision_book.specs.declared.call.Reply.{Reply}
use Rattle.study_run.specs.Accepted.{IsAcceptedJournal}
use Rattle.command_words.specs.declared.request.Mode.{Mode}
use Rattle.watch_points.specs.Checking.{fit}
use Rattle.watch_points.specs.Reading.{watches}
use Rattle.watch_points.specs.declared.fault.WatchFault.{WatchFault}
use Rattle.watch_points.specs.declared.watch.Watch as watch
use Rattle.checkpoint.specs.Snapshots.{SnapshotView}
use Rattle.snapshot_text.specs.Reading.{snapshot}
use Rattle.snapshot_text.specs.declared.fault.SnapshotFault.{SnapshotFault}
use Rattle.study_run.specs.SayableRuns.{AreSayable}
use Rattle.study_run.proofs.Sayable.{scripts_are_sayable}
use Rattle.command_words.specs.Requests.{AssignmentView, FileNames, Live, Number, Resume, SourceView, Study, Watch}
use Rattle.cloner_top.specs.declared.refusal.Refusal.{Refusal}
use Rattle.cloner_top.specs.declared.refusal.Refusal.TheVariants.{OutOfMemory, Usage, NotRead}
use Rattle.cloner_top.specs.declared.refusal.Refusal.TheVariants.{Stopped, Exceeded, CannotWrite}
use Rattle.cloner_top.specs.declared.refusal.Text.{Text}
use Rattle.cloner_top.specs.declared.refusal.Text.TheVariants.{Model, Script, Snapshot, Watches}
use Rattle.cloner_top.specs.declared.stop.Stop.{Stop}
use Rattle.cloner_top.specs.declared.stop.Stop.TheVariants.{BadModel, BadScript, BadDecision, BadWatch, BadWatches}
use Rattle.cloner_top.specs.declared.stop.Stop.TheVariants.{BadSnapshot, NoClone}
use Rattle.cloner_top.specs.Answers.{IsLawfulEnding}
use Rattle.cloner_top.specs.Deciding.{IsDecided, IsRefusal, clones_of, clones_of_book, first_refused}
use Rattle.cloner_top.specs.Endings.{Ending, MayEnd, MayGoOn, MayLive, MayResume, MayRunWatched}
use Rattle.cloner_top.specs.Endings.{MaySimulate, MayStudy, MayWatch, early_stop}
use Rattle.cloner_top.specs.Endings as ends
use Rattle.cloner_top.specs.Fetches.{HasFetched, HasFetchedUpTo}
use Rattle.cloner_top.specs.Prepared.{IsNotPrepared}
use Rattle.cloner_top.specs.Reading.{IsBadModel, IsBadScript, IsBadSnapshot, IsBadWatch, IsBadWatches, IsModelOf}
use Rattle.cloner_top.specs.Reading.{IsNoScriptOf, IsNotFetched, IsScriptOf, IsUnscripted}
use Rattle.cloner_top.specs.Refusals.{IsMemoryOrStop}
use Rattle.cloner_top.specs.Texts.{AreTexts, IsDue, IsText, IsTextOf, IsUnread, fetches_of, known_from}
use Rattle.cloner_top.specs.Texts.{later_fetches}
use Rattle.cloner_top.specs.Texts.{origin_of, study_origin}
use Rattle.cloner_top.proofs.Endings.{if_ok}
use Rattle.cloner_top.proofs.Puts.{counted_both}

-- ---- the texts of an assignment

-- the four texts
abbrev texts_of : List ℕ → List ℕ → List ℕ → List ℕ → Text → List ℕ
texts_of m s w x Model = m
texts_of m s w x Script = s
texts_of m s w x Watches = w
texts_of m s w x Snapshot = x

-- a study has no watches
no_watches : (source : SourceView) (files : Option Files) → IsText (known_from (study_origin source Watches) files) []
no_watches (FileNames m s) files = tt
no_watches (Number n) files = tt

-- and no snapshot
no_snapshot : (source : SourceView) (files : Option Files)
    → IsText (known_from (study_origin source Snapshot) files) []
no_snapshot (FileNames m s) files = tt
no_snapshot (Number n) files = tt

-- a result is not both Ok and Err
ok_err : {A B : Type 0} (r : Result A B) (a : A) (b : B) → r ≡ Ok a → r ≡ Err b → ⊥
ok_err r a b h k = let e = sym h ∙ k in cc

-- a result has one value
same_ok : {A B : Type 0} (r : Result A B) (x y : A) → r ≡ Ok x → r ≡ Ok y → x ≡ y
same_ok r x y h k = let e = sym h ∙ k in cc

module _ (files : Option Files) (a : AssignmentView) (m : List ℕ) (m_is : IsTextOf a files Model m) where
  -- the model's text breaks a rule
  model_refused : (fault : ModelFault) → model m ≡ Err fault → IsLawfulEnding files a (early_stop (BadModel fault))
  model_refused fault bad = record {
    t = texts_of m [] [] [];
    texts = record {
      model_is = m_is;
      script_is = λ net is. absurd (ok_err (model m) net fault is bad);
      snapshot_is = λ net is. absurd (ok_err (model m) net fault is bad);
      watches_is = λ net stated is script_is none. absurd (ok_err (model m) net fault is bad);
    };
    may = ends.bad_model fault bad;
  }

  -- all texts
  all_texts : (s w x : List ℕ) → IsTextOf a files Script s → IsTextOf a files Watches w → IsTextOf a files Snapshot x
      → AreTexts a files (texts_of m s w x)
  all_texts s w x s_is w_is x_is = record {
    model_is = m_is;
    script_is = λ net is. s_is;
    snapshot_is = λ net is. x_is;
    watches_is = λ net stated is script_is none. w_is;
  }

module _ (files : Option Files) (source : SourceView) (mode : Mode) (m s : List ℕ) (net : Net)
    (m_is : IsTextOf (Study source mode) files Model m) (is_model : model m ≡ Ok net)
    (s_is : IsTextOf (Study source mode) files Script s) where
  -- an ending of the study of these texts is one of the assignment
  study_ends : (end : Ending) → MayStudy (MayEnd mode net) s end → IsLawfulEnding files (Study source mode) end
  study_ends end may = record {
    t = texts_of m s [] [];
    texts = all_texts files (Study source mode) m m_is s [] [] s_is (no_watches source files)
        (no_snapshot source files);
    may = ends.read net end is_model may;
  }

  -- an ending of the simulation of its plan is one as well
  plan_ends : (stated : ScriptView) (book : BookView) (told : Net) → script s ≡ Ok stated → told ≡ net
      → IsDecided net stated book → (end : Ending) → MaySimulate mode told (clones_of_book book) end
      → IsLawfulEnding files (Study source mode) end
  plan_ends stated book told is_script same decided end may =
      study_ends end (ends.study stated end is_script (ends.simulation end decided.none
      (subst (λ cs. MaySimulate mode net cs end)
      (ap (λ n. (after n book.events).clones) decided.net_is ∙ decided.clones)
      (subst (λ n. MaySimulate mode n (clones_of_book book) end) same may))))

module _ (files : Option Files) (mn sn m s : List ℕ) (net : Net) (m_is : IsTextOf (Live mn sn) files Model m)
    (is_model : model m ≡ Ok net) (s_is : IsTextOf (Live mn sn) files Script s) where
  -- an ending of a live study of these texts is one of the assignment
  live_ends : (end : Ending) → MayStudy (MayLive net) s end → IsLawfulEnding files (Live mn sn) end
  live_ends end may = record {
    t = texts_of m s [] [];
    texts = all_texts files (Live mn sn) m m_is s [] [] s_is tt tt;
    may = ends.read net end is_model may;
  }

module _ (files : Option Files) (mn sn wn m s : List ℕ) (net : Net) (m_is : IsTextOf (Watch mn sn wn) files Model m)
    (is_model : model m ≡ Ok net) (s_is : IsTextOf (Watch mn sn wn) files Script s) where
  -- a study with watches whose script breaks a rule
  watch_no_script : (fault : ScriptFault) → script s ≡ Err fault
      → IsLawfulEnding files (Watch mn sn wn) (early_stop (BadScript fault))
  watch_no_script fault bad = record {
    t = texts_of m s [] [];
    texts = record {
      model_is = m_is;
      script_is = λ n is. s_is;
      snapshot_is = λ n is. tt;
      watches_is = λ n st is script_is none. absurd (ok_err (script s) st fault script_is bad);
    };
    may = ends.read net _ is_model (ends.bad_script fault bad);
  }

  -- a study with watches that has a refused decision
  watch_refused : (stated : ScriptView) → script s ≡ Ok stated → (reply : Reply) (line : ℕ)
      → first_refused net stated ≡ Some (reply, line)
      → IsLawfulEnding files (Watch mn sn wn) (early_stop (BadDecision reply line))
  watch_refused stated is_script reply line bad = record {
    t = texts_of m s [] [];
    texts = record {
      model_is = m_is;
      script_is = λ n is. s_is;
      snapshot_is = λ n is. tt;
      watches_is = λ n st is script_is none.
          let same = ap₂ first_refused (same_ok (model m) net n is_model is)
          (same_ok (script s) stated st is_script script_is) in
          let both = sym bad ∙ (same ∙ none) in absurd cc;
    };
    may = ends.read net _ is_model (ends.study stated _ is_script (ends.refused_decision reply line bad));
  }

  module _ (w : List ℕ) (stated : ScriptView) (is_script : script s ≡ Ok stated)
      (accepted : first_refused net stated ≡ None) (w_is : IsTextOf (Watch mn sn wn) files Watches w) where
    -- an ending of a study with these watches is one of the assignment
    watch_ends : (end : Ending) → MayWatch w net (clones_of net stated) end → IsLawfulEnding files (Watch mn sn wn) end
    watch_ends end may = record {
      t = texts_of m s w [];
      texts = all_texts files (Watch mn sn wn) m m_is s w [] s_is w_is tt;
      may = ends.read net end is_model (ends.study stated end is_script (ends.simulation end accepted may));
    }

-- an ending of a run from a snapshot with this text is one of the assignment
resume_ends : (files : Option Files) (mn xn m x : List ℕ) (net : Net) → IsTextOf (Resume mn xn) files Model m
    → model m ≡ Ok net → IsTextOf (Resume mn xn) files Snapshot x → (end : Ending) → MayResume x net end
    → IsLawfulEnding files (Resume mn xn) end
resume_ends files mn xn m x net m_is is_model x_is end may = record {
  t = texts_of m [] [] x;
  texts = all_texts files (Resume mn xn) m m_is [] [] x tt tt x_is;
  may = ends.read net end is_model may;
}

-- ---- fetches

-- fetches, and then others
fetched_both : (n m : ℕ) (before mid after : InputsView) → HasFetched n before mid → HasFetched m mid after
    → HasFetched (n + m) before after
fetched_both n m before mid after h k = record {
  later = let one = h.later in let two = k.later in omega (arith, one, two);
  same = k.same ∙ h.same;
  counted = counted_both n m before.calls mid.calls after.calls h.counted k.counted;
}

-- fetches, and then at most a number of others
pub fetched_then : {T E : Type 0} (n m : ℕ) (before mid after : InputsView) (result : Result T E)
    → HasFetched n before mid → HasFetchedUpTo m mid after result → HasFetchedUpTo (n + m) before after result
fetched_then n m before mid after result h k =
    let most : n + k.at_most.0 ≤ n + m = let l = k.at_most.1.0 in omega (arith, l) in record {
      later = let one = h.later in let two = k.later in omega (arith, one, two);
      same = k.same ∙ h.same;
      all = on_ok_weaker result (counted_both n m before.calls mid.calls after.calls h.counted) k.all;
      at_most = (
        n + k.at_most.0,
        (most, counted_both n k.at_most.0 before.calls mid.calls after.calls h.counted k.at_most.1.1),
      );
    }

-- all texts were fetched, whatever the result
fetched_all : {T E : Type 0} (n : ℕ) (before after : InputsView) (result : Result T E) → HasFetched n before after
    → HasFetchedUpTo n before after result
fetched_all n before after result h = let most : n ≤ n = omega arith in record {
  later = h.later;
  same = h.same;
  all = if_ok result h.counted;
  at_most = (n, (most, h.counted));
}

-- the fetches of two are at most those of all three
pub fetched_two : {T E : Type 0} (n m l : ℕ) (before mid after : InputsView) (e : E) → HasFetched n before mid
    → HasFetched m mid after → HasFetchedUpTo {T = T} {E = E} (n + (m + l)) before after (Err e)
fetched_two n m l before mid after e h k = let both = fetched_both n m before mid after h k in
    let most : n + m ≤ n + (m + l) = omega arith in record {
      later = both.later;
      same = both.same;
      all = tt;
      at_most = (n + m, (most, both.counted));
    }

-- a study with watches fetches the script and the watches after the model
pub watch_fetched : {T E : Type 0} (a : AssignmentView)
    → (mn : List ℕ) × ((sn : List ℕ) × ((wn : List ℕ) × (a ≡ Watch mn sn wn)))
    → (before mid after : InputsView) (result : Result T E) → HasFetched (fetches_of (origin_of a Script)) before mid
    → HasFetched (fetches_of (origin_of a Watches)) mid after
    → HasFetchedUpTo (later_fetches a) before after result
watch_fetched a is before mid after result h k =
    subst (λ x. HasFetched (fetches_of (origin_of x Script)) before mid
    → HasFetched (fetches_of (origin_of x Watches)) mid after → HasFetchedUpTo (later_fetches x) before after result)
    (sym is.1.1.1) (λ one two. fetched_all 2 before after result (fetched_both 1 1 before mid after one two)) h k

-- ---- why nothing is prepared

-- out of memory, or a stop for a cause
pub stopped_by : (rose : Type 0) (files : Option Files) (a : AssignmentView) (P : Stop → Type 0) (r : Refusal)
    → ((stop : Stop) → P stop → IsLawfulEnding files a (early_stop stop)) → IsMemoryOrStop P r
    → IsNotPrepared rose files a r
stopped_by rose files a P OutOfMemory each h = tt
stopped_by rose files a P Usage each h = absurd h
stopped_by rose files a P (NotRead text) each h = absurd h
stopped_by rose files a P (Stopped stop) each h = each stop h
stopped_by rose files a P (Exceeded e) each h = absurd h
stopped_by rose files a P CannotWrite each h = absurd h

-- a required text was not fetched
unfetched : (rose : Type 0) (files : Option Files) (a : AssignmentView) (text : Text) (r : Refusal)
    → IsDue a files text → IsNotFetched rose a files text r → IsNotPrepared rose files a r
unfetched rose files a text OutOfMemory due h = tt
unfetched rose files a text Usage due h = absurd h
unfetched rose files a text (NotRead which) due h =
    subst (λ t. IsDue a files t × IsUnread rose a files t) (sym h.0) (due, h.1)
unfetched rose files a text (Stopped stop) due h = absurd h
unfetched rose files a text (Exceeded e) due h = absurd h
unfetched rose files a text CannotWrite due h = absurd h

-- the model's text was not fetched
pub no_model_text : (rose : Type 0) (files : Option Files) (a : AssignmentView) (r : Refusal)
    → IsNotFetched rose a files Model r → IsNotPrepared rose files a r
no_model_text rose files a r h = unfetched rose files a Model r tt h

-- the model's text breaks a rule
pub bad_model : (files : Option Files) (a : AssignmentView) (m : List ℕ) → IsTextOf a files Model m → (stop : Stop)
    → IsBadModel m stop → IsLawfulEnding files a (early_stop stop)
bad_model files a m text (BadModel fault) h = model_refused files a m text fault h
bad_model files a m text (BadScript fault) h = absurd h
bad_model files a m text (BadDecision reply line) h = absurd h
bad_model files a m text (NoClone name) h = absurd h
bad_model files a m text (BadWatches fault) h = absurd h
bad_model files a m text (BadWatch reply line) h = absurd h
bad_model files a m text (BadSnapshot fault) h = absurd h

-- the script's text was not fetched
pub no_script_text : (rose : Type 0) (files : Option Files) (a : AssignmentView) (r : Refusal)
    → IsNotFetched rose a files Script r → IsUnscripted rose a files r
no_script_text rose files a OutOfMemory h = tt
no_script_text rose files a Usage h = absurd h
no_script_text rose files a (NotRead which) h = h
no_script_text rose files a (Stopped stop) h = absurd h
no_script_text rose files a (Exceeded e) h = absurd h
no_script_text rose files a CannotWrite h = absurd h

-- the script's text breaks a rule
pub bad_script_text : (rose : Type 0) (files : Option Files) (a : AssignmentView) (s : List ℕ) (r : Refusal)
    → IsTextOf a files Script s → IsMemoryOrStop (IsBadScript s) r → IsUnscripted rose a files r
bad_script_text rose files a s OutOfMemory text h = tt
bad_script_text rose files a s Usage text h = absurd h
bad_script_text rose files a s (NotRead which) text h = absurd h
bad_script_text rose files a s (Stopped stop) text h = record { s = s; text = text; is_bad = h }
bad_script_text rose files a s (Exceeded e) text h = absurd h
bad_script_text rose files a s CannotWrite text h = absurd h

-- the stop of a refused script
by_script : (Q : Stop → Type 0) (s : List ℕ) (stop : Stop) → IsBadScript s stop
    → ((fault : ScriptFault) → script s ≡ Err fault → Q (BadScript fault)) → Q stop
by_script Q s (BadModel fault) h each = absurd h
by_script Q s (BadScript fault) h each = each fault h
by_script Q s (BadDecision reply line) h each = absurd h
by_script Q s (NoClone name) h each = absurd h
by_script Q s (BadWatches fault) h each = absurd h
by_script Q s (BadWatch reply line) h each = absurd h
by_script Q s (BadSnapshot fault) h each = absurd h

-- the stop of a refused decision
by_decision : (Q : Stop → Type 0) (net : Net) (st : ScriptView) (stop : Stop) → IsRefusal net st stop
    → ((reply : Reply) (line : ℕ) → first_refused net st ≡ Some (reply, line) → Q (BadDecision reply line)) → Q stop
by_decision Q net st (BadModel fault) h each = absurd h
by_decision Q net st (BadScript fault) h each = absurd h
by_decision Q net st (BadDecision reply line) h each = each reply line h
by_decision Q net st (NoClone name) h each = absurd h
by_decision Q net st (BadWatches fault) h each = absurd h
by_decision Q net st (BadWatch reply line) h each = absurd h
by_decision Q net st (BadSnapshot fault) h each = absurd h

-- the stop of a refused text of watches
by_watches : (Q : Stop → Type 0) (w : List ℕ) (stop : Stop) → IsBadWatches w stop
    → ((fault : WatchFault) → watches w ≡ Err fault → Q (BadWatches fault)) → Q stop
by_watches Q w (BadModel fault) h each = absurd h
by_watches Q w (BadScript fault) h each = absurd h
by_watches Q w (BadDecision reply line) h each = absurd h
by_watches Q w (NoClone name) h each = absurd h
by_watches Q w (BadWatches fault) h each = each fault h
by_watches Q w (BadWatch reply line) h each = absurd h
by_watches Q w (BadSnapshot fault) h each = absurd h

-- the stop of a watch that does not fit
by_watch : (Q : Stop → Type 0) (net : Net) (cs : List Clone) (ws : List watch.Watch) (stop : Stop)
    → IsBadWatch net cs ws stop
    → ((reply : Reply) (line : ℕ) → fit net cs ws ≡ Err (record { line = line; reply = reply })
    → Q (BadWatch reply line)) → Q stop
by_watch Q net cs ws (BadModel fault) h each = absurd h
by_watch Q net cs ws (BadScript fault) h each = absurd h
by_watch Q net cs ws (BadDecision reply line) h each = absurd h
by_watch Q net cs ws (NoClone name) h each = absurd h
by_watch Q net cs ws (BadWatches fault) h each = absurd h
by_watch Q net cs ws (BadWatch reply line) h each = each reply line h
by_watch Q net cs ws (BadSnapshot fault) h each = absurd h

-- the stop of a refused snapshot
by_snapshot : (Q : Stop → Type 0) (net : Net) (x : List ℕ) (stop : Stop) → IsBadSnapshot net x stop
    → ((fault : SnapshotFault) → snapshot net x ≡ Err fault → Q (BadSnapshot fault)) → Q stop
by_snapshot Q net x (BadModel fault) h each = absurd h
by_snapshot Q net x (BadScript fault) h each = absurd h
by_snapshot Q net x (BadDecision reply line) h each = absurd h
by_snapshot Q net x (NoClone name) h each = absurd h
by_snapshot Q net x (BadWatches fault) h each = absurd h
by_snapshot Q net x (BadWatch reply line) h each = absurd h
by_snapshot Q net x (BadSnapshot fault) h each = each fault h

module _ (rose : Type 0) (files : Option Files) (a : AssignmentView) (net : Net) (m : IsModelOf a files net) where
  -- there is no script, if each stop of its text ends the assignment
  no_script : ((stop : Stop) → IsNoScriptOf a files stop → IsLawfulEnding files a (early_stop stop)) → (r : Refusal)
      → IsUnscripted rose a files r → IsNotPrepared rose files a r
  no_script each OutOfMemory h = tt
  no_script each Usage h = absurd h
  no_script each (NotRead text) h = subst (λ t. IsDue a files t × IsUnread rose a files t) (sym h.0)
      (record { m = m.m; net = net; text = m.text; is_model = m.is_model }, h.1)
  no_script each (Stopped stop) h = each stop h
  no_script each (Exceeded e) h = absurd h
  no_script each CannotWrite h = absurd h

-- ---- a study whose decisions are all made first

-- all decisions of its book were accepted in its network
pub plan_accepted : (net : Net) (stated : ScriptView) (book : BookView) → IsDecided net stated book
    → IsAcceptedJournal book.net book.events
plan_accepted net stated book is = subst (λ n. IsAcceptedJournal n book.events) (sym is.net_is) is.accepted

-- and words can say its clones
pub plan_ready : (net : Net) (stated : ScriptView) (book : BookView) → IsScript stated → IsDecided net stated book
    → IsAcceptedJournal book.net book.events × AreSayable (clones_of_book book)
plan_ready net stated book valid is = (
  plan_accepted net stated book is,
  subst AreSayable (sym (ap (λ n. (after n book.events).clones) is.net_is
      ∙ is.clones)) (scripts_are_sayable net stated valid),
)

-- the network of its book is that of its model
pub plan_net : (net told : Net) (stated : ScriptView) (book : BookView) → told ≡ net → IsDecided net stated book
    → book.net ≡ told
plan_net net told stated book same is = is.net_is ∙ sym same

module _ (rose : Type 0) (files : Option Files) (source : SourceView) (mode : Mode) (net : Net)
    (m : IsModelOf (Study source mode) files net) where
  -- the study has no script
  study_unscripted : (r : Refusal) → IsUnscripted rose (Study source mode) files r
      → IsNotPrepared rose files (Study source mode) r
  study_unscripted r h = no_script rose files (Study source mode) net m (λ stop bad.
      by_script (λ x. IsLawfulEnding files (Study source mode) (early_stop x)) bad.s stop bad.is_bad
      (λ fault is. study_ends files source mode m.m bad.s net m.text m.is_model bad.text _ (ends.bad_script fault is)))
      r h

  -- or one of its decisions is refused
  study_refused : (stated : ScriptView) → IsScriptOf (Study source mode) files stated → (r : Refusal)
      → IsMemoryOrStop (IsRefusal net stated) r → IsNotPrepared rose files (Study source mode) r
  study_refused stated s r h = stopped_by rose files (Study source mode) (IsRefusal net stated) r (λ stop bad.
      by_decision (λ x. IsLawfulEnding files (Study source mode) (early_stop x)) net stated stop bad
      (λ reply line is. study_ends files source mode m.m s.s net m.text m.is_model s.text _
      (ends.study stated _ s.is_script (ends.refused_decision reply line is)))) h

-- the same for an assignment that is such a study
module _ (rose : Type 0) (files : Option Files) (a : AssignmentView) (mode : Mode) (net : Net)
    (is : (source : SourceView) × (a ≡ Study source mode)) (m : IsModelOf a files net) where
  pub no_study : (r : Refusal) → IsUnscripted rose a files r → IsNotPrepared rose files a r
  no_study = subst (λ x. IsModelOf x files net → (r : Refusal) → IsUnscripted rose x files r
      → IsNotPrepared rose files x r) (sym is.1) (λ mm r h. study_unscripted rose files is.0 mode net mm r h) m

  -- a decision is refused
  pub no_decisions : (stated : ScriptView) → IsScriptOf a files stated → (r : Refusal)
      → IsMemoryOrStop (IsRefusal net stated) r → IsNotPrepared rose files a r
  no_decisions stated s = subst (λ x. IsModelOf x files net → IsScriptOf x files stated → (r : Refusal)
      → IsMemoryOrStop (IsRefusal net stated) r → IsNotPrepared rose files x r) (sym is.1)
      (λ mm ss r h. study_refused rose files is.0 mode net mm stated ss r h) m s

  -- all are accepted
  pub decided_ready : (stated : ScriptView) → IsScriptOf a files stated → (book : BookView) (told : Net)
      → told ≡ net → IsDecided net stated book → (end : Ending) → MaySimulate mode told (clones_of_book book) end
      → IsLawfulEnding files a end
  decided_ready stated s book told same decided = subst (λ x. IsModelOf x files net → IsScriptOf x files stated
      → (end : Ending) → MaySimulate mode told (clones_of_book book) end → IsLawfulEnding files x end) (sym is.1)
      (λ mm ss. plan_ends files is.0 mode mm.m ss.s net mm.text mm.is_model ss.text stated book told ss.is_script same
      decided) m s

-- ---- a live study

module _ (rose : Type 0) (files : Option Files) (a : AssignmentView) (net : Net)
    (is : (mn : List ℕ) × ((sn : List ℕ) × (a ≡ Live mn sn))) (m : IsModelOf a files net) where
  -- it has no script
  pub no_live : (r : Refusal) → IsUnscripted rose a files r → IsNotPrepared rose files a r
  no_live = subst (λ x. IsModelOf x files net → (r : Refusal) → IsUnscripted rose x files r
      → IsNotPrepared rose files x r) (sym is.1.1)
      (λ mm r h. no_script rose files (Live is.0 is.1.0) net mm (λ stop bad.
      by_script (λ x. IsLawfulEnding files (Live is.0 is.1.0) (early_stop x)) bad.s stop bad.is_bad
      (λ fault e. live_ends files is.0 is.1.0 mm.m bad.s net mm.text mm.is_model bad.text _ (ends.bad_script fault e)))
      r h) m

  -- its script was read
  pub live_ready : (stated : ScriptView) → IsScriptOf a files stated → (end : Ending) → MayLive net stated end
      → IsLawfulEnding files a end
  live_ready stated s = subst (λ x. IsModelOf x files net → IsScriptOf x files stated → (end : Ending)
      → MayLive net stated end → IsLawfulEnding files x end) (sym is.1.1)
      (λ mm ss end may. live_ends files is.0 is.1.0 mm.m ss.s net mm.text mm.is_model ss.text end
      (ends.study stated end ss.is_script may)) m s

-- ---- a study with watches

module _ (rose : Type 0) (files : Option Files) (mn sn wn : List ℕ) (net : Net)
    (m : IsModelOf (Watch mn sn wn) files net) where
  -- it has no script
  watch_unscripted : (r : Refusal) → IsUnscripted rose (Watch mn sn wn) files r
      → IsNotPrepared rose files (Watch mn sn wn) r
  watch_unscripted r h = no_script rose files (Watch mn sn wn) net m (λ stop bad.
      by_script (λ x. IsLawfulEnding files (Watch mn sn wn) (early_stop x)) bad.s stop bad.is_bad
      (λ fault is. watch_no_script files mn sn wn m.m bad.s net m.text m.is_model bad.text fault is)) r h

  module _ (stated : ScriptView) (s : IsScriptOf (Watch mn sn wn) files stated) where
    -- one of its decisions is refused
    watch_undecided : (r : Refusal) → IsMemoryOrStop (IsRefusal net stated) r
        → IsNotPrepared rose files (Watch mn sn wn) r
    watch_undecided r h = stopped_by rose files (Watch mn sn wn) (IsRefusal net stated) r (λ stop bad.
        by_decision (λ x. IsLawfulEnding files (Watch mn sn wn) (early_stop x)) net stated stop bad
        (λ reply line is. watch_refused files mn sn wn m.m s.s net m.text m.is_model s.text stated s.is_script reply
        line is)) h

    module _ (book : BookView) (decided : IsDecided net stated book) where
      -- the clones of its book are those of its script
      book_clones : clones_of_book book ≡ clones_of net stated
      book_clones = ap (λ n. (after n book.events).clones) decided.net_is ∙ decided.clones

      -- the text of its watches was not fetched
      watch_unfetched : (r : Refusal) → IsNotFetched rose (Watch mn sn wn) files Watches r
          → IsNotPrepared rose files (Watch mn sn wn) r
      watch_unfetched r h = unfetched rose files (Watch mn sn wn) Watches r (record {
        m = m.m;
        s = s.s;
        net = net;
        stated = stated;
        model_text = m.text;
        is_model = m.is_model;
        script_text = s.text;
        is_script = s.is_script;
        accepted = decided.none;
      }) h

      module _ (w : List ℕ) (w_is : IsTextOf (Watch mn sn wn) files Watches w) where
        -- how a study with these watches ends
        ends_with : (end : Ending) → MayWatch w net (clones_of net stated) end
            → IsLawfulEnding files (Watch mn sn wn) end
        ends_with = watch_ends files mn sn wn m.m s.s net m.text m.is_model s.text w stated s.is_script decided.none
            w_is

        -- the text breaks a rule
        watch_unread : (r : Refusal) → IsMemoryOrStop (IsBadWatches w) r
            → IsNotPrepared rose files (Watch mn sn wn) r
        watch_unread r h = stopped_by rose files (Watch mn sn wn) (IsBadWatches w) r (λ stop bad.
            by_watches (λ x. IsLawfulEnding files (Watch mn sn wn) (early_stop x)) w stop bad
            (λ fault is. ends_with _ (ends.bad_watches fault is))) h

        module _ (ws : List watch.Watch) (are : watches w ≡ Ok ws) where
          -- a watch does not fit
          watch_unfit : (r : Refusal) → IsMemoryOrStop (IsBadWatch net (clones_of_book book) ws) r
              → IsNotPrepared rose files (Watch mn sn wn) r
          watch_unfit r h = stopped_by rose files (Watch mn sn wn) (IsBadWatch net (clones_of_book book) ws) r
              (λ stop bad. by_watch (λ x. IsLawfulEnding files (Watch mn sn wn) (early_stop x)) net
              (clones_of_book book) ws stop bad (λ reply line is. ends_with _ (ends.bad_watch ws reply line are
              (subst (λ cs. fit net cs ws ≡ Err (record { line = line; reply = reply })) book_clones is)))) h

          -- all fit
          watch_fits : fit net (clones_of_book book) ws ≡ Ok tt → (end : Ending)
              → MayRunWatched net (clones_of_book book) ws end → IsLawfulEnding files (Watch mn sn wn) end
          watch_fits fits end may = ends_with end (ends.watched ws end are
              (subst (λ cs. fit net cs ws ≡ Ok tt) book_clones fits)
              (subst (λ cs. MayRunWatched net cs ws end) book_clones may))

-- the same for an assignment that is such a study
module _ (rose : Type 0) (files : Option Files) (a : AssignmentView) (net : Net)
    (is : (mn : List ℕ) × ((sn : List ℕ) × ((wn : List ℕ) × (a ≡ Watch mn sn wn)))) (m : IsModelOf a files net) where
  pub no_watch_script : (r : Refusal) → IsUnscripted rose a files r → IsNotPrepared rose files a r
  no_watch_script = subst (λ x. IsModelOf x files net → (r : Refusal) → IsUnscripted rose x files r
      → IsNotPrepared rose files x r) (sym is.1.1.1)
      (λ mm r h. watch_unscripted rose files is.0 is.1.0 is.1.1.0 net mm r h) m

  module _ (stated : ScriptView) (s : IsScriptOf a files stated) where
    -- a decision is refused
    pub no_watch_decisions : (r : Refusal) → IsMemoryOrStop (IsRefusal net stated) r → IsNotPrepared rose files a r
    no_watch_decisions = subst (λ x. IsModelOf x files net → IsScriptOf x files stated → (r : Refusal)
        → IsMemoryOrStop (IsRefusal net stated) r → IsNotPrepared rose files x r) (sym is.1.1.1)
        (λ mm ss r h. watch_undecided rose files is.0 is.1.0 is.1.1.0 net mm stated ss r h) m s

    module _ (book : BookView) (decided : IsDecided net stated book) where
      -- the text of the watches was not fetched
      pub no_watch_text : (r : Refusal) → IsNotFetched rose a files Watches r → IsNotPrepared rose files a r
      no_watch_text = subst (λ x. IsModelOf x files net → IsScriptOf x files stated → (r : Refusal)
          → IsNotFetched rose x files Watches r → IsNotPrepared rose files x r) (sym is.1.1.1)
          (λ mm ss r h. watch_unfetched rose files is.0 is.1.0 is.1.1.0 net mm stated ss book decided r h) m s

      module _ (w : List ℕ) (w_is : IsTextOf a files Watches w) where
        -- their text breaks a rule
        pub no_watch_list : (r : Refusal) → IsMemoryOrStop (IsBadWatches w) r → IsNotPrepared rose files a r
        no_watch_list = subst (λ x. IsModelOf x files net → IsScriptOf x files stated → IsTextOf x files Watches w
            → (r : Refusal) → IsMemoryOrStop (IsBadWatches w) r → IsNotPrepared rose files x r) (sym is.1.1.1)
            (λ mm ss ww r h. watch_unread rose files is.0 is.1.0 is.1.1.0 net mm stated ss book decided w ww r h)
            m s w_is

        module _ (ws : List watch.Watch) (are : watches w ≡ Ok ws) (told : Net) (same : told ≡ net) where
          -- a watch does not fit
          pub no_fit : (r : Refusal) → IsMemoryOrStop (IsBadWatch told (clones_of_book book) ws) r
              → IsNotPrepared rose files a r
          no_fit r bad = subst (λ x. IsModelOf x files net → IsScriptOf x files stated → IsTextOf x files Watches w
              → IsNotPrepared rose files x r) (sym is.1.1.1)
              (λ mm ss ww. watch_unfit rose files is.0 is.1.0 is.1.1.0 net mm stated ss book decided w ww ws are r
              (subst (λ n. IsMemoryOrStop (IsBadWatch n (clones_of_book book) ws) r) same bad)) m s w_is

          -- all fit
          pub watching_ready : fit told (clones_of_book book) ws ≡ Ok tt → (end : Ending)
              → MayRunWatched told (clones_of_book book) ws end → IsLawfulEnding files a end
          watching_ready fits end may = subst (λ x. IsModelOf x files net → IsScriptOf x files stated
              → IsTextOf x files Watches w → IsLawfulEnding files x end) (sym is.1.1.1)
              (λ mm ss ww. watch_fits rose files is.0 is.1.0 is.1.1.0 net mm stated ss book decided w ww ws are
              (subst (λ n. fit n (clones_of_book book) ws ≡ Ok tt) same fits) end
              (subst (λ n. MayRunWatched n (clones_of_book book) ws end) same may)) m s w_is

-- ---- a run from a snapshot

module _ (rose : Type 0) (files : Option Files) (mn xn : List ℕ) (net : Net)
    (m : IsModelOf (Resume mn xn) files net) where
  -- the text of its snapshot was not fetched
  resume_unfetched : (r : Refusal) → IsNotFetched rose (Resume mn xn) files Snapshot r
      → IsNotPrepared rose files (Resume mn xn) r
  resume_unfetched r h = unfetched rose files (Resume mn xn) Snapshot r
      (record { m = m.m; net = net; text = m.text; is_model = m.is_model }) h

  module _ (x : List ℕ) (x_is : IsTextOf (Resume mn xn) files Snapshot x) where
    -- how a run from a snapshot with this text ends
    resumes_with : (end : Ending) → MayResume x net end → IsLawfulEnding files (Resume mn xn) end
    resumes_with = resume_ends files mn xn m.m x net m.text m.is_model x_is

    -- the text breaks a rule
    resume_unread : (r : Refusal) → IsMemoryOrStop (IsBadSnapshot net x) r
        → IsNotPrepared rose files (Resume mn xn) r
    resume_unread r h = stopped_by rose files (Resume mn xn) (IsBadSnapshot net x) r (λ stop bad.
        by_snapshot (λ q. IsLawfulEnding files (Resume mn xn) (early_stop q)) net x stop bad
        (λ fault is. resumes_with _ (ends.bad_snapshot fault is))) h

-- the same for an assignment that is such a run
module _ (rose : Type 0) (files : Option Files) (a : AssignmentView) (net : Net)
    (is : (mn : List ℕ) × ((xn : List ℕ) × (a ≡ Resume mn xn))) (m : IsModelOf a files net) where
  pub no_snapshot_text : (r : Refusal) → IsNotFetched rose a files Snapshot r → IsNotPrepared rose files a r
  no_snapshot_text = subst (λ y. IsModelOf y files net → (r : Refusal) → IsNotFetched rose y files Snapshot r
      → IsNotPrepared rose files y r) (sym is.1.1)
      (λ mm r h. resume_unfetched rose files is.0 is.1.0 net mm r h) m

  module _ (x : List ℕ) (x_is : IsTextOf a files Snapshot x) (told : Net) (same : told ≡ net) where
    -- its text breaks a rule
    pub bad_snapshot_text : (r : Refusal) → IsMemoryOrStop (IsBadSnapshot told x) r → IsNotPrepared rose files a r
    bad_snapshot_text r bad = subst (λ y. IsModelOf y files net → IsTextOf y files Snapshot x
        → IsNotPrepared rose files y r) (sym is.1.1)
        (λ mm xx. resume_unread rose files is.0 is.1.0 net mm x xx r
        (subst (λ n. IsMemoryOrStop (IsBadSnapshot n x) r) same bad)) m x_is

    -- it is a snapshot of the model
    pub resuming_ready : (v : SnapshotView) → snapshot told x ≡ Ok v → (end : Ending) → MayGoOn told v end
        → IsLawfulEnding files a end
    resuming_ready v is_snapshot end may = subst (λ y. IsModelOf y files net → IsTextOf y files Snapshot x
        → IsLawfulEnding files y end) (sym is.1.1)
        (λ mm xx. resumes_with rose files is.0 is.1.0 net mm x xx end
        (ends.going_on v end (subst (λ n. snapshot n x ≡ Ok v) same is_snapshot)
        (subst (λ n. MayGoOn n v end) same may))) m x_is
