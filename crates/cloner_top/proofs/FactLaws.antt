-- The facts that each status implies.
use Rattle.std.proofs.Common.{◌≡◌, ◌≢◌, ◌⊎◌, inl, inr, refl, sym, subst, ◌∙◌, ℕ}
use Rattle.std.proofs.Common.{◌≤◌, ◌+◌, arith, List, [], ◌∷◌, length, Option, Some, None, Result, Ok}
use Rattle.sim_base.specs.Clones.{Clone}
use Rattle.sim_outer.specs.Files.{Files}
use Rattle.net_model.specs.Net.{Net}
use Rattle.net_model.specs.Text.{model}
use Rattle.decision_script.specs.Reading.{script}
use Rattle.decision_script.specs.Stating.{ScriptView}
use Rattle.command_words.specs.declared.request.Mode.{Mode}
use Rattle.command_words.specs.declared.request.Mode.TheVariants.{Links, Save, Solo}
use Rattle.watch_points.specs.Triggers.{clones_with_branches}
use Rattle.study_run.specs.Limits.{until}
use Rattle.study_run.specs.Linking.{IsOverrun}
use Rattle.command_words.specs.Requests.{AssignmentView, Live, Resume, Study, Watch}
use Rattle.cloner_top.specs.declared.excess.Excess.{Excess}
use Rattle.cloner_top.specs.declared.excess.Excess.TheVariants.{LimitMet, LongSnapshot}
use Rattle.cloner_top.specs.declared.refusal.Refusal.{Refusal}
use Rattle.cloner_top.specs.declared.refusal.Refusal.TheVariants.{OutOfMemory, Usage, NotRead}
use Rattle.cloner_top.specs.declared.refusal.Refusal.TheVariants.{Stopped, Exceeded, CannotWrite}
use Rattle.cloner_top.specs.declared.refusal.Text.{Text}
use Rattle.cloner_top.specs.declared.refusal.Text.TheVariants.{Model, Script, Snapshot, Watches}
use Rattle.cloner_top.specs.declared.stop.Stop.{Stop}
use Rattle.cloner_top.specs.declared.stop.Stop.TheVariants.{BadModel, BadScript, BadDecision, BadWatch, BadWatches}
use Rattle.cloner_top.specs.declared.stop.Stop.TheVariants.{BadSnapshot, NoClone}
use Rattle.cloner_top.specs.Answers.{InputsFailed, IsAnswer, IsLawfulEnding, Outside, cut, exceeded, memory}
use Rattle.cloner_top.specs.Answers.{stopped, success, unread, usage}
use Rattle.cloner_top.specs.Deciding.{clones_of}
use Rattle.cloner_top.specs.Endings.{Ending, IsExcessOf, MayDecide, MayEnd, MayEndByTexts, MayFollow, MayLive, MayRun}
use Rattle.cloner_top.specs.Endings.{MayRunAlone, MayRunLinked, MaySimulate, MayStudy, MayWatch, early_stop}
use Rattle.cloner_top.specs.Endings.{MayGoOn, MayResume, mode_meets}
use Rattle.cloner_top.specs.Endings.{mode_texts, overrun, run_texts, saved_or_too_long, solo_text, whole, whole_output}
use Rattle.cloner_top.specs.Endings as ends
use Rattle.cloner_top.specs.Facts.{ArePreceded, Completes, IsCutFor, IsLive, IsStoppedFor, IsStudy, IsToldFor}
use Rattle.cloner_top.specs.Facts.{IsUnreadFor, IsWritten, Writes, WritesAll, WritesIn, WritesLive, WritesOne}
use Rattle.cloner_top.specs.Facts.{WritesLinked, WritesResumed, WritesWatched}
use Rattle.cloner_top.specs.Facts.{at_limit, at_once}
use Rattle.cloner_top.specs.Outsides.{ArePut, ArePutOrCut}
use Rattle.cloner_top.specs.Refusals.{error_line, status_of}
use Rattle.cloner_top.specs.Stops.{excess_status, stop_status}
use Rattle.cloner_top.specs.Texts.{AreTexts, IsUnreadFrom, Origin, in_file, made, not_asked, origin_of}

-- ---- the statuses of stops and of excesses

-- the status of a stop is at least 4
stop_status-low : (s : Stop) → 4 ≤ stop_status s
stop_status-low (BadModel fault) = omega arith
stop_status-low (BadScript fault) = omega arith
stop_status-low (BadDecision reply line) = omega arith
stop_status-low (NoClone name) = omega arith
stop_status-low (BadWatches fault) = omega arith
stop_status-low (BadWatch reply line) = omega arith
stop_status-low (BadSnapshot fault) = omega arith

-- it is not 8
stop_status-other : (s : Stop) → stop_status s ≢ 8
stop_status-other (BadModel fault) = λ e. omega (arith, e)
stop_status-other (BadScript fault) = λ e. omega (arith, e)
stop_status-other (BadDecision reply line) = λ e. omega (arith, e)
stop_status-other (NoClone name) = λ e. omega (arith, e)
stop_status-other (BadWatches fault) = λ e. omega (arith, e)
stop_status-other (BadWatch reply line) = λ e. omega (arith, e)
stop_status-other (BadSnapshot fault) = λ e. omega (arith, e)

-- the status of an excess is 7 or 11
excess_status-is : (e : Excess) → (excess_status e ≡ 7) ⊎ (excess_status e ≡ 11)
excess_status-is (LimitMet limit station clone) = inl refl
excess_status-is LongSnapshot = inr refl

-- it is at least 7
excess_status-low : (e : Excess) → 7 ≤ excess_status e
excess_status-low (LimitMet limit station clone) = omega arith
excess_status-low LongSnapshot = omega arith

-- it is not 8
excess_status-other : (e : Excess) → excess_status e ≢ 8
excess_status-other (LimitMet limit station clone) = λ h. omega (arith, h)
excess_status-other LongSnapshot = λ h. omega (arith, h)

-- ---- what is put before the error line

-- nothing in a run of all clones
run_told : (net : Net) (clones : List Clone) (meets : ℕ → ℕ → Type 0) (texts told : List (List ℕ)) (e : Excess)
    (most : ℕ) → MayRun net clones meets texts (overrun told e most) → told ≡ []
run_told net clones meets texts told e most (ends.over station who met) = refl

-- nothing in a run in rounds
linked_told : (net : Net) (clones : List Clone) (told : List (List ℕ)) (e : Excess) (most : ℕ)
    → MayRunLinked net clones (overrun told e most) → told ≡ []
linked_told net clones told e most (ends.over_linked station who met) = refl

-- nothing in the run of one clone alone
alone_told : (net : Net) (clones : List Clone) (name : List ℕ) (part : Clone → Clone)
    (written : Clone → Result (List ℕ) Excess) (told : List (List ℕ)) (e : Excess) (most : ℕ)
    → MayRunAlone net clones name part written (overrun told e most) → told ≡ []
alone_told net clones name part written told e most (ends.too_long k too_much is within long) = refl
alone_told net clones name part written told e most (ends.limit_met k station is meets) = refl

-- nothing in the simulation of a plan
simulation_told : (mode : Mode) (net : Net) (clones : List Clone) (told : List (List ℕ)) (e : Excess) (most : ℕ)
    → MaySimulate mode net clones (overrun told e most) → told ≡ []
simulation_told (Solo name) net clones told e most h = alone_told net clones name whole (solo_text net) told e most h
simulation_told (Save name time) net clones told e most h =
    alone_told net clones name (until net time) (saved_or_too_long net time) told e most h
simulation_told Links net clones told e most h = linked_told net clones told e most h
simulation_told mode net clones told e most h =
    run_told net clones (mode_meets mode net clones) (mode_texts mode net clones) told e most h

-- nothing in a run with watches
watch_told : (text : List ℕ) (net : Net) (clones : List Clone) (told : List (List ℕ)) (e : Excess) (most : ℕ)
    → MayWatch text net clones (overrun told e most) → told ≡ []
watch_told text net clones told e most (ends.watched ws end is fits may) =
    run_told net (clones_with_branches net clones ws) (IsOverrun net (clones_with_branches net clones ws))
    (run_texts net (clones_with_branches net clones ws)) told e most may

-- nothing in a run from a snapshot
resume_told : (text : List ℕ) (net : Net) (told : List (List ℕ)) (e : Excess) (most : ℕ)
    → MayResume text net (overrun told e most) → told ≡ []
resume_told text net told e most (ends.going_on x end is may) = onward_told told e most may
  where
    onward_told : (told : List (List ℕ)) (e : Excess) (most : ℕ) → MayGoOn net x (overrun told e most) → told ≡ []
    onward_told told e most (ends.limit_met_onward station met) = refl

-- nothing if all decisions are made first
decide_told : (simulates : List Clone → Ending → Type 0) (net : Net) (s : ScriptView) (told : List (List ℕ))
    (e : Excess) (most : ℕ) → ((clones : List Clone) → simulates clones (overrun told e most) → told ≡ [])
    → MayDecide simulates net s (overrun told e most) → told ≡ []
decide_told simulates net s told e most each (ends.simulation end none may) = each (clones_of net s) may

-- one text in a live study, and the status is 7
live_told : (net : Net) (s : ScriptView) (told : List (List ℕ)) (e : Excess) (most : ℕ)
    → MayLive net s (overrun told e most) → (length told ≡ 1) × (excess_status e ≡ 7)
live_told net s told e most (ends.over_live book looks station who journal are_made meets) = (refl, refl)

-- nothing is put, or the study is live, one text is put, and the status is 7
abbrev AreToldFor : AssignmentView → List (List ℕ) → Excess → Type 0
AreToldFor a told e = (told ≡ []) ⊎ ((length told ≡ 1) × (excess_status e ≡ 7) × IsLive a)

-- in a study with this script text
study_told : (ends_so : ScriptView → Ending → Type 0) (T : Type 0) (s : List ℕ) (told : List (List ℕ)) (e : Excess)
    (most : ℕ) → ((stated : ScriptView) → ends_so stated (overrun told e most) → T)
    → MayStudy ends_so s (overrun told e most) → T
study_told ends_so T s told e most each (ends.study stated end is may) = each stated may

-- in an assignment over a model
follow_told : (a : AssignmentView) (t : Text → List ℕ) (net : Net) (told : List (List ℕ)) (e : Excess) (most : ℕ)
    → MayFollow a t net (overrun told e most) → AreToldFor a told e
follow_told (Study source mode) t net told e most h = study_told (MayEnd mode net) _ (t Script) told e most
    (λ stated may. inl (decide_told (MaySimulate mode net) net stated told e most
    (λ cs. simulation_told mode net cs told e most) may)) h
follow_told (Live m s) t net told e most h = study_told (MayLive net) _ (t Script) told e most
    (λ stated may. let l = live_told net stated told e most may in inr (l.0, l.1, tt)) h
follow_told (Watch m s w) t net told e most h =
    study_told (MayDecide (MayWatch (t Watches) net) net) _ (t Script) told e most
    (λ stated may. inl (decide_told (MayWatch (t Watches) net) net stated told e most
    (λ cs. watch_told (t Watches) net cs told e most) may)) h
follow_told (Resume m x) t net told e most h = inl (resume_told (t Snapshot) net told e most h)

-- in an assignment
come_told : (a : AssignmentView) (t : Text → List ℕ) (told : List (List ℕ)) (e : Excess) (most : ℕ)
    → MayEndByTexts a t (overrun told e most) → AreToldFor a told e
come_told a t told e most (ends.read net end is may) = follow_told a t net told e most may

-- before the error line of an excess
preceded : (words : Option AssignmentView) (files : Option Files) (a : AssignmentView) (old new : ℕ)
    (told : List (List ℕ)) (e : Excess) → words ≡ Some a → IsExcessOf (IsLawfulEnding files a) old new told e
    → ArePreceded words (excess_status e) told
preceded words files a old new told e is why = by (come_told a why.may.t told e why.most why.may.may)
  where
    by : AreToldFor a told e → ArePreceded words (excess_status e) told
    by (inl nothing) = inl nothing
    by (inr one) = inr (one.1, (one.0, (a, (is, one.2))))

-- ---- IsAnswer, by its status

module _ (words : Option AssignmentView) (before after : Outside) where
  -- if there is an assignment, the command line has a known form
  none_is : (a : AssignmentView) → words ≡ Some a → words ≡ None → ⊥
  none_is a is none = let h = sym is ∙ none in cc

  -- status 2 means that the command line has no known form
  pub usage_cause : (status : ℕ) → IsAnswer words before after status → status ≡ 2 → words ≡ None
  usage_cause _ (success a is finished fetches quiet) two = absurd (omega (arith, two))
  usage_cause _ (memory refused) two = absurd (omega (arith, two))
  usage_cause _ (usage none refused inputs steps) two = none
  usage_cause _ (unread a text is due not refused steps) two = absurd (omega (arith, two))
  usage_cause _ (stopped a s is may refused steps) two = absurd (let l = stop_status-low s in omega (arith, two, l))
  usage_cause _ (exceeded a told e is why refused) two = absurd (let l = excess_status-low e in omega (arith, two, l))
  usage_cause _ (cut a is off told) two = absurd (omega (arith, two))

  -- a command line of no known form has status 1 or 2
  pub formless : (status : ℕ) → IsAnswer words before after status → words ≡ None → (status ≡ 1) ⊎ (status ≡ 2)
  formless _ (success a is finished fetches quiet) none = absurd (none_is a is none)
  formless _ (memory refused) none = inl refl
  formless _ (usage n refused inputs steps) none = inr refl
  formless _ (unread a text is due not refused steps) none = absurd (none_is a is none)
  formless _ (stopped a s is may refused steps) none = absurd (none_is a is none)
  formless _ (exceeded a told e is why refused) none = absurd (none_is a is none)
  formless _ (cut a is off told) none = absurd (none_is a is none)

  -- status 3 means that a required text was not read
  pub unread_cause : (status : ℕ) → IsAnswer words before after status → status ≡ 3 → IsUnreadFor words before after
  unread_cause _ (success a is finished fetches quiet) three = absurd (omega (arith, three))
  unread_cause _ (memory refused) three = absurd (omega (arith, three))
  unread_cause _ (usage none refused inputs steps) three = absurd (omega (arith, three))
  unread_cause _ (unread a text is due not refused steps) three =
      record { a = a; asks = is; text = text; due = due; unread = not }
  unread_cause _ (stopped a s is may refused steps) three =
      absurd (let l = stop_status-low s in omega (arith, three, l))
  unread_cause _ (exceeded a told e is why refused) three =
      absurd (let l = excess_status-low e in omega (arith, three, l))
  unread_cause _ (cut a is off told) three = absurd (omega (arith, three))

  -- statuses from 4 except 8 mean that the study is not run, or that a limit is exceeded
  pub stop_cause : (status : ℕ) → IsAnswer words before after status → 4 ≤ status → status ≢ 8
      → IsStoppedFor words before after status
  stop_cause _ (success a is finished fetches quiet) l h = absurd (omega (arith, l))
  stop_cause _ (memory refused) l h = absurd (omega (arith, l))
  stop_cause _ (usage none refused inputs steps) l h = absurd (omega (arith, l))
  stop_cause _ (unread a text is due not refused steps) l h = absurd (omega (arith, l))
  stop_cause _ (stopped a s is may refused steps) l h =
      record { told = []; line = _; cause = at_once a s is may steps; told_is = refused.told_is }
  stop_cause _ (exceeded a told e is why refused) l h =
      record { told = told; line = _; cause = at_limit a told e is why; told_is = refused.told_is }
  stop_cause _ (cut a is off told) l h = absurd (h refl)

  -- status 8 means that a prefix of the output was written, and that a write failed
  pub cut_cause : (status : ℕ) → IsAnswer words before after status → status ≡ 8 → IsCutFor words before after
  cut_cause _ (success a is finished fetches quiet) eight = absurd (omega (arith, eight))
  cut_cause _ (memory refused) eight = absurd (omega (arith, eight))
  cut_cause _ (usage none refused inputs steps) eight = absurd (omega (arith, eight))
  cut_cause _ (unread a text is due not refused steps) eight = absurd (omega (arith, eight))
  cut_cause _ (stopped a s is may refused steps) eight = absurd (stop_status-other s eight)
  cut_cause _ (exceeded a told e is why refused) eight = absurd (excess_status-other e eight)
  cut_cause _ (cut a is off told) eight = record { a = a; asks = is; cut = off }

  -- if the status is neither 0 nor 8, the output is unchanged
  pub output_same : (status : ℕ) → IsAnswer words before after status → status ≢ 0 → status ≢ 8
      → after.output ≡ before.output
  output_same _ (success a is finished fetches quiet) not_0 not_8 = absurd (not_0 refl)
  output_same _ (memory refused) not_0 not_8 = refused.output
  output_same _ (usage none refused inputs steps) not_0 not_8 = refused.output
  output_same _ (unread a text is due not refused steps) not_0 not_8 = refused.output
  output_same _ (stopped a s is may refused steps) not_0 not_8 = refused.output
  output_same _ (exceeded a told e is why refused) not_0 not_8 = refused.output
  output_same _ (cut a is off told) not_0 not_8 = absurd (not_8 refl)

  -- if the status is 2 to 6, 9 or 10, no message was handled
  pub idle : (status : ℕ) → IsAnswer words before after status → 2 ≤ status → status ≢ 7 → status ≢ 8 → status ≢ 11
      → after.steps ≡ before.steps
  idle _ (success a is finished fetches quiet) l not_7 not_8 not_11 = absurd (omega (arith, l))
  idle _ (memory refused) l not_7 not_8 not_11 = absurd (omega (arith, l))
  idle _ (usage none refused inputs steps) l not_7 not_8 not_11 = steps
  idle _ (unread a text is due not refused steps) l not_7 not_8 not_11 = steps
  idle _ (stopped a s is may refused steps) l not_7 not_8 not_11 = steps
  idle _ (exceeded a told e is why refused) l not_7 not_8 not_11 = elim (excess_status-is e) [
    | inl seven ↦ absurd (not_7 seven)
    | inr eleven ↦ absurd (not_11 eleven)
  ]
  idle _ (cut a is off told) l not_7 not_8 not_11 = absurd (not_8 refl)

  -- a line alone, from its cause
  one_line : (r : Refusal) → ArePutOrCut (error_line r ∷ []) before.errors after.errors
      → IsToldFor words before after (status_of r)
  one_line r told = record { told = []; refusal = r; is = refl; preceded = inl refl; told_is = told }

  -- after any status except 0 an error line is put
  pub told_for : (status : ℕ) → IsAnswer words before after status → status ≢ 0 → IsToldFor words before after status
  told_for _ (success a is finished fetches quiet) not_0 = absurd (not_0 refl)
  told_for _ (memory refused) not_0 = one_line OutOfMemory refused.told_is
  told_for _ (usage none refused inputs steps) not_0 = one_line Usage refused.told_is
  told_for _ (unread a text is due not refused steps) not_0 = one_line (NotRead text) refused.told_is
  told_for _ (stopped a s is may refused steps) not_0 = one_line (Stopped s) refused.told_is
  told_for _ (exceeded a told e is why refused) not_0 = record {
    told = told;
    refusal = Exceeded e;
    is = refl;
    preceded = preceded words before.inputs.files a before.steps after.steps told e is why;
    told_is = refused.told_is;
  }
  told_for _ (cut a is off told) not_0 = one_line CannotWrite told

-- ---- what is written

-- these texts were put, after this number of handled messages
record ArePutFor (before after : Outside) (texts : List (List ℕ)) (work : ℕ) : Type 0 where
  are : ArePut texts before.output after.output
  steps : after.steps ≡ before.steps + work

module _ (before after : Outside) where
  -- a run of all clones writes the texts of all
  writes_all : (a : AssignmentView) (net : Net) (s : ScriptView) (meets : ℕ → ℕ → Type 0)
      (texts : Net → List Clone → List (List ℕ)) (put : List (List ℕ)) (work : ℕ) → IsStudy before.inputs.files a net s
      → ArePutFor before after put work
      → MayRun net (clones_of net s) meets (texts net (clones_of net s)) (whole_output put work)
      → WritesAll texts before after a
  writes_all a net s meets texts put work study p (ends.within within) =
      record { net = net; stated = s; study = study; within = within; put = p.are; steps = p.steps }

  -- a run in rounds also writes the number of rounds
  writes_linked : (a : AssignmentView) (net : Net) (s : ScriptView) (put : List (List ℕ)) (work : ℕ)
      → IsStudy before.inputs.files a net s → ArePutFor before after put work
      → MayRunLinked net (clones_of net s) (whole_output put work) → WritesLinked before after a
  writes_linked a net s put work study p (ends.linked k are few within) = record {
    net = net;
    stated = s;
    study = study;
    rounds = k;
    are_rounds = are;
    rounds_max = few;
    within = within;
    put = p.are;
    steps = p.steps;
  }

  -- the run of one clone alone writes the text of that clone
  writes_one : (a : AssignmentView) (net : Net) (s : ScriptView) (name : List ℕ) (part : Net → Clone → Clone)
      (written : Net → Clone → Result (List ℕ) Excess) (put : List (List ℕ)) (work : ℕ)
      → IsStudy before.inputs.files a net s → ArePutFor before after put work
      → MayRunAlone net (clones_of net s) name (part net) (written net) (whole_output put work)
      → WritesOne name part written before after a
  writes_one a net s name part written put work study p (ends.fits k text is within text_is) = record {
    net = net;
    stated = s;
    study = study;
    place = k;
    named = is;
    within = within;
    text = text;
    text_is = text_is;
    put = p.are;
    steps = p.steps;
  }

  -- the simulation of a plan writes what its mode defines
  writes_by : (mode : Mode) (a : AssignmentView) (net : Net) (s : ScriptView) (put : List (List ℕ)) (work : ℕ)
      → IsStudy before.inputs.files a net s → ArePutFor before after put work
      → MaySimulate mode net (clones_of net s) (whole_output put work) → WritesIn mode before after a
  writes_by (Solo name) a net s put work study p may =
      writes_one a net s name (λ n. whole) solo_text put work study p may
  writes_by (Save name time) a net s put work study p may =
      writes_one a net s name (λ n. until n time) (λ n. saved_or_too_long n time) put work study p may
  writes_by Links a net s put work study p may = writes_linked a net s put work study p may
  writes_by mode a net s put work study p may =
      writes_all a net s (mode_meets mode net (clones_of net s)) (mode_texts mode) put work study p may

  -- a study with this script text
  writes_study : (ends_so : ScriptView → Ending → Type 0) (W : Type 0) (s : List ℕ) (put : List (List ℕ)) (work : ℕ)
      → ((stated : ScriptView) → script s ≡ Ok stated → ends_so stated (whole_output put work) → W)
      → MayStudy ends_so s (whole_output put work) → W
  writes_study ends_so W s put work each (ends.study stated _ is may) = each stated is may

  module _ (a : AssignmentView) (t : Text → List ℕ) (net : Net) (texts : AreTexts a before.inputs.files t)
      (is_model : model (t Model) ≡ Ok net) where
    -- a live study writes its journal and the texts of all clones
    writes_live : (s : ScriptView) (put : List (List ℕ)) (work : ℕ) → script (t Script) ≡ Ok s
        → ArePutFor before after put work → MayLive net s (whole_output put work) → WritesLive before after a
    writes_live s put work is_script p (ends.finished book looks journal last seen within) = record {
      net = net;
      stated = s;
      read = record { t = t; texts = texts; is_model = is_model; is_script = is_script };
      book = book;
      looks = looks;
      journal = journal;
      at_horizon = last;
      looks_are = seen;
      within = within;
      put = p.are;
      steps = p.steps;
    }

    -- a run with watches writes the texts of all clones with their branches
    writes_watched : (s : ScriptView) (put : List (List ℕ)) (work : ℕ) → script (t Script) ≡ Ok s
        → ArePutFor before after put work
        → MayDecide (MayWatch (t Watches) net) net s (whole_output put work) → WritesWatched before after a
    writes_watched s put work is_script p (ends.simulation _ accepted (ends.watched ws _ are fits may)) =
        by_run put work p may
      where
        by_run : (put : List (List ℕ)) (work : ℕ) → ArePutFor before after put work
            → MayRun net (clones_with_branches net (clones_of net s) ws)
            (IsOverrun net (clones_with_branches net (clones_of net s) ws))
            (run_texts net (clones_with_branches net (clones_of net s) ws)) (whole_output put work)
            → WritesWatched before after a
        by_run put work p (ends.within within) = record {
          net = net;
          stated = s;
          study = record {
            read = record { t = t; texts = texts; is_model = is_model; is_script = is_script };
            accepted = accepted;
          };
          ws = ws;
          are_watches = are;
          fits = fits;
          within = within;
          put = p.are;
          steps = p.steps;
        }

    -- a run from a snapshot writes the trace of its clone
    writes_resumed : (put : List (List ℕ)) (work : ℕ) → ArePutFor before after put work
        → MayResume (t Snapshot) net (whole_output put work) → WritesResumed before after a
    writes_resumed put work p (ends.going_on x _ is may) = by_run put work p may
      where
        by_run : (put : List (List ℕ)) (work : ℕ) → ArePutFor before after put work
            → MayGoOn net x (whole_output put work) → WritesResumed before after a
        by_run put work p (ends.resumed stays) = record {
          t = t;
          texts = texts;
          net = net;
          is_model = is_model;
          x = x;
          is_snapshot = is;
          stays = stays;
          put = p.are;
          steps = p.steps;
        }

    -- a study whose decisions are all made first writes what its clones' simulation writes
    writes_decided : (mode : Mode) (s : ScriptView) (put : List (List ℕ)) (work : ℕ) → script (t Script) ≡ Ok s
        → ArePutFor before after put work → MayDecide (MaySimulate mode net) net s (whole_output put work)
        → WritesIn mode before after a
    writes_decided mode s put work is_script p (ends.simulation _ accepted may) = writes_by mode a net s put work
        (record {
          read = record { t = t; texts = texts; is_model = is_model; is_script = is_script };
          accepted = accepted;
        }) p may

  -- an assignment over a model
  writes_follow : (a : AssignmentView) (t : Text → List ℕ) (net : Net) (put : List (List ℕ)) (work : ℕ)
      → AreTexts a before.inputs.files t → model (t Model) ≡ Ok net → ArePutFor before after put work
      → MayFollow a t net (whole_output put work) → Writes a before after
  writes_follow (Study source mode) t net put work texts is_model p may =
      writes_study (MayEnd mode net) _ (t Script) put work
      (λ s is m. writes_decided (Study source mode) t net texts is_model mode s put work is p m) may
  writes_follow (Live m s) t net put work texts is_model p may = writes_study (MayLive net) _ (t Script) put work
      (λ stated is h. writes_live (Live m s) t net texts is_model stated put work is p h) may
  writes_follow (Watch m s w) t net put work texts is_model p may =
      writes_study (MayDecide (MayWatch (t Watches) net) net) _ (t Script) put work
      (λ stated is h. writes_watched (Watch m s w) t net texts is_model stated put work is p h) may
  writes_follow (Resume m x) t net put work texts is_model p may =
      writes_resumed (Resume m x) t net texts is_model put work p may

  -- an assignment
  writes_come : (a : AssignmentView) (t : Text → List ℕ) (put : List (List ℕ)) (work : ℕ)
      → AreTexts a before.inputs.files t → ArePutFor before after put work → MayEndByTexts a t (whole_output put work)
      → Writes a before after
  writes_come a t put work texts p (ends.read net _ is_model may) = writes_follow a t net put work texts is_model p may

module _ (words : Option AssignmentView) (before after : Outside) where
  -- status 0 means that the whole output is written, and the error sink is unchanged
  pub finished : (status : ℕ) → IsAnswer words before after status → status ≡ 0 → IsWritten words before after
  finished _ (success a is done fetches quiet) is_0 = record {
    a = a;
    asks = is;
    writes = writes_come before after a done.wrote.may.t done.texts done.wrote.work done.wrote.may.texts
        (record { are = done.put; steps = done.wrote.steps }) done.wrote.may.may;
    fetches = fetches;
    quiet = quiet;
  }
  finished _ (memory refused) is_0 = absurd (omega (arith, is_0))
  finished _ (usage none refused inputs steps) is_0 = absurd (omega (arith, is_0))
  finished _ (unread a text is due not refused steps) is_0 = absurd (omega (arith, is_0))
  finished _ (stopped a s is may refused steps) is_0 = absurd (let l = stop_status-low s in omega (arith, is_0, l))
  finished _ (exceeded a told e is why refused) is_0 = absurd (let l = excess_status-low e in omega (arith, is_0, l))
  finished _ (cut a is off told) is_0 = absurd (omega (arith, is_0))

-- ---- an ending is reached

module _ (before after : Outside) where
  -- if no input operation failed, a text that was not read is missing
  unread-no_fault : (from : Origin) → ¬ (InputsFailed before after)
      → IsUnreadFrom (InputsFailed before after) from before.inputs.files → IsUnreadFrom ⊥ from before.inputs.files
  unread-no_fault (in_file name) well (inl failed) = absurd (well failed)
  unread-no_fault (in_file name) well (inr lacks) = inr lacks
  unread-no_fault (made text) well h = h
  unread-no_fault not_asked well h = h

  -- out of memory is always a possible result
  of_memory : (words : Option AssignmentView) → Completes words before after 1
  of_memory None = inl refl
  of_memory (Some a) = λ well. inl refl

  -- if no input operation failed, the result is out of memory, usage, a missing text, or an allowed ending
  pub completes : (words : Option AssignmentView) (status : ℕ) → IsAnswer words before after status
      → Completes words before after status
  completes words _ (success a is done fetches quiet) =
      subst (λ w. Completes w before after 0) (sym is)
      (λ well. inr (inr (whole_output done.texts done.wrote.work, (done.wrote.may, inl refl))))
  completes words _ (memory refused) = of_memory words
  completes words _ (usage none refused inputs steps) = subst (λ w. Completes w before after 2) (sym none) (inr refl)
  completes words _ (unread a text is due not refused steps) =
      subst (λ w. Completes w before after 3) (sym is)
      (λ well. inr (inl (refl, (text, (due, unread-no_fault (origin_of a text) well not)))))
  completes words _ (stopped a s is may refused steps) =
      subst (λ w. Completes w before after (stop_status s)) (sym is)
      (λ well. inr (inr (early_stop s, (may, refl))))
  completes words _ (exceeded a told e is why refused) =
      subst (λ w. Completes w before after (excess_status e)) (sym is)
      (λ well. inr (inr (overrun told e why.most, (why.may, refl))))
  completes words _ (cut a is off told) =
      subst (λ w. Completes w before after 8) (sym is)
      (λ well. inr (inr (whole_output off.texts off.wrote.work, (off.wrote.may, inr (refl, off.cut.failed)))))
