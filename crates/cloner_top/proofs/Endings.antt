-- From one kind of endings to another, from a call that writes to an ending, and from an ending to a status.
use Rattle.std.proofs.Common.{◌≡◌, ℕ, refl, sym, ap, subst, ◌∙◌, arith, List, [], ◌∷◌, Option, Some, None}
use Rattle.std.proofs.Common.{Result, Ok, Err, IfErr, OnOk}
use Rattle.std.proofs.lemmas.Result.{IfErr-weaker}
use Rattle.sim_outer.specs.Counts.{AreCounted, HasRisen}
use Rattle.sim_outer.specs.Files.{Files}
use Rattle.sim_outer.specs.Views.{SinkView}
use Rattle.sim_outer.proofs.Counts.{none_counted}
use Rattle.command_words.specs.declared.request.WordsFault.{WordsFault}
use Rattle.command_words.specs.declared.request.WordsFault.TheVariants as fault
use Rattle.command_words.specs.Requests.{AssignmentView}
use Rattle.cloner_top.specs.declared.excess.Excess.{Excess}
use Rattle.cloner_top.specs.declared.halt.Halt.{Halt}
use Rattle.cloner_top.specs.declared.halt.Halt.TheVariants as halt
use Rattle.cloner_top.specs.declared.refusal.Refusal.{Refusal}
use Rattle.cloner_top.specs.declared.refusal.Refusal.TheVariants.{OutOfMemory, Usage, NotRead}
use Rattle.cloner_top.specs.declared.refusal.Refusal.TheVariants.{Stopped, Exceeded, CannotWrite}
use Rattle.cloner_top.specs.Answers.{IsAnswer, IsFailedFor, IsHaltedFor, IsLawfulEnding, IsRefused, Outside}
use Rattle.cloner_top.specs.Answers as answer
use Rattle.cloner_top.specs.Endings.{Ending, HasWritten, IsExcessOf, early_stop, overrun, whole_output}
use Rattle.cloner_top.specs.Facts.{AreFewFetches}
use Rattle.cloner_top.specs.Outsides.{AreDone, ArePutOrCut, IsDone, IsFailed, IsHalted, IsNoRun, IsStudyPut}
use Rattle.cloner_top.specs.Prepared.{IsNotPrepared}
use Rattle.cloner_top.specs.Refusals.{error_line, status_of, words_refusal}
use Rattle.cloner_top.specs.Stops.{excess_line, excess_status}

-- ---- from one kind of endings to another

module _ (P Q : Ending → Type 0) (on : (end : Ending) → P end → Q end) (old_steps new_steps : ℕ) where
  -- texts that were written for an ending of the one kind were written for one of the other
  wrote_on : (texts : List (List ℕ)) → HasWritten P old_steps new_steps texts → HasWritten Q old_steps new_steps texts
  wrote_on texts w = record { work = w.work; may = on (whole_output texts w.work) w.may; steps = w.steps }

  -- an excess of the one kind is one of the other
  excess_on : (told : List (List ℕ)) (e : Excess) → IsExcessOf P old_steps new_steps told e
      → IsExcessOf Q old_steps new_steps told e
  excess_on told e x = record { most = x.most; may = on (overrun told e x.most) x.may; steps = x.steps }

  -- what was written for the one kind was written for the other
  pub finished_on : (old new : SinkView) → IsStudyPut P old_steps new_steps old new
      → IsStudyPut Q old_steps new_steps old new
  finished_on old new f = record { texts = f.texts; wrote = wrote_on f.texts f.wrote; put = f.put }

  -- why it was not written for the one kind is why for the other
  failed_on : (old new : SinkView) (r : Refusal) → IsFailed P old_steps new_steps old new r
      → IsFailed Q old_steps new_steps old new r
  failed_on old new OutOfMemory h = h
  failed_on old new Usage h = h
  failed_on old new (NotRead text) h = h
  failed_on old new (Stopped stop) h = (on (early_stop stop) h.0, h.1, h.2)
  failed_on old new (Exceeded e) h = (excess_on [] e h.0, h.1)
  failed_on old new CannotWrite h = record { texts = h.texts; wrote = wrote_on h.texts h.wrote; cut = h.cut }

  -- the same if a journal may be put before the error line
  halted_on : (old new : SinkView) (h : Halt) → IsHalted P old_steps new_steps old new h
      → IsHalted Q old_steps new_steps old new h
  halted_on old new (halt.Refused r) h = failed_on old new r h
  halted_on old new (halt.Overrun journal e) h = (excess_on (journal.items ∷ []) e h.0, h.1)

-- ---- a run, and then its texts

-- texts of an ending were put, or why not
pub put_done : {T : Type 0} (P : Ending → Type 0) (old_steps new_steps : ℕ) (texts : List (List ℕ)) (old new : SinkView)
    (r : Result T Refusal) → HasWritten P old_steps new_steps texts → AreDone texts old new r
    → IsDone P old_steps new_steps old new r
put_done P old_steps new_steps texts old new (Ok t) w h = record { texts = texts; wrote = w; put = h }
put_done P old_steps new_steps texts old new (Err OutOfMemory) w h = h
put_done P old_steps new_steps texts old new (Err Usage) w h = h
put_done P old_steps new_steps texts old new (Err (NotRead text)) w h = h
put_done P old_steps new_steps texts old new (Err (Stopped stop)) w h = absurd h
put_done P old_steps new_steps texts old new (Err (Exceeded e)) w h = absurd h
put_done P old_steps new_steps texts old new (Err CannotWrite) w h = record { texts = texts; wrote = w; cut = h }

-- a run without texts to write
pub no_run_failed : (P : Ending → Type 0) (old_steps new_steps : ℕ) (out : SinkView) (r : Refusal)
    → IsNoRun P old_steps new_steps r → IsFailed P old_steps new_steps out out r
no_run_failed P old_steps new_steps out OutOfMemory h = refl
no_run_failed P old_steps new_steps out Usage h = h
no_run_failed P old_steps new_steps out (NotRead text) h = h
no_run_failed P old_steps new_steps out (Stopped stop) h = absurd h
no_run_failed P old_steps new_steps out (Exceeded e) h = (h, refl)
no_run_failed P old_steps new_steps out CannotWrite h = absurd h

-- ---- the whole assignment

-- an assignment that is not prepared is not written
pub unprepared : (rose : Type 0) (files : Option Files) (a : AssignmentView) (steps : ℕ) (out : SinkView) (r : Refusal)
    → IsNotPrepared rose files a r → IsFailedFor rose files a steps steps out out r
unprepared rose files a steps out OutOfMemory h = refl
unprepared rose files a steps out Usage h = h
unprepared rose files a steps out (NotRead text) h = (h.0, h.1, refl, refl)
unprepared rose files a steps out (Stopped stop) h = (h, refl, refl)
unprepared rose files a steps out (Exceeded e) h = absurd h
unprepared rose files a steps out CannotWrite h = absurd h

-- if no allowed ending was written, the assignment's output was not
failed_is : (rose : Type 0) (files : Option Files) (a : AssignmentView) (old_steps new_steps : ℕ) (old new : SinkView)
    (r : Refusal) → IsFailed (IsLawfulEnding files a) old_steps new_steps old new r
    → IsFailedFor rose files a old_steps new_steps old new r
failed_is rose files a old_steps new_steps old new OutOfMemory h = h
failed_is rose files a old_steps new_steps old new Usage h = h
failed_is rose files a old_steps new_steps old new (NotRead text) h = absurd h
failed_is rose files a old_steps new_steps old new (Stopped stop) h = h
failed_is rose files a old_steps new_steps old new (Exceeded e) h = h
failed_is rose files a old_steps new_steps old new CannotWrite h = h

-- the same with what is put before the error line
halted_is : (rose : Type 0) (files : Option Files) (a : AssignmentView) (old_steps new_steps : ℕ)
    (old new : SinkView) (h : Halt) → IsHalted (IsLawfulEnding files a) old_steps new_steps old new h
    → IsHaltedFor rose files a old_steps new_steps old new h
halted_is rose files a old_steps new_steps old new (halt.Refused r) h =
    failed_is rose files a old_steps new_steps old new r h
halted_is rose files a old_steps new_steps old new (halt.Overrun journal e) h = h

-- if a prepared study was not written, the assignment's output was not, for the same cause
pub prepared_halted : (P : Ending → Type 0) (rose : Type 0) (files : Option Files) (a : AssignmentView)
    → ((end : Ending) → P end → IsLawfulEnding files a end) → (old_steps new_steps : ℕ) (old new : SinkView)
    {T : Type 0} (r : Result T Halt) → IfErr r (λ e. IsHalted P old_steps new_steps old new e)
    → IfErr r (λ e. IsHaltedFor rose files a old_steps new_steps old new e)
prepared_halted P rose files a on old_steps new_steps old new r h =
    IfErr-weaker r _ _ (λ e halts. halted_is rose files a old_steps new_steps old new e
    (halted_on P (IsLawfulEnding files a) on old_steps new_steps old new e halts)) h

-- a fact also holds if a result is Ok
pub if_ok : {T E : Type 0} {A : Type 0} (r : Result T E) → A → OnOk r A
if_ok (Ok t) a = a
if_ok (Err e) a = tt

-- ---- statuses

module _ (words : Option AssignmentView) (before after : Outside) where
  -- the words were not read, and only an error line was put: the status by its cause
  by_fault : (f : WordsFault) → (f ≡ fault.Usage → words ≡ None) → IsRefused before after [] (words_refusal f)
      → after.inputs ≡ before.inputs → after.steps ≡ before.steps
      → IsAnswer words before after (status_of (words_refusal f))
  by_fault fault.NoMemory none refused inputs steps = answer.memory refused
  by_fault fault.Usage none refused inputs steps = answer.usage (none refl) refused inputs steps

  -- the words were not read, and one error line says why
  pub words_answer : (f : WordsFault) (r : Refusal) (status : ℕ) → (f ≡ fault.Usage → words ≡ None)
      → r ≡ words_refusal f → after.output ≡ before.output
      → ArePutOrCut (error_line r ∷ []) before.errors after.errors → after.inputs ≡ before.inputs
      → after.steps ≡ before.steps
      → status ≡ status_of r
      → IsAnswer words before after status
  words_answer f r status none same output told inputs steps is =
      subst (IsAnswer words before after) (sym (is ∙ ap status_of same))
      (by_fault f none (record {
        output = output;
        told_is = subst (λ x. ArePutOrCut (error_line x ∷ []) before.errors after.errors) same told;
      }) inputs steps)

  -- the assignment's output was not written, and an error line was put: the status by its cause
  by_refusal : (a : AssignmentView) (r : Refusal) → words ≡ Some a
      → IsFailedFor (HasRisen before.inputs.faults after.inputs.faults) before.inputs.files a before.steps after.steps
      before.output after.output r
      → ArePutOrCut (error_line r ∷ []) before.errors after.errors → IsAnswer words before after (status_of r)
  by_refusal a OutOfMemory is h told = answer.memory (record { output = h; told_is = told })
  by_refusal a Usage is h told = absurd h
  by_refusal a (NotRead text) is h told =
      answer.unread a text is h.0 h.1 (record { output = h.2; told_is = told }) h.3
  by_refusal a (Stopped stop) is h told =
      answer.stopped a stop is h.0 (record { output = h.2; told_is = told }) h.1
  by_refusal a (Exceeded e) is h told = answer.exceeded a [] e is h.0 (record { output = h.1; told_is = told })
  by_refusal a CannotWrite is h told = answer.cut a is h told

  -- the status of that cause is returned
  pub unwritten : (a : AssignmentView) (r : Refusal) (status : ℕ) → words ≡ Some a
      → IsFailedFor (HasRisen before.inputs.faults after.inputs.faults) before.inputs.files a before.steps after.steps
      before.output after.output r
      → ArePutOrCut (error_line r ∷ []) before.errors after.errors → status ≡ status_of r
      → IsAnswer words before after status
  unwritten a r status asks h told is = subst (IsAnswer words before after) (sym is) (by_refusal a r asks h told)

  -- a live study met the limit, and its journal was put
  pub overrun_is : (a : AssignmentView) (journal : List ℕ) (e : Excess) (status : ℕ) → words ≡ Some a
      → IsExcessOf (IsLawfulEnding before.inputs.files a) before.steps after.steps (journal ∷ []) e
      → after.output ≡ before.output → ArePutOrCut (journal ∷ excess_line e ∷ []) before.errors after.errors
      → status ≡ excess_status e → IsAnswer words before after status
  overrun_is a journal e status asks h output told is = subst (IsAnswer words before after) (sym is)
      (answer.exceeded a (journal ∷ []) e asks h (record { output = output; told_is = told }))

  -- nothing was fetched
  pub no_fetches : after.inputs ≡ before.inputs → AreFewFetches words before after
  no_fetches same = record {
    fetches = 0;
    at_most = omega arith;
    calls = subst (λ i. AreCounted 0 before.inputs.calls i.calls) (sym same) (none_counted before.inputs.calls);
  }
