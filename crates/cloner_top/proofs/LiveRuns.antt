-- The result of a live study, from which its texts are made.
use Rattle.std.proofs.Common.{◌≡◌, ℕ, ◌+◌, refl, sym, ap, ap₂, subst, ◌∙◌, arith, List, [], ◌∷◌, length}
use Rattle.std.proofs.Common.{Result, Ok, Err, IfOk}
use Rattle.std.proofs.lemmas.Result.{IfErr-at_err, IfOk-at_ok}
use Rattle.sim_base.specs.Clones.{clone_at}
use Rattle.sim_outer.specs.Views.{SinkView}
use Rattle.net_model.specs.Net.{Net}
use Rattle.decision_script.specs.Stating.{ScriptView}
use Rattle.decision_book.specs.Journal.{after}
use Rattle.decision_book.specs.Plans.{ArePlanned}
use Rattle.world_core.specs.Overs.{NoneBeyond, most_handled}
use Rattle.world_core.specs.Worlds.{WorldView, total_handled}
use Rattle.study_run.specs.declared.fault.StudyFault.{StudyFault}
use Rattle.study_run.specs.declared.fault.StudyFault.TheVariants.{NoMemory, LimitMet}
use Rattle.study_run.specs.Limits.{AreWithin}
use Rattle.trace_writer.specs.WorldTraces.{AreShort}
use Rattle.journal_text.specs.JournalText.{journal_text}
use Rattle.live_study.specs.Engines.{StopsEngine}
use Rattle.live_study.specs.Lives.{IsAtHorizon, all_looks}
use Rattle.live_study.specs.Looks.{AreLooks}
use Rattle.live_study.specs.declared.run.LiveRun.{LiveRun}
use Rattle.cloner_top.specs.declared.halt.Halt.{Halt}
use Rattle.cloner_top.specs.declared.halt.Halt.TheVariants as halt
use Rattle.cloner_top.specs.declared.refusal.Refusal.{Refusal}
use Rattle.cloner_top.specs.declared.refusal.Refusal.TheVariants.{OutOfMemory, Usage, NotRead}
use Rattle.cloner_top.specs.declared.refusal.Refusal.TheVariants.{Stopped, Exceeded, CannotWrite}
use Rattle.cloner_top.specs.Deciding.{clones_of_book}
use Rattle.cloner_top.specs.Endings.{HasWritten, IsExcessOf, MayLive, finished, limit_met_at, over_live, run_texts}
use Rattle.cloner_top.specs.Endings.{whole_output}
use Rattle.cloner_top.specs.LiveRuns.{HaltsFor, HaltsWith, IsJournaledRun, IsLiveWorld, StopsLive}
use Rattle.cloner_top.specs.Outsides.{AreDone, IsDone, IsHalted}
use Rattle.cloner_top.proofs.Endings.{put_done}
use Rattle.cloner_top.proofs.Runs.{short_planned}

-- ---- IsJournaledRun

module _ (net : Net) (s : ScriptView) (old_steps new_steps : ℕ) (live : LiveRun) (text : List ℕ)
    (ran : IsJournaledRun net s old_steps new_steps live text) where
  -- the world at the horizon, with the text
  module _ (w : WorldView) (is : live.run ≡ Ok w) where
    -- the run is finished
    ends : IsAtHorizon net live.book w
    ends = IfOk-at_ok (IsAtHorizon net live.book) is ran.live_run.finished

    -- its clones are those of the journal
    clones_are : w.clones ≡ (after net live.book.events).clones
    clones_are = ap (λ (v : WorldView). v.clones) ends.world_is

    -- it is one of the network
    net_is : w.net ≡ net
    net_is = ap (λ (v : WorldView). v.net) ends.world_is

    -- and its front is the horizon
    front_is : w.front ≡ net.horizon
    front_is = ap (λ (v : WorldView). v.front) ends.world_is

    -- a live run leads to a live study's world, if its clones are planned, and no log is beyond the limit
    pub live_world : (t : List ℕ) → t ≡ text → NoneBeyond w.net w.clones w.front
        → ArePlanned live.book.net (clones_of_book live.book)
        → IsLiveWorld net s old_steps new_steps w t
    live_world t same none planned =
        let within : AreWithin net w.clones =
        subst (λ f. NoneBeyond net w.clones f) front_is
        (subst (λ (n : Net). NoneBeyond n w.clones w.front) net_is none) in
        let all : ArePlanned net (after net live.book.events).clones =
        subst (λ (n : Net). ArePlanned n (after n live.book.events).clones) ran.live_run.journal.net_is planned in
        record {
          may_put = record {
            may_report = record { net = net_is; ended = front_is };
            length_max = subst AreShort (sym clones_are) (short_planned net (after net live.book.events).clones all);
          };
          may = subst (λ x. MayLive net s (whole_output (x ∷ run_texts net w.clones)
              (total_handled net w.clones net.horizon))) (sym (same ∙ ran.text_is))
              (subst (λ cs. MayLive net s (whole_output
              (journal_text s.analysts live.book.events (all_looks live.looks.items) ∷ run_texts net cs)
              (total_handled net cs net.horizon))) (sym clones_are)
              (finished live.book (all_looks live.looks.items) ran.live_run.journal ends.last (IfOk-at_ok
              (λ (v : WorldView). AreLooks net s live.book.events (all_looks live.looks.items)) is ran.live_run.looks)
              (subst (λ cs. AreWithin net cs) clones_are within)));
          steps = IfOk-at_ok
              (λ (v : WorldView). new_steps ≡ old_steps + total_handled net v.clones net.horizon) is ran.steps;
        }

  -- the same for values made from the world
  pub live_ok : {X : Type 0} (world : X → WorldView) (told : X → List ℕ) (r : Result X Halt)
      → IfOk r (λ x. (live.run ≡ Ok (world x)) × (told x ≡ text))
      → IfOk r (λ x. NoneBeyond (world x).net (world x).clones (world x).front)
      → IfOk r (λ x. ArePlanned live.book.net (clones_of_book live.book))
      → IfOk r (λ x. IsLiveWorld net s old_steps new_steps (world x) (told x))
  live_ok world told (Ok x) is none planned = live_world (world x) is.0 (told x) is.1 none planned
  live_ok world told (Err h) is none planned = tt

  -- why there is no world
  pub live_stops : (told : Net) → told ≡ net → (h : Halt)
      → ((e : StudyFault) × ((live.run ≡ Err e) × HaltsFor told live.book.events text e h))
      → StopsLive net s old_steps new_steps h
  live_stops told same h why =
      by_fault why.0 h (IfErr-at_err (StopsEngine net live.book.events) why.1.0 ran.live_run.stopped)
      (IfErr-at_err (λ (e : StudyFault). new_steps ≡ old_steps) why.1.0 ran.idle)
      (subst (λ (n : Net). HaltsFor n live.book.events text why.0 h) same why.1.1)
    where
      told_limit : (station who : ℕ) (h : Halt) → StopsEngine net live.book.events (LimitMet station who)
          → new_steps ≡ old_steps
          → HaltsWith text (limit_met_at net station (clone_at (after net live.book.events).clones who).name) h
          → StopsLive net s old_steps new_steps h
      told_limit station who (halt.Refused refusal) stopped idle is = absurd is
      told_limit station who (halt.Overrun journal excess) stopped idle is =
          subst (λ x. IsExcessOf (MayLive net s) old_steps new_steps (x ∷ []) excess) (sym (is.0 ∙ ran.text_is))
          (subst (λ x. IsExcessOf (MayLive net s) old_steps new_steps
          (journal_text s.analysts live.book.events (all_looks live.looks.items) ∷ []) x) (sym is.1)
          (record {
            most = most_handled net (length (after net live.book.events).clones);
            may = over_live live.book (all_looks live.looks.items) station who ran.live_run.journal ran.live_run.made
                stopped;
            steps = omega (arith, idle);
          }))

      by_fault : (e : StudyFault) (h : Halt) → StopsEngine net live.book.events e → new_steps ≡ old_steps
          → HaltsFor net live.book.events text e h → StopsLive net s old_steps new_steps h
      by_fault NoMemory h stopped idle is = subst (StopsLive net s old_steps new_steps) (sym is) tt
      by_fault (LimitMet station who) h stopped idle is = told_limit station who h stopped idle is

-- ---- what is written

-- a live study without texts is not written
pub stops_halted : (net : Net) (s : ScriptView) (old_steps new_steps : ℕ) (out : SinkView) (h : Halt)
    → StopsLive net s old_steps new_steps h → IsHalted (MayLive net s) old_steps new_steps out out h
stops_halted net s old_steps new_steps out (halt.Overrun journal excess) h = (h, refl)
stops_halted net s old_steps new_steps out (halt.Refused OutOfMemory) h = refl
stops_halted net s old_steps new_steps out (halt.Refused Usage) h = absurd h
stops_halted net s old_steps new_steps out (halt.Refused (NotRead text)) h = absurd h
stops_halted net s old_steps new_steps out (halt.Refused (Stopped stop)) h = absurd h
stops_halted net s old_steps new_steps out (halt.Refused (Exceeded excess)) h = absurd h
stops_halted net s old_steps new_steps out (halt.Refused CannotWrite) h = absurd h

-- the texts of a live study were put, or why not
pub live_done : {T : Type 0} (net told : Net) (s : ScriptView) (old_steps new_steps : ℕ) (w : WorldView)
    (text put : List ℕ) → IsLiveWorld net s old_steps new_steps w text → told ≡ net → put ≡ text
    → (old new : SinkView) (r : Result T Refusal) → AreDone (put ∷ run_texts told w.clones) old new r
    → IsDone (MayLive net s) old_steps new_steps old new r
live_done net told s old_steps new_steps w text put is same_net same_text old new r h =
    let wrote : HasWritten (MayLive net s) old_steps new_steps (text ∷ run_texts net w.clones) =
    record { work = total_handled net w.clones net.horizon; may = is.may; steps = is.steps } in
    put_done (MayLive net s) old_steps new_steps (text ∷ run_texts net w.clones) old new r wrote
    (subst (λ t. AreDone t old new r) (ap₂ (λ t (n : Net). t ∷ run_texts n w.clones) same_text same_net) h)
