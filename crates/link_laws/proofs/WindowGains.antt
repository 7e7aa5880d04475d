-- The number handled once in a window, the clones over the limit, and the sum of all windows of a run: the lemmas by
-- logs of run_laws, at the front and the bound of a window.
use Rattle.std.proofs.Common.{◌≡◌, ◌↔◌, ℕ, ◌+◌, ◌*◌, ◌≤◌, ◌<◌, List, [], ◌∷◌, Bool, true, sym, ap, ◌∙◌, subst}
use Rattle.std.proofs.Common.{arith, length}
use Rattle.std.specs.List.{AllByRecursion}
use Rattle.sim_base.specs.Clones.{Clone, clone_at}
use Rattle.sim_base.specs.Marked.{JoinsMarks}
use Rattle.sim_base.specs.declared.entry.Entry.{Entry}
use Rattle.run_laws.specs.Queue.{In}
use Rattle.run_laws.specs.Simulation.{Simulation}
use Rattle.run_laws.specs.Window.{local_run}
use Rattle.run_laws.specs.Runs.{log_at, state_at}
use Rattle.run_laws.specs.Fronts.{least, next_front, IsWindow, AreFronts}
use Rattle.run_laws.specs.Sharing.{handled_once, handled_to_limit, IsBeyond}
use Rattle.run_laws.specs.Handlers.{HandlesLawfully}
use Rattle.run_laws.specs.CountLaws.{TellsEntries, AreWithinLimitAt}
use Rattle.run_laws.specs.Copies.{Copy, Carries, messages_taken, GainTogether, alone_from, AreOver, ends_of, Stands}
use Rattle.run_laws.proofs.Stands.{clone_in, stands_by_logs}
use Rattle.run_laws.proofs.Gaining.{due_at-from_front, IsBeyond-later, over_by_logs, handled_to_limit_by_logs}
use Rattle.run_laws.proofs.Gaining.{handled_once_by_logs, handled_few_by_logs}
use Rattle.run_laws.proofs.NextFronts.{window_end-within, next_front-rises}
use Rattle.run_laws.proofs.HandledStays.{handled-0}
use Rattle.link_laws.specs.WindowLaws.{WindowsGain}
use Rattle.link_laws.proofs.WindowLaws.{windows_give_runs}

-- ---- GainInWindow

module _ {S M N K : Type 0} {sim : Simulation S M N} {Good : ℕ → S → Type 0} (law : HandlesLawfully sim Good)
    {has : K → ℕ → Bool} {join : K → K → K} (j : JoinsMarks has join) (cs : List Clone) (s front bound : ℕ)
    (old : List (Copy S M N K)) (st : Stands sim has cs front s old) where
  -- the messages that a clone takes come at the front or later
  taken_from_front : (a : Copy S M N K) (c : ℕ) → In a old → Carries has a c →
      AllByRecursion (λ m. front ≤ sim.time m) (messages_taken sim has (ends_of sim cs) c a.pending)
  taken_from_front a c i h = subst (AllByRecursion (λ m. front ≤ sim.time m)) (sym (st.due a c i h))
      (due_at-from_front law (clone_at cs c) s front)

  module _ (window : IsWindow sim cs front bound) where
    -- a copy's window for a clone ends with the clone's log at the bound
    window_log : (a : Copy S M N K) (c : ℕ) → In a old → Carries has a c →
        (alone_from sim has (ends_of sim cs) s bound a c).at.log ≡ log_at sim (clone_at cs c) s bound
    window_log a c i h =
        let k : Clone = clone_at cs c in
        let e : ℕ = ends_of sim cs c in
        let w = windows_give_runs law cs k front bound (clone_in cs c (st.living a c i h)) window in
        ap (λ u. u.at.log)
        (ap (λ l. local_run sim s l a.state (messages_taken sim has (ends_of sim cs) c a.pending) bound e)
        (st.log a c i h)
        ∙ (ap (λ l. local_run sim s (log_at sim k s front) l
        (messages_taken sim has (ends_of sim cs) c a.pending) bound e)
        (st.state a c i h)
        ∙ ap (λ l. local_run sim s (log_at sim k s front) (state_at sim k s front) l bound e) (st.due a c i h)))
        ∙ sym (w.log s)

    -- those over the limit are the clones whose logs at the bound are beyond it
    pub over_is_beyond : (over : K) → AreOver sim has (ends_of sim cs) s bound old over → (c : ℕ) →
        (has over c ≡ true) ↔ ((c < length cs) × IsBeyond sim s bound (clone_at cs c))
    over_is_beyond = over_by_logs law j cs s front bound old (stands_by_logs sim has cs front s old st)
        taken_from_front window_log window.later

    -- handled once at the bound, with each log cut to the limit: the number at the front, plus the gains of the copies
    pub handled_grows_to_limit : (same : Entry M N → Entry M N → Bool) (total : ℕ) →
        TellsEntries same → AreWithinLimitAt sim cs s front →
        GainTogether sim has (ends_of sim cs) s bound old total →
        handled_to_limit sim same cs s bound ≡ handled_once sim same cs s front + total
    handled_grows_to_limit = handled_to_limit_by_logs law j cs s front bound old
        (stands_by_logs sim has cs front s old st) taken_from_front window_log window.later

    -- if no log gets too long, nothing is cut
    pub handled_grows : (same : Entry M N → Entry M N → Bool) (total : ℕ) →
        TellsEntries same → AreWithinLimitAt sim cs s bound →
        GainTogether sim has (ends_of sim cs) s bound old total →
        handled_once sim same cs s bound ≡ handled_once sim same cs s front + total
    handled_grows = handled_once_by_logs law j cs s front bound old (stands_by_logs sim has cs front s old st)
        taken_from_front window_log window.later

    -- the limit for each clone bounds the number handled once
    pub handled_is_few : (same : Entry M N → Entry M N → Bool) (total : ℕ) →
        TellsEntries same → AreWithinLimitAt sim cs s front →
        GainTogether sim has (ends_of sim cs) s bound old total →
        handled_once sim same cs s front + total ≤ length cs * sim.limit
    handled_is_few = handled_few_by_logs law j cs s front bound old (stands_by_logs sim has cs front s old st)
        taken_from_front window_log window.later

-- ---- WindowsGain

module _ {S M N K : Type 0} {sim : Simulation S M N} {Good : ℕ → S → Type 0} (law : HandlesLawfully sim Good)
    {has : K → ℕ → Bool} {join : K → K → K} (j : JoinsMarks has join) (same : Entry M N → Entry M N → Bool)
    (decides : TellsEntries same)
    (cs : List Clone) (s : ℕ) (moves : 0 < sim.lookahead) (short : AreWithinLimitAt sim cs s sim.horizon) where
  -- from a front on
  pub windows-add_up : (front n : ℕ) (fs : List ℕ) → AreFronts sim cs front fs → WindowsGain K sim has cs s front fs n →
      handled_once sim same cs s sim.horizon ≡ handled_once sim same cs s front + n
  windows-add_up front n [] e g = ap (handled_once sim same cs s) (sym e)
      ∙ (let h : handled_once sim same cs s front ≡ handled_once sim same cs s front + n = omega (arith, g) in h)
  windows-add_up front n (f ∷ fs) h g =
      let is = h.1 in
      let rises : front < next_front sim cs front = next_front-rises law cs front moves h.0 in
      let far : next_front sim cs front ≤ sim.horizon = window_end-within sim (least sim cs front) in
      let later : front ≤ f = omega (arith, is, rises) in
      let within : f ≤ next_front sim cs front = omega (arith, is) in
      let early : f ≤ sim.horizon = omega (arith, is, far) in
      let one = handled_grows law j cs s front f g.0 g.3 (record { later = later; within = within }) same g.1 decides
      (λ c l long. short c l (IsBeyond-later law (clone_at cs c) s f sim.horizon early long)) g.4 in
      let rest = windows-add_up f g.2 fs h.2 g.5 in
      let e = g.6 in
      omega (arith, one, rest, e)

  -- from the start
  pub run-adds_up : (n : ℕ) (fs : List ℕ) → AreFronts sim cs 0 fs → WindowsGain K sim has cs s 0 fs n →
      handled_once sim same cs s sim.horizon ≡ n
  run-adds_up n fs h g = let e = windows-add_up 0 n fs h g in let z = handled-0 sim same cs s in omega (arith, e, z)
