-- Calls after a front change no log before it.
use Rattle.std.proofs.Common.{◌≡◌, inl, inr, ⊎_elim, ℕ, ◌<◌, ◌≤◌, List, [], ◌∷◌, ◌++◌, length, length-set}
use Rattle.std.proofs.Common.{None, unwrap_or, slice_set, fold, refl, sym, ap, ◌∙◌, subst, arith}
use Rattle.std.proofs.lemmas.Bool.{cases_eq}
use Rattle.std.proofs.lemmas.List.{length_push}
use Rattle.std.proofs.lemmas.List.Sums.{fold-append}
use mathlib.Core.List.{IsPrefix}
use Rattle.sim_base.specs.Clones.{Clone, base, clone_at, clones_with_fork, fork_of, with_plan}
use Rattle.sim_base.specs.Clones.{with_end}
use Rattle.sim_base.specs.declared.decision.Decision.{Decision}
use Rattle.sim_base.specs.declared.decision.Decision.TheVariants.{Fork, Set, End}
use Rattle.sim_base.specs.declared.decision.Planned.{Planned}
use Rattle.net_model.specs.Net.{Net}
use Rattle.net_model.specs.Rules.{IsNet}
use Rattle.run_laws.specs.World.{log_of}
use Rattle.run_laws.specs.Runs.{end_of}
use Rattle.run_laws.proofs.Forks.{log_at-fork}
use Rattle.run_laws.proofs.Late.{decision_adds_due, end_drops_due}
use Rattle.run_laws.proofs.Places.{set_cases, clone_push_same, clone_push_other}
use Rattle.stations.specs.Runs.{simulation, log_at}
use Rattle.stations.proofs.GoodLaws.{lawful-stations}
use Rattle.decision_book.specs.declared.call.Call.{Call}
use Rattle.decision_book.specs.declared.call.Reply.TheVariants.{Accepted}
use Rattle.decision_book.specs.Journal.{Event, Situation, NewFront, NewCall, after, after_event, outset}
use Rattle.decision_book.specs.Journal.{clones_after, if_accepted, plan_of_set}
use Rattle.decision_book.specs.Replies.{reply}
use Rattle.decision_book.specs.Right.{EachAfter, IsRight, MayFollow}
use Rattle.decision_book.proofs.ClonesByName.{place_of-bounds}
use Rattle.decision_book.proofs.JournalScripts.{ChangesNothing, each_later, accepted_or_refused, net_stays}
use Rattle.decision_book.proofs.Rows.{IsOpen-accepted}
use Rattle.world_core.specs.Taking.{IsAccepted, situation}
use Rattle.world_core.proofs.Accepted.{accepted_at, may_end, may_set}
use Rattle.live_study.specs.Laws.{KeepLogs, LogsStay}

-- ---- KeepLogs
module _ (net : Net) (front : ℕ) where
  -- clones keep their own names and logs
  pub keep_logs-refl : (clones : List Clone) → KeepLogs net front clones clones
  keep_logs-refl clones = record {
    many = omega arith;
    names = λ c l. refl;
    logs = λ c s l. refl;
    origins = λ c l. (c, l, λ s. refl);
  }

  -- clones that keep the logs of clones which keep those of others keep the logs of these others
  pub keep_logs-trans : (a b c : List Clone) → KeepLogs net front a b → KeepLogs net front b c
      → KeepLogs net front a c
  keep_logs-trans a b c p q = record {
    many = omega (arith, p.many, q.many);
    names = λ i l. q.names i (omega (arith, l, p.many)) ∙ p.names i l;
    logs = λ i s l. q.logs i s (omega (arith, l, p.many)) ∙ p.logs i s l;
    origins = λ i l. (let later = q.origins i l in let first = p.origins later.0 later.1 in
        (first.0, first.1, λ s. later.2 s ∙ first.2 s));
  }

  -- a fork has the logs of its origin
  keep_logs-fork : (clones : List Clone) (name : List ℕ) (old : ℕ) → old < length clones
      → (clone_at clones old).end ≡ None → KeepLogs net front clones (clones_with_fork clones name old)
  keep_logs-fork clones name old there open_end =
      let k : Clone = fork_of (clone_at clones old) name in
      let longer = length_push clones k in
      record {
        many = omega (arith, longer);
        names = λ c l. ap (λ (x : Clone). x.name) (clone_push_other clones k c (λ e. omega (arith, e, l)));
        logs = λ c s l. ap (λ (x : Clone). log_at net x s front)
            (clone_push_other clones k c (λ e. omega (arith, e, l)));
        origins = λ c l. elim (cases_eq c (length clones)) [
          | inl e ↦ (
            old,
            there,
            λ s. ap (λ (x : Clone). log_at net x s front)
                (ap (clone_at (clones ++ k ∷ [])) e ∙ clone_push_same clones k)
                ∙ log_at-fork (simulation net) (clone_at clones old) name open_end s front,
          )
          | inr n ↦ (
            c,
            less c n (omega (arith, l, longer)),
            λ s. ap (λ (x : Clone). log_at net x s front) (clone_push_other clones k c n),
          )
        ];
      }
    where
      less : (c : ℕ) → (c ≡ length clones → ⊥) → c ≤ length clones → c < length clones
      less c n l = grind arith

  -- a clone that is changed, but for its name and its logs
  keep_logs-set : (clones : List Clone) (who : ℕ) (k : Clone) → who < length clones
      → k.name ≡ (clone_at clones who).name
      → ((s : ℕ) → log_at net k s front ≡ log_at net (clone_at clones who) s front)
      → KeepLogs net front clones (slice_set clones who k)
  keep_logs-set clones who k there name log = record {
    many = omega (arith, length-set clones who k);
    names = λ c l. set_cases (λ c x. x.name ≡ (clone_at clones c).name) clones who k there name (λ c n. refl) c;
    logs = λ c s l. log_same c s;
    origins = λ c l. (c, omega (arith, l, length-set clones who k), log_same c);
  }
    where
      log_same : (c s : ℕ) → log_at net (clone_at (slice_set clones who k) c) s front
          ≡ log_at net (clone_at clones c) s front
      log_same c s = set_cases (λ c x. log_at net x s front ≡ log_at net (clone_at clones c) s front) clones who k there
          (log s) (λ c n. refl) c

-- ---- accepted decisions
module _ (net : Net) (valid : IsNet net) (front : ℕ) where
  -- an accepted decision keeps the logs at each front up to the present one
  pub keep_logs-decided : (clones : List Clone) (now : ℕ) (d : Decision) → front ≤ now → IsAccepted net clones now d
      → KeepLogs net front clones (clones_after net clones d)
  keep_logs-decided clones now (Fork new old) late accepted =
      let o = IsOpen-accepted (situation net clones now) (Fork new old) accepted in
      subst (λ (i : ℕ). KeepLogs net front clones (clones_with_fork clones new i)) (sym (ap
      (λ p. unwrap_or p 0) o.place))
      (keep_logs-fork net front clones new o.clone (place_of-bounds old clones o.clone o.place) o.going)
  keep_logs-decided clones now (Set who at station change) late accepted =
      let o = IsOpen-accepted (situation net clones now) (Set who at station change) accepted in
      let plan : Planned = plan_of_set net at station change in
      let m = may_set net clones now o.clone at who station change o.rest in
      let timely : front ≤ at = omega (arith, late, m.late) in
      subst (λ (i : ℕ). KeepLogs net front clones (slice_set clones i (with_plan (clone_at clones i) plan)))
      (sym (ap (λ p. unwrap_or p 0) o.place))
      (keep_logs-set net front clones o.clone (with_plan (clone_at clones o.clone) plan)
      (place_of-bounds who clones o.clone o.place) refl
      (λ s. ap (λ w. log_of (simulation net).to s w.trace)
      (decision_adds_due (lawful-stations net valid) (clone_at clones o.clone) plan front timely).world))
  keep_logs-decided clones now (End who at) late accepted =
      let o = IsOpen-accepted (situation net clones now) (End who at) accepted in
      let m = may_end net clones now o.clone at who o.rest in
      let timely : front ≤ at = omega (arith, late, m.0) in
      let horizon : end_of (simulation net) (clone_at clones o.clone) ≡ net.horizon =
      ap (λ e. unwrap_or e net.horizon) o.going in
      subst (λ (i : ℕ). KeepLogs net front clones (slice_set clones i (with_end (clone_at clones i) at)))
      (sym (ap (λ p. unwrap_or p 0) o.place))
      (keep_logs-set net front clones o.clone (with_end (clone_at clones o.clone) at)
      (place_of-bounds who clones o.clone o.place) refl
      (λ s. ap (λ w. log_of (simulation net).to s w.trace)
      (end_drops_due (lawful-stations net valid) (clone_at clones o.clone) at front
      (record { late = timely; within = omega (arith, horizon, m.1) })).world))

  -- so does a call, whatever its reply
  keep_logs-call : (s : Situation) (c : Call) → s.net ≡ net → front ≤ s.front → c.reply ≡ reply s c.decision
      → KeepLogs net front s.clones (after_event s (NewCall c)).clones
  keep_logs-call s c of late answer = ⊎_elim
      (λ (h : c.reply ≡ Accepted).
      let accepted : IsAccepted net s.clones s.front c.decision =
      subst (λ (n : Net). IsAccepted n s.clones s.front c.decision) of
      (accepted_at s c.decision (sym answer ∙ h)) in
      subst (KeepLogs net front s.clones)
      (sym (ap (λ r. if_accepted r (clones_after s.net s.clones c.decision) s.clones) h
      ∙ ap (λ (n : Net). clones_after n s.clones c.decision) of))
      (keep_logs-decided s.clones s.front c.decision late accepted))
      (λ (h : ChangesNothing c.reply). subst (KeepLogs net front s.clones)
      (sym (h.1 (clones_after s.net s.clones c.decision) s.clones)) (keep_logs-refl net front s.clones))
      (accepted_or_refused c.reply)

  -- and so does all that comes after it
  pub keep_logs-after : (before es : List Event) (s : Situation) → after net before ≡ s → front ≤ s.front
      → EachAfter (MayFollow net) before es → KeepLogs net front s.clones (fold after_event s es).clones
  keep_logs-after before [] s is late right = keep_logs-refl net front s.clones
  keep_logs-after before (NewFront f ∷ es) s is late right =
      let stands : (after net before).front ≡ s.front = ap (λ (x : Situation). x.front) is in
      keep_logs-after (before ++ NewFront f ∷ []) es (after_event s (NewFront f))
      (fold-append after_event (outset net) before (NewFront f ∷ [])
      ∙ ap (λ (x : Situation). after_event x (NewFront f)) is)
      (omega (arith, late, stands, right.0.0)) right.1
  keep_logs-after before (NewCall c ∷ es) s is late right =
      let of : s.net ≡ net = ap (λ (x : Situation). x.net) (sym is) ∙ net_stays (outset net) before in
      let answer : c.reply ≡ reply s c.decision = right.0.answer ∙ ap (λ (x : Situation). reply x c.decision) is in
      keep_logs-trans net front s.clones (after_event s (NewCall c)).clones
      (fold after_event (after_event s (NewCall c)) es).clones (keep_logs-call s c of late answer)
      (keep_logs-after (before ++ NewCall c ∷ []) es (after_event s (NewCall c))
      (fold-append after_event (outset net) before (NewCall c ∷ [])
      ∙ ap (λ (x : Situation). after_event x (NewCall c)) is) late
      right.1)

-- ---- LogsStay
-- after a front of a journal
keep_logs-behind : (net : Net) → IsNet net → (before more : List Event) (front : ℕ)
    → IsRight net ((before ++ NewFront front ∷ []) ++ more)
    → KeepLogs net front (after net before).clones (after net ((before ++ NewFront front ∷ []) ++ more)).clones
keep_logs-behind net valid before more front right =
    let s : Situation = after_event (after net before) (NewFront front) in
    let is : after net (before ++ NewFront front ∷ []) ≡ s =
    fold-append after_event (outset net) before (NewFront front ∷ []) in
    subst (KeepLogs net front (after net before).clones)
    (sym (ap (λ (x : Situation). x.clones) (fold-append after_event (outset net) (before ++ NewFront front ∷ []) more
    ∙ ap (λ (x : Situation). fold after_event x more) is)))
    (keep_logs-after net valid front (before ++ NewFront front ∷ []) more s is (omega arith)
    (each_later (MayFollow net) [] (before ++ NewFront front ∷ []) more right))

-- over a valid network, calls after a front of a journal change no log before it
pub logs_stay : (net : Net) → IsNet net → LogsStay net
logs_stay net valid events front clones right at = ⊎_elim
    (λ (h : (front ≡ 0) × (clones ≡ base ∷ [])).
    subst (λ (cs : List Clone). KeepLogs net front cs (after net events).clones) (sym h.1)
    (keep_logs-after net valid front [] events (outset net) refl (omega (arith, h.0)) right))
    (λ (h : (before : List Event) × IsPrefix (before ++ NewFront front ∷ []) events
    × (clones ≡ (after net before).clones)).
    subst (λ (cs : List Clone). KeepLogs net front cs (after net events).clones) (sym h.2)
    (subst (λ (es : List Event). KeepLogs net front (after net h.0).clones (after net es).clones) h.1.1
    (keep_logs-behind net valid h.0 h.1.0 front (subst (IsRight net) (sym h.1.1) right))))
    at
