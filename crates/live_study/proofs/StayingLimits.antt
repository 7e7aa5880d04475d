-- The limit that is met at the last front of a journal is met there whatever calls follow.
use Rattle.std.proofs.Common.{◌≡◌, ℕ, ◌<◌, ◌≤◌, List, [], ◌∷◌, ◌++◌, length, map, refl, sym, ap, subst}
use Rattle.std.proofs.Common.{arith}
use Rattle.std.proofs.lemmas.List.Sums.{fold-append}
use Rattle.sim_base.specs.Clones.{Clone, clone_at}
use Rattle.net_model.specs.Net.{Net}
use Rattle.net_model.specs.Rules.{IsNet}
use Rattle.run_laws.specs.Queue.{In}
use Rattle.stations.specs.Runs.{IsBeyond}
use Rattle.decision_book.specs.declared.call.Call.{Call}
use Rattle.decision_book.specs.Journal.{Event, Situation, NewFront, NewCall, after, after_event, fronts_of, outset}
use Rattle.decision_book.specs.Journal.{front_of}
use Rattle.decision_book.specs.Right.{IsRight, MayFollow}
use Rattle.decision_book.proofs.JournalScripts.{each_later}
use Rattle.decision_desk.proofs.Journals.{front_calls}
use Rattle.decision_desk.proofs.Leasts.{front_is}
use Rattle.world_core.specs.Overs.{IsFirstBeyond, NoneBeyond}
use Rattle.live_study.specs.Engines.{MeetsLimitLast}
use Rattle.live_study.specs.Laws.{KeepLogs}
use Rattle.live_study.proofs.Staying.{keep_logs-after}

-- ---- clones that keep the logs of others
module _ (net : Net) (front : ℕ) (old new : List Clone) (keep : KeepLogs net front old new) where
  -- a log that is beyond the limit was so
  beyond_before : (s c : ℕ) → c < length new → IsBeyond net s front (clone_at new c)
      → (d : ℕ) × (d < length old) × IsBeyond net s front (clone_at old d)
  beyond_before s c l h =
      let from = keep.origins c l in
      (from.0, from.1, subst (λ es. net.limit < length es) (from.2 s) h)

  -- the log of a clone that was there was beyond it too
  beyond_there : (s c : ℕ) → c < length old → IsBeyond net s front (clone_at new c)
      → IsBeyond net s front (clone_at old c)
  beyond_there s c l h = subst (λ es. net.limit < length es) (keep.logs c s l) h

  -- if none was beyond it, none is
  none_beyond : NoneBeyond net old front → NoneBeyond net new front
  none_beyond within c l s is h = (let was = beyond_before s c l h in within was.0 was.1 s is was.2)

  -- the first that is beyond the limit is the same
  first_beyond : (station who : ℕ) → IsFirstBeyond net old front station who → IsFirstBeyond net new front station who
  first_beyond station who f = record {
    is_station = f.is_station;
    clone = omega (arith, f.clone, keep.many);
    beyond = subst (λ es. net.limit < length es) (sym (keep.logs who station f.clone)) f.beyond;
    least_station = λ s low less c l h. (let was = beyond_before s c l h in
        f.least_station s low less was.0 was.1 was.2);
    least_clone = λ c less h. f.least_clone c less
        (beyond_there station c (omega (arith, less, f.clone)) h);
  }

-- ---- calls after a journal
-- calls after a journal add no front
fronts_of-calls : (h : List Event) (cs : List Call) → fronts_of (h ++ map NewCall cs) ≡ fronts_of h
fronts_of-calls [] [] = refl
fronts_of-calls [] (c ∷ cs) = fronts_of-calls [] cs
fronts_of-calls (NewFront f ∷ h) cs = ap (λ fs. f ∷ fs) (fronts_of-calls h cs)
fronts_of-calls (NewCall c ∷ h) cs = fronts_of-calls h cs

-- nor do they change a log before a front up to its last one
keep_logs-calls : (net : Net) → IsNet net → (h : List Event) (cs : List Call) → IsRight net (h ++ map NewCall cs)
    → (front : ℕ) → front ≤ front_of h
    → KeepLogs net front (after net h).clones (after net (h ++ map NewCall cs)).clones
keep_logs-calls net valid h cs right front early =
    subst (KeepLogs net front (after net h).clones)
    (sym (ap (λ (s : Situation). s.clones) (fold-append after_event (outset net) h (map NewCall cs))))
    (keep_logs-after net valid front h (map NewCall cs) (after net h) refl (omega (arith, early, front_is net h))
    (each_later (MayFollow net) [] h (map NewCall cs) right))

-- a limit that is met at the last front of a journal is met there with calls after it
pub met_stays : (net : Net) → IsNet net → (h : List Event) (cs : List Call) → IsRight net (h ++ map NewCall cs)
    → (station who : ℕ) → MeetsLimitLast net h station who → MeetsLimitLast net (h ++ map NewCall cs) station who
met_stays net valid h cs right station who met =
    let last : front_of (h ++ map NewCall cs) ≡ front_of h = front_calls h cs in
    let old = (after net h).clones in
    let new = (after net (h ++ map NewCall cs)).clones in
    record {
      first = subst (λ f. IsFirstBeyond net new f station who) (sym last)
          (first_beyond net (front_of h) old new (keep_logs-calls net valid h cs right (front_of h) (omega arith))
          station who met.first);
      none_before = λ f among less.
          (let before : f < front_of h = omega (arith, less, last) in
          none_beyond net f old new (keep_logs-calls net valid h cs right f (omega (arith, before)))
          (met.none_before f (subst (In f) (fronts_of-calls h cs) among) before));
    }
