-- The effect of one turn of a one-thread run.
use Rattle.std.proofs.Common.{◌≡◌, inl, inr, ℕ, zero, suc, ◌+◌, ◌*◌, ◌-◌, ◌<◌, ◌≤◌, refl}
use Rattle.std.proofs.Common.{ap, sym, subst, ◌∙◌, List, [], ◌∷◌, ◌++◌, length, length-append, append-nil, Some, None}
use Rattle.std.proofs.Common.{slice_get, slice_set, unwrap_or, nat_le, arith}
use Rattle.std.proofs.Math.Nat.{suc-mul}
use Rattle.std.proofs.Math.Path.{fun_ext}
use Rattle.std.specs.List.{AllByRecursion, sum_by}
use Rattle.std.proofs.lemmas.List.{length-set, append_assoc}
use Rattle.std.proofs.lemmas.List.Sums.{sum_by-cons, sum_by-set}
use Rattle.std.proofs.lemmas.Bool.{cases_eq, cases_lt, cond-true, cond-false, le-leb, lt-leb}
use Rattle.std.proofs.lemmas.Option.{get_or_from_slice_get, slice_get_within}
use Rattle.sim_base.specs.Order.{msg_cmp}
use Rattle.sim_base.specs.declared.message.Msg.{Msg}
use Rattle.sim_base.specs.declared.entry.Entry.{Entry}
use Rattle.sim_base.specs.declared.entry.Line.{Line}
use Rattle.run_laws.specs.Queue.{insert_all, Sorted}
use Rattle.run_laws.specs.Machine.{Config}
use Rattle.run_laws.specs.Simulation.{Outcome}
use Rattle.run_laws.specs.World.{World, put, log_of}
use Rattle.run_laws.proofs.Queue.{sorted_insert_all, all_insert_all}
use Rattle.run_laws.proofs.Worlds.{put_same, put_other, log_here, log_there}
use Rattle.run_laws.proofs.Lists.{slice_get-set_same, slice_get-set_other}
use Rattle.net_model.specs.Net.{Net}
use Rattle.net_model.specs.Rules.{IsNet}
use Rattle.stations.specs.Handling.{StateView, handle}
use Rattle.stations.specs.Opening.{setup}
use Rattle.stations.specs.Sends.{AreSends}
use Rattle.stations.specs.declared.sender.TheConstants.{MAX_EVENT_TIMES}
use Rattle.stations.proofs.Lawful.{handles-fitting}
use Rattle.stations.proofs.GoodLaws.{lawful-stations}
use Rattle.solo_run.specs.EventLists.{IsForStation, all_messages}
use Rattle.solo_run.specs.declared.event_list.EventList.{EventList}
use Rattle.solo_run.specs.Limit.{receiver, first_beyond}
use Rattle.solo_run.specs.SoloView.{Entries, SoloView, IsSoloAfter, IsStateAfter}
use Rattle.solo_run.specs.SoloView.{state_of, with_due}
use Rattle.solo_run.specs.Turns.{HandlesAt, HasTurned}

-- ---- SoloView

-- the view of a run with these parts
abbrev pub solo_view : List StateView → List (Entry Msg Line) → EventList → SoloView
solo_view states trace pending = record { states = states; pending = all_messages pending; trace = trace }

-- ---- sum_by

-- a sum with one element changed
sum_by-set_one : {X : Type 0} (f : X → ℕ) (xs : List X) (i : ℕ) (x y : X) → slice_get xs i ≡ Some x
    → sum_by f (slice_set xs i y) + f x ≡ sum_by f xs + f y
sum_by-set_one f xs i x y is = subst (λ z. sum_by f (slice_set xs i y) + f z ≡ sum_by f xs + f y)
    (get_or_from_slice_get xs i x x is) (sum_by-set f xs i y x (slice_get_within xs i x is))

-- a sum of numbers that are at most n
pub sum_most : {X : Type 0} (f : X → ℕ) (n : ℕ) (xs : List X) → ((i : ℕ) (x : X) → slice_get xs i ≡ Some x → f x ≤ n)
    → sum_by f xs ≤ length xs * n
sum_most f n [] most = omega arith
sum_most f n (x ∷ xs) most =
    let first = most 0 x refl in
    let rest = sum_most f n xs (λ i y is. most (suc i) y is) in
    let whole : length (x ∷ xs) * n ≡ length xs * n + n = suc-mul (length xs) n in
    omega (arith, sum_by-cons f x xs, first, rest, whole)

-- ---- state_of

-- the states by number, if one changes
state_of-set : (net : Net) (states : List StateView) (i : ℕ) (st : StateView) → i < length states → (s : ℕ)
    → state_of net (slice_set states i st) s ≡ put (state_of net states) (suc i) st s
state_of-set net states i st there zero =
    sym (put_other (state_of net states) (suc i) st zero (λ e. absurd (omega (arith, e))))
state_of-set net states i st there (suc j) = elim (cases_eq j i) [
  | inl e ↦ ap (λ o. unwrap_or o (setup net (suc j)).state) (ap (λ k. slice_get (slice_set states i st) k) e
      ∙ slice_get-set_same states i st there) ∙ sym (put_same (state_of net states) (suc i) st (suc j) (ap suc e))
  | inr n ↦ ap (λ o. unwrap_or o (setup net (suc j)).state) (slice_get-set_other states j i st n)
      ∙ sym (put_other (state_of net states) (suc i) st (suc j) (λ e. n (omega (arith, e))))
]

-- ---- first_beyond

module _ (limit : ℕ) where
  -- an entry whose log is full before it
  pub beyond_here : (seen : List (Entry Msg Line)) (e : Entry Msg Line) (es : List (Entry Msg Line))
      → limit ≤ length (log_of receiver e.msg.to seen) → first_beyond limit seen (e ∷ es) ≡ Some e.msg.to
  beyond_here seen e es full = cond-true (nat_le limit (length (log_of receiver e.msg.to seen))) (Some e.msg.to)
      (first_beyond limit (seen ++ e ∷ []) es) (le-leb limit (length (log_of receiver e.msg.to seen)) full)

  -- if the log of an entry's station is not full, the first one beyond the limit is among the later entries
  pub beyond_later : (seen : List (Entry Msg Line)) (e : Entry Msg Line) (es : List (Entry Msg Line))
      → length (log_of receiver e.msg.to seen) < limit
      → first_beyond limit seen (e ∷ es) ≡ first_beyond limit (seen ++ e ∷ []) es
  beyond_later seen e es below = cond-false (nat_le limit (length (log_of receiver e.msg.to seen))) (Some e.msg.to)
      (first_beyond limit (seen ++ e ∷ []) es) (lt-leb limit (length (log_of receiver e.msg.to seen)) below)

  -- if no entry goes beyond the limit, the first one beyond it is among the later entries
  pub beyond_append : (seen es more : List (Entry Msg Line)) → first_beyond limit seen es ≡ None
      → first_beyond limit seen (es ++ more) ≡ first_beyond limit (seen ++ es) more
  beyond_append seen [] more none = ap (λ t. first_beyond limit t more) (sym (append-nil seen))
  beyond_append seen (e ∷ es) more none = elim (cases_lt (length (log_of receiver e.msg.to seen)) limit) [
    | inr full ↦ absurd (let h = sym (beyond_here seen e es full) ∙ none in cc)
    | inl below ↦ beyond_later seen e (es ++ more) below ∙ beyond_append (seen ++ e ∷ []) es more
        (sym (beyond_later seen e es below) ∙ none)
        ∙ ap (λ t. first_beyond limit t more) (append_assoc seen (e ∷ []) es)
  ]

  -- and one more entry does not go beyond it if the log of its station is shorter than the limit
  beyond_none : (past trace : Entries) (e : Entry Msg Line) → first_beyond limit past trace ≡ None
      → length (log_of receiver e.msg.to (past ++ trace)) < limit → first_beyond limit past (trace ++ e ∷ []) ≡ None
  beyond_none past trace e none below =
      beyond_append past trace (e ∷ []) none ∙ beyond_later (past ++ trace) e [] below

-- ---- a turn

-- the sends of a station are for stations
sends_for : (net : Net) (now s k : ℕ) (ms : List Msg) → AreSends net now s k ms
    → AllByRecursion (IsForStation (length net.sites)) ms
sends_for net now s k [] are = tt
sends_for net now s k (m ∷ ms) are = (
  (are.0.is_station.low, are.0.is_station.high),
  sends_for net now s (suc k) ms are.1,
)

module _ (net : Net) (valid : IsNet net) (past : Entries) (v : SoloView) (m : Msg) (new : List StateView)
    (next : List Msg) (sends : List Msg) (line : Line)
    (early : m.key.time < MAX_EVENT_TIMES)
    (solo : IsSoloAfter net past (with_due m v))
    (h : HandlesAt net (m.to - 1) m v.states new sends line) where
  -- the entry that the turn adds to the trace
  abbrev pub e : Entry Msg Line
  e = record { msg = m; line = line }

  -- the station of the message
  number : suc (m.to - 1) ≡ m.to
  number = let low : 1 ≤ m.to = solo.targets.0.0 in omega arith

  -- its state before the turn
  old : IsStateAfter net (past ++ v.trace) (m.to - 1) h.before
  old = solo.states (m.to - 1) h.before h.is_there

  -- is one of the states
  within : m.to - 1 < length v.states
  within = slice_get_within v.states (m.to - 1) h.before h.is_there

  -- and has handled the messages of the station's log
  full_log : h.before.handled ≡ length (log_of receiver m.to (past ++ v.trace))
  full_log = old.log ∙ ap (λ k. length (log_of receiver k (past ++ v.trace))) (let low : 1 ≤ m.to = solo.targets.0.0 in
      omega arith)

  -- the run has reached the state after the turn
  pub has_turned : next ≡ insert_all msg_cmp sends v.pending
      → HasTurned net v m (record { states = new; pending = next; trace = v.trace ++ e ∷ [] })
  has_turned is =
      let at : state_of net v.states m.to ≡ h.before =
      subst (λ k. state_of net v.states k ≡ h.before) number
      (ap (λ o. unwrap_or o (setup net (suc (m.to - 1))).state) h.is_there) in
      let gives = ap (λ st. handle net st m) at ∙ h.gives in
      let one : state_of net new ≡ put (state_of net v.states) m.to h.after =
      subst (λ k. state_of net new ≡ put (state_of net v.states) k h.after) number
      (ap (state_of net) h.new_states ∙ fun_ext (state_of-set net v.states (m.to - 1) h.after within)) in
      let F : Outcome StateView Msg Line → Config (World StateView Msg Line) Msg =
      λ d. record {
        at = record {
          states = put (state_of net v.states) m.to d.state;
          trace = v.trace ++ record { msg = m; line = d.line } ∷ [];
        };
        pending = insert_all msg_cmp d.sends
            v.pending;
      } in
      ap (λ f. record { at = record { states = f; trace = v.trace ++ e ∷ [] }; pending = next }) one
      ∙ ap (λ p. record {
        at = record {
          states = put (state_of net v.states) m.to h.after;
          trace = v.trace ++ e ∷ [];
        };
        pending = p;
      }) is
      ∙ sym (ap F gives)

  -- the states after the turn, which adds the entry to the past and the trace together
  states_after_entry : (i : ℕ) (st : StateView) → slice_get new i ≡ Some st
      → IsStateAfter net ((past ++ v.trace) ++ e ∷ []) i st
  states_after_entry i st is = elim (cases_eq i (m.to - 1)) [
    | inl here ↦
        let at : slice_get new (m.to - 1) ≡ Some h.after = ap (λ t. slice_get t (m.to - 1)) h.new_states
        ∙ slice_get-set_same v.states (m.to - 1) h.after within in
        let same : st ≡ h.after = let k = sym is ∙ (ap (slice_get new) here ∙ at) in cc in
        let well = handles-fitting net h.before m valid old.fits old.suits early in
        let state = ap (λ d. d.state) h.gives in
        let station : h.after.sender.station ≡ h.before.sender.station = ap (λ d. d.sender.station) (sym state)
        ∙ well.station in
        let handled : h.after.handled ≡ h.before.handled + 1 = ap (λ d. d.handled) (sym state) ∙ well.handled in
        let place : m.to ≡ i + 1 = let low : 1 ≤ m.to = solo.targets.0.0 in omega (arith, here) in
        let log = ap (λ t. length t) (log_here receiver (i + 1) (past ++ v.trace) e place) in
        let more = length-append (log_of receiver (i + 1) (past ++ v.trace)) (e ∷ []) in
        let count = full_log ∙ ap (λ k. length (log_of receiver k (past ++ v.trace))) place in
        let below = h.below in
        let lies = old.station in
        rw same record {
          fits = h.fits;
          suits = h.suits;
          station = omega (arith, station, lies, here);
          within = omega (arith, handled, below);
          log = omega (arith, handled, log, more, count);
        }
    | inr other ↦
        let at : slice_get v.states i ≡ Some st =
        sym (ap (λ t. slice_get t i) h.new_states ∙ slice_get-set_other v.states i (m.to - 1) h.after other) ∙ is in
        let was = solo.states i st at in
        record {
          fits = was.fits;
          suits = was.suits;
          station = was.station;
          within = was.within;
          log = was.log ∙ ap (λ t. length t)
              (sym (log_there receiver (i + 1) (past ++ v.trace) e
              (λ k. other (let low : 1 ≤ m.to = solo.targets.0.0 in omega (arith, k)))));
        }
  ]

  -- the same with the entry in the trace
  states_after : (i : ℕ) (st : StateView) → slice_get new i ≡ Some st
      → IsStateAfter net (past ++ (v.trace ++ e ∷ [])) i st
  states_after i st is = subst (λ (t : Entries). IsStateAfter net t i st)
      (append_assoc past v.trace (e ∷ [])) (states_after_entry i st is)

  -- the sends are for stations
  sends_for_stations : AllByRecursion (IsForStation (length net.sites)) sends
  sends_for_stations =
      let well = handles-fitting net h.before m valid old.fits old.suits early in
      subst (AllByRecursion (IsForStation (length net.sites))) (ap (λ d. d.sends) h.gives)
      (sends_for net m.key.time h.before.sender.station h.before.sender.next
      (handle net h.before m).sends well.sends)

  -- after the turn it is still a run of the network after its past, with no log beyond the limit
  pub is_solo : next ≡ insert_all msg_cmp sends v.pending
      → IsSoloAfter net past (record { states = new; pending = next; trace = v.trace ++ e ∷ [] })
  is_solo is =
      let order = (lawful-stations net valid).order.order in
      let well = handles-fitting net h.before m valid old.fits old.suits early in
      let state = ap (λ d. d.state) h.gives in
      let handled : h.after.handled ≡ h.before.handled + 1 = ap (λ d. d.handled) (sym state) ∙ well.handled in
      let sum = sum_by-set_one (λ st. st.handled) v.states (m.to - 1) h.before h.after h.is_there in
      let new_sum = ap (sum_by (λ st. st.handled)) h.new_states in
      let longer = length-append (past ++ v.trace) (e ∷ []) in
      let same = ap (λ (t : Entries). length t) (append_assoc past v.trace (e ∷ [])) in
      let total = solo.total in
      record {
        valid = valid;
        count = ap (λ t. length t) h.new_states ∙ (length-set v.states (m.to - 1) h.after ∙ solo.count);
        states = states_after;
        sorted = subst (Sorted msg_cmp) (sym is) (sorted_insert_all order sends v.pending solo.sorted.1);
        targets = subst (AllByRecursion (IsForStation (length net.sites))) (sym is)
            (all_insert_all order (IsForStation (length net.sites)) sends v.pending sends_for_stations solo.targets.1);
        total = omega (arith, handled, sum, new_sum, longer, same, total);
        below = beyond_none net.limit past v.trace e solo.below (let below = h.below in omega (arith, full_log, below));
      }
