-- The snapshot of a run is accepted, and the run from it is the run that was not stopped.
use Rattle.std.proofs.Common.{◌≡◌, ℕ, zero, suc, ◌+◌, ◌-◌, ◌<◌, ◌≤◌, ◌⊎◌, inl, inr, List, [], ◌∷◌, ◌++◌, length, Bool}
use Rattle.std.proofs.Common.{true, false, refl, sym, ap, ◌∙◌, Option, Some, None, slice_get, unwrap_or, arith, subst}
use Rattle.std.proofs.Common.{map, min, ◌==◌, eq-eqb, append_assoc}
use Rattle.std.specs.Prelude.{◌&&◌, option_map, IfSome}
use Rattle.std.specs.List.{AllByRecursion}
use Rattle.std.specs.declared.cmp.Ordering.TheVariants.{Less, Equal}
use Rattle.std.proofs.lemmas.Bool.{le-leb, lt-ltb, ne_eqb}
use Rattle.std.proofs.lemmas.List.{length-map}
use Rattle.std.proofs.lemmas.Option.{slice_get-map, slice_get_past}
use Rattle.sim_base.specs.Order.{key_cmp, msg_cmp}
use Rattle.sim_base.specs.Clones.{Clone}
use Rattle.sim_base.proofs.ListLaws.{all_weaker}
use Rattle.sim_base.proofs.OrderEqual.{msg-keyed, three_same}
use Rattle.sim_base.specs.declared.message.Msg.{Msg}
use Rattle.sim_base.specs.declared.message.Payload.{Payload}
use Rattle.sim_base.specs.declared.message.Payload.TheVariants.{Tick, Job, Done, Set}
use Rattle.sim_base.specs.declared.entry.Entry.{Entry}
use Rattle.sim_base.specs.declared.entry.Line.{Line}
use Rattle.run_laws.specs.Queue.{In, Sorted}
use Rattle.run_laws.specs.Machine.{Config}
use Rattle.run_laws.specs.World.{World, log_of}
use Rattle.run_laws.specs.Runs.{run, run_from, end_of, run_of}
use Rattle.run_laws.specs.Handlers.{IsStationOf}
use Rattle.run_laws.specs.Laws.{IsMessageOf}
use Rattle.run_laws.proofs.ForStations.{trace_for_stations}
use Rattle.run_laws.proofs.Lists.{filter_none}
use Rattle.run_laws.proofs.MessageOrder.{messages_ordered}
use Rattle.run_laws.proofs.Queue.{all_in, not_below_itself}
use Rattle.run_laws.proofs.Replaying.{state_is_replay}
use Rattle.run_laws.proofs.Rising.{numbers_are_once}
use Rattle.run_laws.proofs.Worlds.{run_reached}
use Rattle.net_model.specs.Net.{Net, HasStation}
use Rattle.net_model.specs.Rules.{IsNet}
use Rattle.solo_run.specs.SoloView.{config_of, state_of}
use Rattle.stations.specs.Fitting.{fits_saved}
use Rattle.stations.specs.Good.{sender_of, number_of, next_number}
use Rattle.stations.specs.Handling.{StateView}
use Rattle.stations.specs.Opening.{setup}
use Rattle.stations.specs.Runs.{simulation, replay}
use Rattle.stations.specs.Saving.{saved_of, shape_of, restored}
use Rattle.stations.specs.declared.kind_state.KindState.{KindState}
use Rattle.stations.specs.declared.kind_state.KindState.TheVariants.{Source, Server, Delay, Router, Sink}
use Rattle.stations.specs.declared.saved.Saved.{Saved}
use Rattle.stations.specs.declared.sender.TheConstants.{MAX_EVENT_TIMES}
use Rattle.stations.proofs.GoodLaws.{lawful-stations, stations-to_stations, fresh-stations}
use Rattle.checkpoint.specs.Numbers.{PendingNumbersAreUsed}
use Rattle.checkpoint.specs.Resume as resume
use Rattle.checkpoint.specs.RunKeeps.{CarriesJobOf, RunKeepsMessage, RunKeepsWorld}
use Rattle.checkpoint.specs.RunKeeps.{busy_of, completions_in, completions_to}
use Rattle.checkpoint.specs.SavedLaws.{IsRunState}
use Rattle.checkpoint.specs.Tally.{tally}
use Rattle.checkpoint.proofs.Restoring.{state_is_restored}
use Rattle.checkpoint.proofs.ResumedRuns.{resumed_is_unbroken}
use Rattle.checkpoint.proofs.RunKeeps.{run_invariant_holds}
use Rattle.checkpoint.proofs.RunStates.{run_states_are_kept}
use Rattle.checkpoint.proofs.Tallying.{tally-append}
use Rattle.checkpoint.proofs.UsedNumbers.{pending_numbers_are_used_in_runs}
use Rattle.checkpoint.specs.Accepted.{IsAccepted, first_unfit, fits_end}
use Rattle.checkpoint.specs.Due.{busy_in, busy_shape, comes_after, first_bad, has_service, is_less, may_be_due}
use Rattle.checkpoint.specs.Due.{may_carry, next_in, next_of}
use Rattle.checkpoint.specs.Laws.{ResumedRunIsUnbroken, RunIsAccepted}
use Rattle.checkpoint.specs.RunSnapshots.{HasSnapshot, snapshot_of, states_from}
use Rattle.checkpoint.specs.Snapshots.{opened, onward, restored_from}
use Rattle.checkpoint.proofs.SayableRuns.{pending-sayable, lines-sayable}

and-true : (a b : Bool) → a ≡ true → b ≡ true → (a && b) ≡ true
and-true a b p q = rw p q

-- ---- states_from

module _ (f : ℕ → StateView) where
  pub length-states_from : (s n : ℕ) → length (states_from f s n) ≡ n
  length-states_from s zero = refl
  length-states_from s (suc n) = let h = length-states_from (suc s) n in omega (arith, h)

  pub slice_get-states_from : (s n i : ℕ) → i < n → slice_get (states_from f s n) i ≡ Some (f (s + i))
  slice_get-states_from s zero i less = absurd (omega arith)
  slice_get-states_from s (suc n) zero less = let here : s ≡ s + 0 = omega arith in ap (λ r. Some (f r)) here
  slice_get-states_from s (suc n) (suc i) less =
      let next : suc s + i ≡ s + suc i = omega arith in
      slice_get-states_from (suc s) n i (omega arith) ∙ ap (λ r. Some (f r)) next

  -- the states that are those of a list
  pub states_from-list : (s : ℕ) (sts : List StateView) →
      ((i : ℕ) (st : StateView) → slice_get sts i ≡ Some st → f (s + i) ≡ st) → states_from f s (length sts) ≡ sts
  states_from-list s [] each = refl
  states_from-list s (st ∷ sts) each =
      let here : s + 0 ≡ s = omega arith in
      let first : f s ≡ st = ap f (sym here) ∙ each 0 st refl in
      let rest = states_from-list (suc s) sts (λ i u is.
      let next : suc s + i ≡ s + suc i = omega arith in
      ap f next ∙ each (suc i) u is) in
      ap (λ (u : StateView). u ∷ states_from f (suc s) (length sts)) first ∙ ap (λ (l : List StateView). st ∷ l) rest

  -- states that their saved data restores
  restored_from-saved : (net : Net) (s n : ℕ) →
      ((i : ℕ) → i < n → restored net (s + i) (saved_of (f (s + i))) ≡ Some (f (s + i))) →
      restored_from net s (map saved_of (states_from f s n)) ≡ states_from f s n
  restored_from-saved net s zero each = refl
  restored_from-saved net s (suc n) each =
      let here : s + 0 ≡ s = omega arith in
      let first = subst (λ (r : ℕ). restored net r (saved_of (f r)) ≡ Some (f r)) here (each 0 (omega arith)) in
      let rest = restored_from-saved net (suc s) n (λ i less.
      let next : s + suc i ≡ suc s + i = omega arith in
      subst (λ (r : ℕ). restored net r (saved_of (f r)) ≡ Some (f r)) next (each (suc i) (omega arith))) in
      ap (λ (o : Option StateView). unwrap_or o (setup net s).state
      ∷ restored_from net (suc s) (map saved_of (states_from f (suc s) n))) first
      ∙ ap (λ (l : List StateView). f s ∷ l) rest

  -- and whose saved data fits
  first_unfit-saved : (net : Net) (s n : ℕ) →
      ((i : ℕ) → i < n → fits_saved net (s + i) (saved_of (f (s + i))) ≡ true) →
      first_unfit net s (map saved_of (states_from f s n)) ≡ None
  first_unfit-saved net s zero each = refl
  first_unfit-saved net s (suc n) each =
      let here : s + 0 ≡ s = omega arith in
      let first = subst (λ (r : ℕ). fits_saved net r (saved_of (f r)) ≡ true) here (each 0 (omega arith)) in
      let rest = first_unfit-saved net (suc s) n (λ i less.
      let next : s + suc i ≡ suc s + i = omega arith in
      subst (λ (r : ℕ). fits_saved net r (saved_of (f r)) ≡ true) next (each (suc i) (omega arith))) in
      rw first rest

module _ (net : Net) (valid : IsNet net) (c : Clone) (front : ℕ) (at : HasSnapshot net c front) where
  abbrev w : Config (World StateView Msg Line) Msg
  w = run (simulation net) c.plans front

  abbrev saved : List Saved
  saved = map saved_of (states_from w.at.states 1 (length net.sites))

  -- the clone's end is not before the front
  bounded : min front (end_of (simulation net) c) ≡ front
  bounded = let within = at.within in omega (arith, within)

  early : front ≤ net.horizon
  early = let within = at.within in omega (arith, within)

  kept : RunKeepsWorld net w
  kept = run_invariant_holds net valid c.plans front at.clone.time_max early

  -- ---- the states

  station : (i : ℕ) → i < length net.sites → HasStation net (1 + i)
  station i less = record { low = omega arith; high = omega arith }

  state_of_run : (i : ℕ) → i < length net.sites → IsRunState net (1 + i) (w.at.states (1 + i))
  state_of_run i less = subst (λ (n : ℕ). IsRunState net (1 + i) ((run (simulation net) c.plans n).at.states (1 + i)))
      bounded (run_states_are_kept net valid c (1 + i) front (station i less) at.clone.time_max early
      (at.length_max (1 + i) (station i less)))

  fits_and_restored : (i : ℕ) → i < length net.sites →
      (fits_saved net (1 + i) (saved_of (w.at.states (1 + i))) ≡ true)
      × (restored net (1 + i) (saved_of (w.at.states (1 + i))) ≡ Some (w.at.states (1 + i)))
  fits_and_restored i less = state_is_restored net valid (1 + i) (w.at.states (1 + i)) (state_of_run i less)

  same_states : restored_from net 1 saved ≡ states_from w.at.states 1 (length net.sites)
  same_states = restored_from-saved w.at.states net 1 (length net.sites) (λ i less. (fits_and_restored i less).1)

  -- a number without a station has its opening state in every run
  opening_elsewhere : (s : ℕ) → (IsStationOf (length net.sites) s → ⊥) → w.at.states s ≡ (setup net s).state
  opening_elsewhere s other =
      let all = trace_for_stations (lawful-stations net valid) (stations-to_stations net valid) c.plans front
      at.clone.stations in
      let none : log_of (λ (m : Msg). m.to) s w.at.trace ≡ [] = filter_none (λ e. e.msg.to == s) w.at.trace
      (all_weaker (λ (e : Entry Msg Line). IsStationOf (length net.sites) e.msg.to)
      (λ (e : Entry Msg Line). (e.msg.to == s) ≡ false) w.at.trace
      (λ e there. ne_eqb e.msg.to s (λ same. other (subst (IsStationOf (length net.sites)) same there))) all) in
      subst (λ (n : ℕ). (run (simulation net) c.plans n).at.states s
      ≡ replay net s (log_of (λ (m : Msg). m.to) s (run (simulation net) c.plans n).at.trace)) bounded
      (state_is_replay (lawful-stations net valid) c s front)
      ∙ ap (replay net s) none

  -- so the states of all numbers are those that the snapshot restores
  same_state : (s : ℕ) → state_of net (restored_from net 1 saved) s ≡ w.at.states s
  same_state zero = sym (opening_elsewhere 0 (λ there. let low = there.0 in omega (arith, low)))
  same_state (suc i) = ap (λ (l : List StateView). state_of net l (suc i)) same_states
      ∙ by (inside_or_past i (length net.sites))
    where
      inside_or_past : (a b : ℕ) → (a < b) ⊎ (b ≤ a)
      inside_or_past a zero = inr (omega arith)
      inside_or_past zero (suc b) = inl (omega arith)
      inside_or_past (suc a) (suc b) = elim (inside_or_past a b) [
        | inl less ↦ inl (omega (arith, less))
        | inr more ↦ inr (omega (arith, more))
      ]

      by : (i < length net.sites) ⊎ (length net.sites ≤ i) →
          state_of net (states_from w.at.states 1 (length net.sites)) (suc i) ≡ w.at.states (suc i)
      by (inl less) =
          let place : 1 + i ≡ suc i = omega arith in
          ap (λ (o : Option StateView). unwrap_or o (setup net (suc i)).state)
          (slice_get-states_from w.at.states 1 (length net.sites) i less) ∙ ap w.at.states place
      by (inr more) =
          let count = length-states_from w.at.states 1 (length net.sites) in
          ap (λ (o : Option StateView). unwrap_or o (setup net (suc i)).state)
          (slice_get_past (states_from w.at.states 1 (length net.sites)) i (omega (arith, count, more)))
          ∙ sym (opening_elsewhere (suc i) (λ there. let high = there.1 in omega (arith, high, more)))

  -- ---- ResumedRunIsUnbroken

  -- the snapshot opens the run's world without its trace
  opened_is : config_of net (opened net (snapshot_of net c front)) ≡ resume.without_trace w
  opened_is = λ i. record { at = record { states = λ s. same_state s i; trace = [] }; pending = w.pending }

  unbroken : (run (simulation net) c.plans (min net.horizon (end_of (simulation net) c))).at.trace
      ≡ w.at.trace ++ onward net (snapshot_of net c front)
  unbroken =
      let last : ℕ = min net.horizon (end_of (simulation net) c) in
      resumed_is_unbroken (lawful-stations net valid) c front at.within
      ∙ ap (λ (k : Config (World StateView Msg Line) Msg). w.at.trace ++ (run_from (simulation net) k last).at.trace)
      (sym opened_is)

  -- ---- first_bad

  used : PendingNumbersAreUsed (simulation net) sender_of number_of next_number c.plans w
  used = pending_numbers_are_used_in_runs (lawful-stations net valid) (stations-to_stations net valid)
      (fresh-stations net valid) c.plans front at.clone.stations

  reached : AllByRecursion (λ (m : Msg). front ≤ m.key.time) w.pending × Sorted msg_cmp w.pending
  reached = let fine = (run_reached (lawful-stations net valid) c.plans front).1 in (fine.from_t, fine.sorted)

  -- two pending messages with one key are one
  one_key : (a b : Msg) → In a w.pending → In b w.pending → key_cmp a.key b.key ≡ Equal → a ≡ b
  one_key a b i j e =
      let of : (m : Msg) → In m w.pending → IsMessageOf (run_of (simulation net) c front) m =
      λ m k. subst (λ (n : ℕ). IsMessageOf (run (simulation net) c.plans n) m) (sym bounded) (inr k) in
      let keys = three_same a.key.time a.key.sender a.key.number b.key.time b.key.sender b.key.number e in
      numbers_are_once (lawful-stations net valid) (stations-to_stations net valid) (fresh-stations net valid) c front
      a b
      at.clone.stations (of a i) (of b j) keys.1 keys.2

  -- so the first of two has the lower key
  lower_key : (a b : Msg) → In a w.pending → In b w.pending → msg_cmp a b ≡ Less →
      is_less (key_cmp a.key b.key) ≡ true
  lower_key a b i j less = elim (msg-keyed a b less) [
    | inl l ↦ rw l refl
    | inr e ↦ absurd (not_below_itself messages_ordered.total a
        (subst (λ (x : Msg). msg_cmp a x ≡ Less) (sym (one_key a b i j e)) less))
  ]

  saved_at : (i : ℕ) → i < length net.sites → slice_get saved i ≡ Some (saved_of (w.at.states (1 + i)))
  saved_at i less = slice_get-map saved_of (states_from w.at.states 1 (length net.sites)) i
      ∙ ap (option_map saved_of) (slice_get-states_from w.at.states 1 (length net.sites) i less)

  -- the number of a pending message is below the next number of its sender
  number_used : (m : Msg) (sender : ℕ) → m.key.sender ≡ sender →
      ((m.key.sender ≡ 0) × (m.key.number < length c.plans))
      ⊎ (IsStationOf (length net.sites) m.key.sender
      × (m.key.number < (w.at.states m.key.sender).sender.next)) →
      (m.key.sender ≤ length net.sites) × (m.key.number < next_of saved sender)
  number_used m sender is (inl a) =
      let few = at.clone.at_most in
      let zero_is : sender ≡ 0 = sym is ∙ a.0 in
      let who = a.0 in
      let number = a.1 in
      (omega (arith, who), subst (λ (s : ℕ). m.key.number < next_of saved s) (sym zero_is) (omega (arith, number, few)))
  number_used m zero is (inr a) = absurd (let low = a.0.0 in omega (arith, low, is))
  number_used m (suc i) is (inr a) =
      let high = a.0.1 in
      let place : suc i ≡ 1 + i = omega arith in
      let next : m.key.number < (w.at.states (1 + i)).sender.next =
      subst (λ (s : ℕ). m.key.number < (w.at.states s).sender.next) (is ∙ place) a.1 in (
        high,
        subst (λ (o : Option Saved). m.key.number < next_in o) (sym (saved_at i (omega (arith, high, is)))) next,
      )

  -- a server with more jobs in service than completions before has one for the next
  has_service-busy : (before : ℕ) (k : KindState) → before < busy_of k →
      has_service before (busy_shape (shape_of k)) ≡ true
  has_service-busy before (Server s) less = lt-ltb before s.busy less
  has_service-busy before (Source s) less = refl
  has_service-busy before (Delay s) less = refl
  has_service-busy before (Router s) less = refl
  has_service-busy before (Sink s) less = refl

  -- what a pending message carries may be pending
  may_carry-run : (before : List Msg) (m : Msg) (rest : List Msg) (p : Payload) → w.pending ≡ before ++ m ∷ rest →
      IsStationOf (length net.sites) m.to → CarriesJobOf net p → m.payload ≡ p →
      may_carry net saved (tally (completions_to m.to) before) m.to p ≡ true
  may_carry-run before m rest Tick whole there own is = refl
  may_carry-run before m rest (Set x) whole there own is = refl
  may_carry-run before m rest (Job j) whole there own is = own
  may_carry-run before m rest (Done j) whole there own is =
      let low = there.0 in
      let high = there.1 in
      let i : ℕ = m.to - 1 in
      let number : 1 + i ≡ m.to = omega arith in
      let busy : tally (completions_to m.to) w.pending ≤ busy_of (w.at.states (1 + i)).kind =
      subst (λ (s : ℕ). tally (completions_to m.to) w.pending ≤ busy_of (w.at.states s).kind) (sym number)
      (kept.busy m.to) in
      let parts = ap (tally (completions_to m.to)) whole ∙ tally-append (completions_to m.to) before (m ∷ rest) in
      let one : completions_to m.to m ≡ 1 = rw (eq-eqb m.to m.to refl) (ap completions_in is) in
      and-true _ _ own
      (subst (λ (o : Option Saved). has_service (tally (completions_to m.to) before) (busy_in o) ≡ true)
      (sym (saved_at i (omega arith)))
      (has_service-busy (tally (completions_to m.to) before) (w.at.states (1 + i)).kind
      (omega (arith, busy, parts, one))))

  -- the message before another one is pending too, and comes first
  abbrev Follows : Option Msg → Msg → Type 0
  Follows None m = Unit {0}
  Follows (Some p) m = In p w.pending × (msg_cmp p m ≡ Less)

  comes_after-follows : (last : Option Msg) (m : Msg) → In m w.pending → Follows last m → comes_after last m ≡ true
  comes_after-follows None m i h = refl
  comes_after-follows (Some p) m i h = lower_key p m h.0 i h.1

  may_be_due-run : (before : List Msg) (last : Option Msg) (m : Msg) (rest : List Msg) →
      w.pending ≡ before ++ m ∷ rest →
      In m w.pending → Follows last m → may_be_due net front saved (tally (completions_to m.to) before) last m ≡ true
  may_be_due-run before last m rest whole i h =
      let message = all_in (RunKeepsMessage net) w.pending m kept.pending i in
      let number = number_used m m.key.sender refl (used.used m i) in
      let there = used.to_station m i in
      and-true _ _ (and-true _ _ (comes_after-follows last m i h) (and-true _ _ (le-leb front m.key.time
      (all_in (λ (x : Msg). front ≤ x.key.time) w.pending m reached.0 i))
      (lt-ltb m.key.time MAX_EVENT_TIMES message.time_max)))
      (and-true _ _ (and-true _ _ (and-true _ _ (lt-ltb 0 m.to there.0) (le-leb m.to (length net.sites) there.1))
      (le-leb m.key.sender (length net.sites) number.0))
      (and-true _ _ (lt-ltb m.key.number (next_of saved m.key.sender) number.1)
      (may_carry-run before m rest m.payload whole there message.job refl)))

  first_bad-run : (before : List Msg) (last : Option Msg) (ms : List Msg) → w.pending ≡ before ++ ms →
      ((m : Msg) → In m ms → In m w.pending) → Sorted msg_cmp ms → AllByRecursion (Follows last) ms →
      first_bad net front saved before last ms ≡ None
  first_bad-run before last [] whole there sorted all = refl
  first_bad-run before last (m ∷ ms) whole there sorted all =
      let i = there m (inl refl) in
      let rest = first_bad-run (before ++ m ∷ []) (Some m) ms (whole ∙ sym (append_assoc before (m ∷ []) ms))
      (λ x j. there x (inr j)) sorted.1 (following m ms i sorted.0) in
      rw (may_be_due-run before last m ms whole i all.0) rest
    where
      following : (p : Msg) (zs : List Msg) → In p w.pending → AllByRecursion (λ (z : Msg). msg_cmp p z ≡ Less) zs →
          AllByRecursion (Follows (Some p)) zs
      following p [] i less = tt
      following p (z ∷ zs) i less = ((i, less.0), following p zs i less.1)

  first_follow : (ms : List Msg) → AllByRecursion (Follows None) ms
  first_follow [] = tt
  first_follow (m ∷ ms) = (tt, first_follow ms)

  -- ---- RunIsAccepted

  fits_end-run : (end : Option ℕ) → front ≤ min net.horizon (unwrap_or end net.horizon) →
      IfSome end (λ e. e < net.horizon) → fits_end net front end ≡ true
  fits_end-run None within is = refl
  fits_end-run (Some e) within is =
      and-true _ _ (le-leb front e (omega (arith, within))) (lt-ltb e net.horizon is)

  accepted : IsAccepted net (snapshot_of net c front)
  accepted = record {
    name = at.clone.name;
    front = and-true _ _ (le-leb front net.horizon early) (fits_end-run c.end at.within at.clone.end);
    count = length-map (states_from w.at.states 1 (length net.sites)) saved_of
        ∙ length-states_from w.at.states 1 (length net.sites);
    fit = first_unfit-saved w.at.states net 1 (length net.sites) (λ i less. (fits_and_restored i less).0);
    due = first_bad-run [] None w.pending refl (λ m i. i) reached.1 (first_follow w.pending);
    sayable = pending-sayable net valid c front at;
    lines = lines-sayable net valid c front at;
  }

module _ (net : Net) (valid : IsNet net) where
  pub run_is_accepted : RunIsAccepted net
  run_is_accepted c front at = accepted net valid c front at

  pub resumed_run_is_unbroken : ResumedRunIsUnbroken net
  resumed_run_is_unbroken c front at = unbroken net valid c front at

  -- the states that the snapshot restores are those of the run
  pub restored_states : (c : Clone) (front : ℕ) → HasSnapshot net c front →
      restored_from net 1 (snapshot_of net c front).saved
      ≡ states_from (run (simulation net) c.plans front).at.states 1 (length net.sites)
  restored_states c front at = same_states net valid c front at
