-- The run from a snapshot handles its messages in the order of their keys.
use Rattle.std.proofs.Common.{◌≡◌, ℕ, zero, suc, ◌+◌, ◌<◌, ◌⊎◌, inl, inr, List, [], ◌∷◌, ◌++◌, map, refl}
use Rattle.std.proofs.Common.{sym, ap, ◌∙◌, subst, arith, Option, Some, None, slice_get, unwrap_or, option_map, Bool, true}
use Rattle.std.proofs.Common.{false, length}
use Rattle.std.specs.Prelude.{if◌then◌else◌}
use Rattle.std.specs.declared.cmp.Ordering.{Ordering}
use Rattle.std.specs.declared.cmp.Ordering.TheVariants.{Less, Equal, Greater}
use Rattle.std.specs.List.{AllByRecursion}
use Rattle.std.proofs.lemmas.Bool.{and_parts, ltb-true}
use Rattle.std.proofs.lemmas.List.{map_push}
use Rattle.std.proofs.lemmas.Option.{same_Some, slice_get_within}
use Rattle.sim_base.specs.Order.{key_cmp, key_order, msg_cmp}
use Rattle.sim_base.specs.declared.entry.Entry.{Entry}
use Rattle.sim_base.specs.declared.message.Key.{Key}
use Rattle.sim_base.specs.declared.message.Msg.{Msg}
use Rattle.sim_base.proofs.ListLaws.{all_push, all_weaker}
use Rattle.sim_base.proofs.OrderEqual.{ordering_then-lt, three_same}
use Rattle.sim_base.proofs.OrderLaws.{key_total}
use Rattle.run_laws.specs.Handlers.{AllGood, HandlesFreshly, HandlesLawfully, IsStation, SendsToStations}
use Rattle.run_laws.specs.Machine.{Config, config_after}
use Rattle.run_laws.specs.Queue.{In, Sorted, insert_all}
use Rattle.run_laws.specs.Runs.{run_from}
use Rattle.run_laws.specs.Simulation.{Simulation}
use Rattle.run_laws.specs.World.{World, put, world_step}
use Rattle.run_laws.proofs.Lists.{sorted_append}
use Rattle.run_laws.proofs.Queue.{all_from, all_in, in_insert_all, not_below_itself}
use Rattle.run_laws.proofs.Running.{Fine, all_from_zero, fine_keeps, run_reach}
use Rattle.run_laws.proofs.Worlds.{entry_of, put_cases, put_same, world_lawful}
use Rattle.net_model.specs.Net.{HasStation, Net, site_of}
use Rattle.net_model.specs.Rules.{IsNet}
use Rattle.stations.specs.Fits.{IsOfKind}
use Rattle.stations.specs.Fitting.{fits_saved}
use Rattle.stations.specs.Good.{IsGood}
use Rattle.stations.specs.Handling.{StateView}
use Rattle.stations.specs.Opening.{setup}
use Rattle.stations.specs.Runs.{simulation}
use Rattle.stations.specs.Saving.{restored, restored_kind}
use Rattle.stations.specs.declared.kind_state.KindState.{KindState}
use Rattle.stations.specs.declared.saved.Saved.{Saved}
use Rattle.stations.proofs.GoodLaws.{fresh-stations, lawful-stations, stations-to_stations}
use Rattle.stations.proofs.KindLaws.{good_kind}
use Rattle.stations.proofs.Lawful.{site_is}
use Rattle.stations.proofs.RestoringLaws.{fits-restored}
use Rattle.checkpoint.specs.RunKeeps.{completions_to}
use Rattle.checkpoint.specs.Tally.{tally}
use Rattle.solo_run.specs.SoloView.{Entries, IsSoloAfter, IsStateAfter, SoloView, config_of, state_of}
use Rattle.checkpoint.specs.Accepted.{IsAccepted}
use Rattle.checkpoint.specs.Due.{comes_after, first_bad, is_less, may_be_due, next_in, next_of}
use Rattle.checkpoint.specs.Snapshots.{SnapshotView, last_of, onward, opened, restored_from}
use Rattle.checkpoint.proofs.AcceptedStarts.{first_unfit-at}
use Rattle.checkpoint.proofs.Earlier.{ticks_of_all}
use Rattle.checkpoint.proofs.GoingOn.{opened-may_go_on}

-- ---- runs whose pending messages have keys of their own

module _ {S M N : Type 0} {sim : Simulation S M N} {Good : ℕ → S → Type 0} {sender number : M → ℕ} {next : S → ℕ}
    (law : HandlesLawfully sim Good) (stations : SendsToStations sim Good)
    (fresh : HandlesFreshly sim Good sender number next) where
  abbrev pub by_key : M → M → Ordering
  by_key = key_order sim.time sender number

  -- the pending messages have different keys, with numbers that are used up, and come after the trace, which rises
  pub record IsInOrder (w : Config (World S M N) M) : Type 0 where
    pub used : (z : M) → In z w.pending → (sender z ≡ 0) ⊎ (number z < next (w.at.states (sender z)))
    pub apart : (z y : M) → In z w.pending → In y w.pending → by_key z y ≡ Equal → z ≡ y
    pub to_station : (z : M) → In z w.pending → IsStation sim (sim.to z)
    pub rising : Sorted by_key (map (λ e. e.msg) w.at.trace)
    pub before : (z : M) → In z w.pending → AllByRecursion (λ x. by_key x z ≡ Less) (map (λ e. e.msg) w.at.trace)

  -- keys that tie have the same sender and number
  tie : (x y : M) → by_key x y ≡ Equal → (sender x ≡ sender y) × (number x ≡ number y)
  tie x y e =
      let h = three_same (sim.time x) (sender x) (number x) (sim.time y) (sender y) (number y) e in
      (h.1, h.2)

  -- a turn keeps a world so
  in_order_step : (x : World S M N) (m : M) (q : List M) → AllGood Good x → Sorted sim.order (m ∷ q)
      → IsInOrder (record { at = x; pending = m ∷ q })
      → IsInOrder (config_after sim.order (world_step sim.to sim.handle) x m q)
  in_order_step x m q good s h =
      let r : ℕ = sim.to m in
      let st : S = x.states r in
      let g : Good r st = good r in
      let sent : List M = (sim.handle r st m).sends in
      let e : Entry M N = entry_of sim r st m in
      let here : IsStation sim r = h.to_station m (inl refl) in
      let above_0 : 0 < r = here.0 in
      let cases : (z : M) → In z (insert_all sim.order sent q)
      → In z sent ⊎ In z q = in_insert_all law.order.order sent q in
      -- the sends have numbers that no pending message has
      let new : (z y : M) → In z sent → In y q → sender z ≡ sender y → number z ≡ number y → ⊥ = λ z y i j e n.
      let sz = fresh.mine r st m z here g i in
      let lz = fresh.low r st m z here g i in
      elim (h.used y (inr j)) [
        | inl a ↦ omega (arith, above_0)
        | inr a ↦ let b = subst (λ r. number y < next (x.states r)) (sym e ∙ sz) a in omega arith
      ] in
      -- all pending messages then come after the handled ones
      let above : (z : M) → In z (insert_all sim.order sent q) → by_key m z ≡ Less =
      λ z i. elim (cases z i) [
        | inl j ↦ ordering_then-lt (sim.time m) (sim.time z) _
            (all_in (λ x. sim.time m < sim.time x) sent z (law.later r st m g) j)
        | inr j ↦ let l = all_in (λ y. sim.order m y ≡ Less) q z s.0 j in elim (fresh.keyed m z l) [
          | inl e ↦ e
          | inr e ↦ let d = h.apart m z (inl refl) (inr j) e in
              absurd (not_below_itself law.order.order.total m (subst (λ y. sim.order m y ≡ Less) (sym d) l))
        ]
      ] in
      record {
        used = λ z i. elim (cases z i) [
          | inl j ↦ inr (subst (λ t. number z < next (put x.states r (sim.handle r st m).state t))
              (sym (fresh.mine r st m z here g j))
              (subst (λ u. number z < next u) (sym (put_same x.states r (sim.handle r st m).state r refl))
              (fresh.high r st m z here g j)))
          | inr j ↦ elim (h.used z (inr j)) [
            | inl a ↦ inl a
            | inr a ↦ inr (put_cases (λ t u. number z < next (x.states t) → number z < next u) x.states r
                (sim.handle r st m).state (λ l. let up = fresh.rises r st m here g in omega arith) (λ t n l. l)
                (sender z) a)
          ]
        ];
        apart = λ z y i j e. let k = tie z y e in elim (cases z i) [
          | inl a ↦ elim (cases y j) [
            | inl b ↦ fresh.apart r st m z y here g a b k.1
            | inr b ↦ absurd (new z y a b k.0 k.1)
          ]
          | inr a ↦ elim (cases y j) [
            | inl b ↦ absurd (new y z b a (sym k.0) (sym k.1))
            | inr b ↦ h.apart z y (inr a) (inr b) e
          ]
        ];
        to_station = λ z i. elim (cases z i) [
          | inl j ↦ stations.sends r st m z here g j
          | inr j ↦ h.to_station z (inr j)
        ];
        rising = subst (Sorted by_key) (sym (map_push (λ e. e.msg) x.trace e))
            (sorted_append by_key (map (λ e. e.msg) x.trace) m h.rising (h.before m (inl refl)));
        before = λ z i. subst (AllByRecursion (λ y. by_key y z ≡ Less)) (sym (map_push (λ e. e.msg) x.trace e))
            (all_push (λ y. by_key y z ≡ Less) (map (λ e. e.msg) x.trace) m
            (all_from (λ y. by_key y z ≡ Less) (map (λ e. e.msg) x.trace)
            (λ y j. (key_total sim.time sender number).trans y m z
            (all_in (λ y. by_key y m ≡ Less) (map (λ e. e.msg) x.trace) y (h.before m (inl refl)) j) (above z i)))
            (above z i));
      }

  -- a run from there stays so
  pub in_order_run : (w : Config (World S M N) M) (front : ℕ) → Fine sim.order sim.time (AllGood Good) 0 w
      → IsInOrder w → IsInOrder (run_from sim w front)
  in_order_run w front fine starts =
      fine_keeps law.order (world_lawful law) 0 IsInOrder starts
      (λ x m q f early h. in_order_step x m q f.good f.sorted h) fine
      (run_reach law.order (world_lawful law) front front w (omega arith) fine).0

-- ---- the pending messages of an accepted snapshot

-- messages by their keys
abbrev pub keys_cmp : Msg → Msg → Ordering
keys_cmp a b = key_cmp a.key b.key

-- in a rising list two messages whose keys tie are one
same_if_tied : (ms : List Msg) → Sorted keys_cmp ms → (z y : Msg) → In z ms → In y ms → keys_cmp z y ≡ Equal → z ≡ y
same_if_tied [] s z y i j e = absurd i
same_if_tied (m ∷ ms) s z y (inl a) (inl b) e = a ∙ sym b
same_if_tied (m ∷ ms) s z y (inl a) (inr j) e =
    let less = all_in (λ (x : Msg). keys_cmp m x ≡ Less) ms y s.0 j in
    let tied : keys_cmp m y ≡ Equal = subst (λ (x : Msg). keys_cmp x y ≡ Equal) a e in
    absurd (cc)
same_if_tied (m ∷ ms) s z y (inr i) (inl b) e =
    let less = all_in (λ (x : Msg). keys_cmp m x ≡ Less) ms z s.0 i in
    let tied : keys_cmp z m ≡ Equal = subst (λ (x : Msg). keys_cmp z x ≡ Equal) b e in
    let back = three_same z.key.time z.key.sender z.key.number m.key.time m.key.sender m.key.number tied in
    let same : z.key ≡ m.key = λ k. record { time = back.0 k; sender = back.1 k; number = back.2 k } in
    let own : keys_cmp m m ≡ Less = subst (λ (x : Key). key_cmp m.key x ≡ Less) same less in
    absurd (not_below_itself (key_total (λ (k : Key). k.time) (λ k. k.sender) (λ k. k.number)) m.key own)
same_if_tied (m ∷ ms) s z y (inr i) (inr j) e = same_if_tied ms s.1 z y i j e

is_less-Less : (o : Ordering) → is_less o ≡ true → o ≡ Less
is_less-Less Less e = refl
is_less-Less Equal e = absurd (cc)
is_less-Less Greater e = absurd (cc)

module _ (net : Net) where
  -- messages with rising keys after the last one, and with numbers that their senders have used
  record AreKeyed (saved : List Saved) (last : Option Msg) (ms : List Msg) : Type 0 where
    pub sorted : Sorted keys_cmp ms
    pub after : (m : Msg) → last ≡ Some m → AllByRecursion (λ z. keys_cmp m z ≡ Less) ms
    pub used : AllByRecursion (λ z. z.key.number < next_of saved z.key.sender) ms

  -- messages of which none is bad
  are_keyed : (front : ℕ) (saved : List Saved) (before : List Msg) (last : Option Msg) (ms : List Msg)
      → first_bad net front saved before last ms ≡ None → AreKeyed saved last ms
  are_keyed front saved before last [] none = record { sorted = tt; after = λ m is. tt; used = tt }
  are_keyed front saved before last (m ∷ ms) none =
      by (may_be_due net front saved (tally (completions_to m.to) before) last m) refl none
      (λ e. are_keyed front saved (before ++ m ∷ []) (Some m) ms e)
    where
      follows : (o : Option Msg) → comes_after o m ≡ true → (p : Msg) → o ≡ Some p → keys_cmp p m ≡ Less
      follows None e p is = absurd (cc)
      follows (Some q) e p is = subst (λ (x : Msg). keys_cmp x m ≡ Less) (same_Some q p is)
          (is_less-Less (key_cmp q.key m.key) e)

      by : (b : Bool) → may_be_due net front saved (tally (completions_to m.to) before) last m ≡ b
          → ◌≡◌ {A = Option ℕ} (if b then first_bad net front saved (before ++ m ∷ []) (Some m) ms
          else Some (length before)) None
          → (first_bad net front saved (before ++ m ∷ []) (Some m) ms ≡ None → AreKeyed saved (Some m) ms)
          → AreKeyed saved last (m ∷ ms)
      by false is e next = absurd (cc)
      by true is e next =
          let rest = next e in
          let h = and_parts _ _ is in
          let first = and_parts _ _ h.0 in
          let numbers = and_parts _ _ (and_parts _ _ h.1).1 in
          let total = key_total (λ (k : Key). k.time) (λ k. k.sender) (λ k. k.number) in
          record {
            sorted = (rest.after m refl, rest.sorted);
            after = λ p here. (
              follows last first.0 p here,
              all_weaker (λ (z : Msg). keys_cmp m z ≡ Less) (λ (z : Msg). keys_cmp p z ≡ Less) ms
                  (λ z less. total.trans p.key m.key z.key (follows last first.0 p here) less) (rest.after m refl),
            );
            used = (ltb-true m.key.number (next_of saved m.key.sender) numbers.0, rest.used);
          }

  -- ---- the numbers of senders

  -- a restored state goes on with the number that the data has
  restored-next : (s : ℕ) (x : Saved) (st : StateView) → restored net s x ≡ Some st → st.sender.next ≡ x.next
  restored-next s x st is = by (restored_kind (site_of net s).kind x.shape) is
    where
      state : KindState → StateView
      state k = record {
        sender = record {
          station = s;
          next = x.next;
          draws = record { seed = net.seed; stream = (site_of net s).stream; count = x.drawn };
        };
        handled = x.handled;
        kind = k;
      }

      by : (o : Option KindState) → option_map state o ≡ Some st → st.sender.next ≡ x.next
      by None e = absurd (cc)
      by (Some k) e = ap (λ (u : StateView). u.sender.next) (sym (same_Some (state k) st e))

  module _ (valid : IsNet net) where
    -- the state that is restored for the i-th station from s on
    next-restored_from : (s i : ℕ) (xs : List Saved) (x : Saved) (other : StateView) → HasStation net (s + i)
        → fits_saved net (s + i) x ≡ true → slice_get xs i ≡ Some x
        → (unwrap_or (slice_get (restored_from net s xs) i) other).sender.next ≡ x.next
    next-restored_from s i [] x other there fit is = absurd (cc)
    next-restored_from s zero (y ∷ ys) x other there fit is =
        let place : s + 0 ≡ s = omega arith in
        let same : y ≡ x = same_Some y x is in
        let r = fits-restored net valid s x (subst (HasStation net) place there)
        (subst (λ (k : ℕ). fits_saved net k x ≡ true) place fit) in
        ap (λ (z : Saved). (unwrap_or (restored net s z) (setup net s).state).sender.next) same
        ∙ ap (λ (o : Option StateView). (unwrap_or o (setup net s).state).sender.next) r.is
        ∙ restored-next s x r.state r.is
    next-restored_from s (suc i) (y ∷ ys) x other there fit is =
        let next : s + suc i ≡ suc s + i = omega arith in
        next-restored_from (suc s) i ys x other (subst (HasStation net) next there)
        (subst (λ (k : ℕ). fits_saved net k x ≡ true) next fit) is

    module _ (x : SnapshotView) (ok : IsAccepted net x) where
      abbrev v : SoloView
      v = opened net x

      solo : IsSoloAfter net (ticks_of_all 1 v.states) v
      solo = opened-may_go_on net valid x ok

      keyed : AreKeyed x.saved None x.due
      keyed = are_keyed x.front x.saved [] None x.due ok.due

      -- a number that was used before the snapshot
      used_before : (z : Msg) (sender : ℕ) → z.key.number < next_of x.saved sender
          → (sender ≡ 0) ⊎ (z.key.number < (state_of net v.states sender).sender.next)
      used_before z zero less = inl refl
      used_before z (suc i) less = inr (by (slice_get x.saved i) refl less)
        where
          by : (o : Option Saved) → slice_get x.saved i ≡ o → z.key.number < next_in o
              → z.key.number < (state_of net v.states (suc i)).sender.next
          by None is l = absurd (omega (arith, l))
          by (Some data') is l =
              let within = slice_get_within x.saved i data' is in
              let count = ok.count in
              let there : HasStation net (1 + i) =
              record { low = omega arith; high = omega (arith, within, count) } in
              let same = next-restored_from 1 i x.saved data' (setup net (suc i)).state there
              (first_unfit-at net 1 i x.saved data' ok.fit is) is in
              omega (arith, same, l)

      -- the states are good
      good_station : (trace : Entries) (i : ℕ) (st : StateView) → IsStateAfter net trace i st → IsGood net (suc i) st
      good_station trace i st is =
          let station : st.sender.station ≡ suc i = let h = is.station in omega (arith, h) in
          let site = site_is net st.sender.station is.suits.site is.suits.is_there in
          let of : IsOfKind (site_of net st.sender.station) (site_of net st.sender.station).kind st.kind =
          subst (λ q. IsOfKind q q.kind st.kind) (sym site) is.suits.kind in
          record {
            station = station;
            kind = subst (λ k. IsOfKind (site_of net k) (site_of net k).kind st.kind) station of;
            fits = good_kind st.handled st.kind is.fits.kind;
          }

      good_states : (s : ℕ) → IsGood net s (state_of net v.states s)
      good_states zero = (lawful-stations net valid).opens zero
      good_states (suc i) = by (slice_get v.states i) refl
        where
          by : (o : Option StateView) → slice_get v.states i ≡ o
              → IsGood net (suc i) (unwrap_or o (setup net (suc i)).state)
          by None is = (lawful-stations net valid).opens (suc i)
          by (Some st) is = good_station (ticks_of_all 1 v.states ++ []) i st (solo.states i st is)

      fine : Fine msg_cmp (λ m. m.key.time) (AllGood (IsGood net)) 0 (config_of net v)
      fine = record {
        good = good_states;
        sorted = solo.sorted;
        from_t = all_from_zero (λ (m : Msg). m.key.time) v.pending;
      }

      starts_in_order : IsInOrder (lawful-stations net valid) (stations-to_stations net valid)
          (fresh-stations net valid) (config_of net v)
      starts_in_order = record {
        used = λ z i. used_before z z.key.sender
            (all_in (λ (m : Msg). m.key.number < next_of x.saved m.key.sender) x.due z keyed.used i);
        apart = λ z y i j e. same_if_tied x.due keyed.sorted z y i j e;
        to_station = λ z i. all_in (λ (m : Msg). IsStation (simulation net) m.to) x.due z solo.targets i;
        rising = tt;
        before = λ z i. tt;
      }

      -- so the run from the snapshot rises by key
      pub onward_rises : Sorted keys_cmp (map (λ e. e.msg) (onward net x))
      onward_rises = (in_order_run (lawful-stations net valid) (stations-to_stations net valid)
          (fresh-stations net valid) (config_of net v) (last_of net x) fine starts_in_order).rising
