-- A run may go on from an accepted snapshot.
use Rattle.std.proofs.Common.{◌≡◌, ℕ, zero, suc, ◌+◌, ◌≤◌, List, [], ◌∷◌, ◌++◌, length, Bool, true, false, refl}
use Rattle.std.proofs.Common.{sym, ap, ◌∙◌, Option, Some, None, slice_get, unwrap_or, arith, subst, ltb-true}
use Rattle.std.proofs.Common.{append-nil}
use Rattle.std.specs.Prelude.{if◌then◌else◌}
use Rattle.std.specs.List.{AllByRecursion}
use Rattle.std.specs.declared.cmp.Ordering.{Ordering}
use Rattle.std.specs.declared.cmp.Ordering.TheVariants.{Less, Equal, Greater}
use Rattle.std.proofs.lemmas.Bool.{and_parts, leb-true}
use Rattle.std.proofs.lemmas.Option.{same_Some}
use Rattle.sim_base.specs.Order.{key_cmp, msg_cmp}
use Rattle.sim_base.proofs.ListLaws.{all_weaker}
use Rattle.sim_base.specs.declared.message.Msg.{Msg}
use Rattle.run_laws.specs.Queue.{Sorted}
use Rattle.run_laws.specs.World.{log_of}
use Rattle.run_laws.proofs.MessageOrder.{messages_ordered}
use Rattle.net_model.specs.Net.{Net, HasStation}
use Rattle.net_model.specs.Rules.{IsNet}
use Rattle.stations.specs.Fits.{FitsState, SuitsNet}
use Rattle.stations.specs.Fitting.{fits_saved}
use Rattle.stations.specs.Handling.{StateView}
use Rattle.stations.specs.Opening.{setup}
use Rattle.stations.specs.Saving.{restored}
use Rattle.stations.specs.declared.saved.Saved.{Saved}
use Rattle.stations.proofs.RestoringLaws.{fits-restored}
use Rattle.solo_run.specs.EventLists.{IsForStation}
use Rattle.solo_run.specs.Limit.{receiver}
use Rattle.solo_run.specs.SoloView.{Entries}
use Rattle.checkpoint.specs.Accepted.{first_unfit}
use Rattle.checkpoint.specs.RunKeeps.{completions_to}
use Rattle.checkpoint.specs.Tally.{tally}
use Rattle.checkpoint.specs.Due.{first_bad, may_be_due, comes_after, is_less}
use Rattle.checkpoint.specs.Laws.{AcceptedMayGoOn}
use Rattle.checkpoint.proofs.FittingStations.{first_unfit-cons}
use Rattle.checkpoint.specs.Snapshots.{restored_from}

-- ---- msg_cmp

is_less-true : (o : Ordering) → is_less o ≡ true → o ≡ Less
is_less-true Less e = refl
is_less-true Equal e = absurd (cc)
is_less-true Greater e = absurd (cc)

-- the message with the lower key comes first
msg_cmp-key : (a b : Msg) → key_cmp a.key b.key ≡ Less → msg_cmp a b ≡ Less
msg_cmp-key a b e = rw e refl

module _ (net : Net) where
  -- ---- first_bad

  -- pending messages in order, after the last one, and for stations
  record ArePending (last : Option Msg) (ms : List Msg) : Type 0 where
    pub sorted : Sorted msg_cmp ms
    pub after : (m : Msg) → last ≡ Some m → AllByRecursion (λ z. msg_cmp m z ≡ Less) ms
    pub targets : AllByRecursion (IsForStation (length net.sites)) ms

  -- messages of which none is bad
  first_bad-none : (front : ℕ) (saved : List Saved) (before : List Msg) (last : Option Msg) (ms : List Msg) →
      first_bad net front saved before last ms ≡ None → ArePending last ms
  first_bad-none front saved before last [] none = record { sorted = tt; after = λ m is. tt; targets = tt }
  first_bad-none front saved before last (m ∷ ms) none =
      by (may_be_due net front saved (tally (completions_to m.to) before) last m) refl none
      (λ e. first_bad-none front saved (before ++ m ∷ []) (Some m) ms e)
    where
      follows : (o : Option Msg) → comes_after o m ≡ true → (p : Msg) → o ≡ Some p → msg_cmp p m ≡ Less
      follows None e p is = absurd (cc)
      follows (Some q) e p is = let same : q ≡ p = same_Some q p is in
          subst (λ (x : Msg). msg_cmp x m ≡ Less) same (msg_cmp-key q m (is_less-true (key_cmp q.key m.key) e))

      by : (b : Bool) → may_be_due net front saved (tally (completions_to m.to) before) last m ≡ b →
          (if b then first_bad net front saved (before ++ m ∷ []) (Some m) ms else Some (length before)) ≡ None →
          (first_bad net front saved (before ++ m ∷ []) (Some m) ms ≡ None → ArePending (Some m) ms) →
          ArePending last (m ∷ ms)
      by false is e next = absurd (cc)
      by true is e next =
          let rest = next e in
          let h = and_parts _ _ is in
          let first = and_parts _ _ h.0 in
          let who = and_parts _ _ h.1 in
          let numbers = and_parts _ _ who.0 in
          let bounds = and_parts _ _ numbers.0 in
          let total = messages_ordered.total in
          record {
            sorted = (rest.after m refl, rest.sorted);
            after = λ p here. (
              follows last first.0 p here,
              all_weaker (λ (z : Msg). msg_cmp m z ≡ Less) (λ (z : Msg). msg_cmp p z ≡ Less) ms
                  (λ z less. total.trans p m z (follows last first.0 p here) less) (rest.after m refl),
            );
            targets = ((ltb-true 0 m.to bounds.0, leb-true m.to (length net.sites) bounds.1), rest.targets);
          }

  -- ---- first_unfit

  -- the data of each station fits
  pub first_unfit-at : (s i : ℕ) (xs : List Saved) (x : Saved) → first_unfit net s xs ≡ None →
      slice_get xs i ≡ Some x → fits_saved net (s + i) x ≡ true
  first_unfit-at s i [] x none is = absurd (cc)
  first_unfit-at s zero (y ∷ ys) x none is =
      let here : s + 0 ≡ s = omega arith in
      let same : y ≡ x = same_Some y x is in
      subst (λ (r : ℕ). fits_saved net r x ≡ true) (sym here)
      (subst (λ (z : Saved). fits_saved net s z ≡ true) same (first_unfit-cons net s y ys none).0)
  first_unfit-at s (suc i) (y ∷ ys) x none is =
      let next : suc s + i ≡ s + suc i = omega arith in
      subst (λ (r : ℕ). fits_saved net r x ≡ true) next
      (first_unfit-at (suc s) i ys x (first_unfit-cons net s y ys none).1 is)

  -- ---- restored_from

  pub length-restored_from : (s : ℕ) (xs : List Saved) → length (restored_from net s xs) ≡ length xs
  length-restored_from s [] = refl
  length-restored_from s (x ∷ xs) = let h = length-restored_from (suc s) xs in omega (arith, h)

  module _ (valid : IsNet net) where
    -- a state of the i-th station from s on
    record IsRestoredAt (s i : ℕ) (st : StateView) : Type 0 where
      pub fits : FitsState st
      pub suits : SuitsNet net st
      pub station : st.sender.station ≡ s + i
      pub within : st.handled ≤ net.limit

    one-restored : (s : ℕ) (x : Saved) (st : StateView) → HasStation net s → fits_saved net s x ≡ true →
        Some (unwrap_or (restored net s x) (setup net s).state) ≡ Some st → IsRestoredAt s 0 st
    one-restored s x st there fit is =
        let r = fits-restored net valid s x there fit in
        let same : r.state ≡ st = same_Some r.state st
        (ap (λ (o : Option StateView). Some (unwrap_or o (setup net s).state)) (sym r.is) ∙ is) in
        let h = and_parts _ _ fit in
        let counts = and_parts _ _ h.0 in
        subst (IsRestoredAt s 0) same (record {
          fits = r.fits;
          suits = r.suits;
          station = let t = r.station in omega (arith, t);
          within =
              let most = leb-true x.handled net.limit counts.0 in
              let same_count = r.handled in
              omega (arith, most, same_count);
        })

    restored_from-at : (s i : ℕ) (xs : List Saved) (st : StateView) → 1 ≤ s → s + length xs ≤ length net.sites + 1 →
        first_unfit net s xs ≡ None → slice_get (restored_from net s xs) i ≡ Some st → IsRestoredAt s i st
    restored_from-at s i [] st low high none is = absurd (cc)
    restored_from-at s zero (x ∷ xs) st low high none is =
        one-restored s x st (record { low = low; high = omega (arith, high) }) (first_unfit-cons net s x xs none).0 is
    restored_from-at s (suc i) (x ∷ xs) st low high none is =
        let fit = first_unfit-cons net s x xs none in
        let r = restored_from-at (suc s) i xs st (omega arith) (omega (arith, high)) fit.1 is in
        record { fits = r.fits; suits = r.suits; station = let t = r.station in omega (arith, t); within = r.within }

    -- ---- AcceptedMayGoOn

    pub accepted_may_go_on : AcceptedMayGoOn net
    accepted_may_go_on x past ok handled =
        let due = first_bad-none x.front x.saved [] None x.due ok.due in
        let count = ok.count in
        let states = length-restored_from 1 x.saved in
        record {
          valid = valid;
          count = states ∙ count;
          states = λ i st is.
              let r = restored_from-at 1 i x.saved st (omega arith) (omega (arith, count)) ok.fit is in
              record {
                fits = r.fits;
                suits = r.suits;
                station = let t = r.station in omega (arith, t);
                within = r.within;
                log = handled.each i st is ∙ ap (λ (t : Entries). length (log_of receiver (i + 1) t))
                    (sym (append-nil past));
              };
          sorted = due.sorted;
          targets = due.targets;
          total = ap (λ (t : Entries). length t) (append-nil past) ∙ handled.total;
          below = refl;
        }
