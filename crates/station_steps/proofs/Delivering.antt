-- Messages delivered to stations, one after the other.
use Rattle.std.proofs.Common.{◌≡◌, ℕ, ◌+◌, ◌==◌, ◌<◌, Bool, true, false, cond}
use Rattle.std.proofs.Common.{List, [], ◌∷◌, ◌++◌, inl, inr, refl, sym, ap, ◌∙◌}
use Rattle.std.proofs.Common.{subst, arith, length, length-set, map, get_or, slice_get, slice_set, eq-eqb}
use Rattle.std.proofs.lemmas.Bool.{cases_eq, ne_eqb}
use Rattle.std.proofs.lemmas.Option.{same_Some, slice_get-get_or, slice_get_within}
use Rattle.sim_base.specs.declared.message.Msg.{Msg}
use Rattle.clone_sets.specs.declared.set.CloneSet.{CloneSet}
use Rattle.net_model.specs.Net.{Net}
use Rattle.phys_proc.specs.Own.{StationCopy, MarkedMessages, with_message}
use Rattle.phys_proc.specs.Procs.{ProcView, IsProc}
use Rattle.station_steps.specs.Windows.{AllDelivered, AreStationsInOrder, IsDeliveredTo, sent_to, with_mail}
use Rattle.station_steps.proofs.Places.{got_at, one_got}
use Rattle.run_laws.proofs.Lists.{slice_get-set_same, slice_get-set_other}

-- ---- AllDelivered by one message

-- without messages for it, a station is unchanged
pub IsDeliveredTo-none : (ms : MarkedMessages) (p : ProcView) → ms ≡ [] → IsDeliveredTo ms p p
IsDeliveredTo-none ms p none = record {
  copies = sym (ap (λ l. with_mail l p.copies) none);
  station = refl;
  living = refl;
  once = refl;
  proc = λ net h. h;
}

-- a message is not for other stations
pub sent_to-other : (m : Msg) (k : CloneSet) (i : ℕ) → (m.to ≡ i + 1 → ⊥) → sent_to i ((m, k) ∷ []) ≡ []
sent_to-other m k i n = ap (λ b. cond b ((m, k) ∷ []) []) (ne_eqb m.to (i + 1) n)

-- a message is for the station that it names
pub sent_to-own : (m : Msg) (k : CloneSet) (i : ℕ) → m.to ≡ i + 1 → sent_to i ((m, k) ∷ []) ≡ (m, k) ∷ []
sent_to-own m k i e = ap (λ b. cond b ((m, k) ∷ []) []) (eq-eqb m.to (i + 1) e)

-- a message to no station
pub AllDelivered-none : (m : Msg) (k : CloneSet) (procs : List ProcView)
    → ((i : ℕ) → i < length procs → m.to ≡ i + 1 → ⊥) → AllDelivered ((m, k) ∷ []) procs procs
AllDelivered-none m k procs n = record {
  count = refl;
  each = λ i p q a b.
      let l = slice_get_within procs i p a in
      subst (IsDeliveredTo (sent_to i ((m, k) ∷ [])) p) (same_Some p q (sym a ∙ b))
      (IsDeliveredTo-none (sent_to i ((m, k) ∷ [])) p (sent_to-other m k i (n i l)));
}

-- a message for the station at place j
pub AllDelivered-one : (m : Msg) (k : CloneSet) (procs : List ProcView) (j : ℕ) (old new : ProcView) → j < length procs
    → m.to ≡ j + 1 → old ≡ get_or procs j old →
    new.copies ≡ map (with_message m k) old.copies → new.station ≡ old.station → new.living ≡ old.living
    → new.handled ≡ old.handled → ((net : Net) → IsProc net old → IsProc net new) →
    AllDelivered ((m, k) ∷ []) procs (slice_set procs j new)
AllDelivered-one m k procs j old new l to is copies station living once proc = record {
  count = length-set procs j new;
  each = λ i p q a b. elim (cases_eq i j) [
    | inl e ↦
        let was : p ≡ old = one_got procs i j p old e a (got_at procs j old l is) in
        let now : new ≡ q = same_Some new q
        (sym (slice_get-set_same procs j new l) ∙ ap (slice_get (slice_set procs j new))
        (sym e) ∙ b) in
        subst (IsDeliveredTo (sent_to i ((m, k) ∷ [])) p) now
        (subst (λ (o : ProcView). IsDeliveredTo (sent_to i ((m, k) ∷ [])) o new) (sym was) (record {
          copies = copies ∙ sym (ap (λ l. with_mail l old.copies) (sent_to-own m k i (to ∙ ap (λ x. x + 1) (sym e))));
          station = station;
          living = living;
          once = once;
          proc = proc;
        }))
    | inr n ↦ subst (IsDeliveredTo (sent_to i ((m, k) ∷ [])) p)
        (same_Some p q (sym a ∙ sym (slice_get-set_other procs i j new n) ∙ b))
        (IsDeliveredTo-none (sent_to i ((m, k) ∷ [])) p (sent_to-other m k i (λ e. n (omega (arith, e, to)))))
  ];
}

-- the stations are still in the order of their numbers
pub AreStationsInOrder-delivered : (ms : MarkedMessages) (olds news : List ProcView) → AreStationsInOrder olds
    → AllDelivered ms olds news → AreStationsInOrder news
AreStationsInOrder-delivered ms olds news h d = λ i q got.
    let l = slice_get_within news i q got in
    let p = slice_get-get_or olds i q (let k = d.count in omega (arith, l, k)) in
    (d.each i (get_or olds i q) q p got).station ∙ h i (get_or olds i q) p

-- ---- AllDelivered by more messages

-- the messages of two lists for a station are those of the first, and then those of the second
pub sent_to-append : (i : ℕ) (xs ys : MarkedMessages) → sent_to i (xs ++ ys) ≡ sent_to i xs ++ sent_to i ys
sent_to-append i [] ys = refl
sent_to-append i (x ∷ xs) ys = by (sent_to-append i xs ys) (x.0.to == i + 1)
  where
    by : sent_to i (xs ++ ys) ≡ sent_to i xs ++ sent_to i ys → (b : Bool)
        → cond b (x ∷ sent_to i (xs ++ ys)) (sent_to i (xs ++ ys)) ≡ cond b (x ∷ sent_to i xs) (sent_to i xs)
        ++ sent_to i ys
    by h true = ap (λ l. x ∷ l) h
    by h false = h

-- delivering two lists together is delivering the first, and then the second
pub with_mail-append : (xs ys : MarkedMessages) (copies : List StationCopy)
    → with_mail (xs ++ ys) copies ≡ with_mail ys (with_mail xs copies)
with_mail-append [] ys copies = refl
with_mail-append (x ∷ xs) ys copies = with_mail-append xs ys (map (with_message x.0 x.1) copies)

-- messages, and then more of them
pub AllDelivered-append : (xs ys : MarkedMessages) (first second third : List ProcView) → AllDelivered xs first second
    → AllDelivered ys second third → AllDelivered (xs ++ ys) first third
AllDelivered-append xs ys first second third a b = record {
  count = b.count ∙ a.count;
  each = λ i p r got there.
      let l = slice_get_within first i p got in
      let q = slice_get-get_or second i p (let k = a.count in omega (arith, l, k)) in
      let u = a.each i p (get_or second i p) got q in
      let v = b.each i (get_or second i p) r q there in
      record {
        copies = v.copies ∙ ap (with_mail (sent_to i ys)) u.copies
            ∙ sym (ap (λ l. with_mail l p.copies) (sent_to-append i xs ys)
            ∙ with_mail-append (sent_to i xs) (sent_to i ys) p.copies);
        station = v.station ∙ u.station;
        living = v.living ∙ u.living;
        once = v.once ∙ u.once;
        proc = λ net h. v.proc net (u.proc net h);
      };
}
