-- Mail posted to stations, one after the other.
use Rattle.std.proofs.Common.{◌≡◌, ℕ, ◌+◌, ◌<◌, ◌≤◌, List, inl, inr, Some}
use Rattle.std.proofs.Common.{sym, ap, ◌∙◌, subst, arith, length, length-set, get_or, slice_get, slice_set}
use Rattle.std.proofs.lemmas.Bool.{cases_eq}
use Rattle.std.proofs.lemmas.Option.{same_Some, slice_get_within}
use Rattle.phys_proc.specs.Own.{MarkedMessages}
use Rattle.phys_proc.specs.Procs.{ProcView}
use Rattle.run_laws.proofs.Lists.{slice_get-set_same, slice_get-set_other}
use Rattle.station_steps.specs.Windows.{AllDelivered, IsDeliveredTo, sent_to}
use Rattle.station_steps.proofs.Places.{got_at, one_got}

-- the first n stations have their messages, and the others are unchanged
pub record PostedTo (ms : MarkedMessages) (n : ℕ) (olds news : List ProcView) : Type 0 where
  pub count : length news ≡ length olds
  pub each : (i : ℕ) (p q : ProcView) → i < n → slice_get olds i ≡ Some p → slice_get news i ≡ Some q
      → IsDeliveredTo (sent_to i ms) p q
  pub others : (i : ℕ) → n ≤ i → slice_get news i ≡ slice_get olds i

pub PostedTo-next : (ms : MarkedMessages) (n : ℕ) (olds news : List ProcView) (was now : ProcView)
    → PostedTo ms n olds news → n < length olds → was ≡ get_or news n was → IsDeliveredTo (sent_to n ms) was now
    → PostedTo ms (n + 1) olds (slice_set news n now)
PostedTo-next ms n olds news was now h l is post = record {
  count = length-set news n now ∙ h.count;
  each = λ i p q less a b. elim (cases_eq i n) [
    | inl e ↦
        let k : n < length news = let c = h.count in omega (arith, l, c) in
        let is_p : p ≡ was = one_got olds i n p was e a (sym (h.others n (omega arith)) ∙ got_at news n was k is) in
        let is_q : now ≡ q = same_Some now q
        (sym (slice_get-set_same news n now k) ∙ ap (slice_get (slice_set news n now))
        (sym e) ∙ b) in
        subst (λ j. IsDeliveredTo (sent_to j ms) p q) (sym e) (subst (IsDeliveredTo (sent_to n ms) p) is_q
        (subst (λ (o : ProcView). IsDeliveredTo (sent_to n ms) o now) (sym is_p) post))
    | inr ne ↦ h.each i p q (below i less ne) a (sym (slice_get-set_other news i n now ne) ∙ b)
  ];
  others = λ i less. slice_get-set_other news i n now (λ e. omega (arith, e, less)) ∙ h.others i (omega (arith, less));
}
  where
    below : (i : ℕ) → i < n + 1 → (i ≡ n → ⊥) → i < n
    below i less ne = grind (arith, less)

-- if all stations were posted to, all have their messages
pub PostedTo-all : (ms : MarkedMessages) (n : ℕ) (olds news : List ProcView) → length olds ≤ n
    → PostedTo ms n olds news → AllDelivered ms olds news
PostedTo-all ms n olds news l h = record {
  count = h.count;
  each = λ i p q a b. let k = slice_get_within olds i p a in h.each i p q (omega (arith, k, l)) a b;
}

-- the next station is unchanged so far
pub PostedTo-others : (ms : MarkedMessages) (n : ℕ) (olds news : List ProcView) (p : ProcView)
    → PostedTo ms n olds news → n < length olds → p ≡ get_or news n p → slice_get olds n ≡ Some p
PostedTo-others ms n olds news p h l is = sym (h.others n (omega arith))
    ∙ got_at news n p (let c = h.count in omega (arith, l, c)) is
