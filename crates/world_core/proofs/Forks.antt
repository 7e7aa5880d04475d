-- A fork at the stations, one after the other.
use Rattle.std.proofs.Common.{◌≡◌, ℕ, ◌+◌, ◌<◌, ◌≤◌, List, inl, inr, Some}
use Rattle.std.proofs.Common.{sym, ap, ◌∙◌, subst, arith, length, length-set, get_or, slice_get, slice_set}
use Rattle.std.proofs.lemmas.Bool.{cases_eq}
use Rattle.std.proofs.lemmas.Option.{same_Some, slice_get_within}
use Rattle.phys_proc.specs.Procs.{ProcView}
use Rattle.station_steps.specs.Forking.{AllForked, HasForked}
use Rattle.station_steps.proofs.Places.{got_at, one_got}
use Rattle.run_laws.proofs.Lists.{slice_get-set_same, slice_get-set_other}

-- ---- ForkedTo

-- the first n stations are forked, and the others are unchanged
pub record ForkedTo (old new n : ℕ) (olds news : List ProcView) : Type 0 where
  pub count : length news ≡ length olds
  pub each : (i : ℕ) (p q : ProcView) → i < n → slice_get olds i ≡ Some p → slice_get news i ≡ Some q
      → HasForked old new p q
  pub others : (i : ℕ) → n ≤ i → slice_get news i ≡ slice_get olds i

-- after the next station is forked, n + 1 are
pub ForkedTo-next : (old new n : ℕ) (olds news : List ProcView) (was now : ProcView) → ForkedTo old new n olds news
    → n < length olds → was ≡ get_or news n was → HasForked old new was now →
    ForkedTo old new (n + 1) olds (slice_set news n now)
ForkedTo-next old new n olds news was now h l is fork = record {
  count = length-set news n now ∙ h.count;
  each = λ i p q less a b. elim (cases_eq i n) [
    | inl e ↦
        let k : n < length news = let c = h.count in omega (arith, l, c) in
        let is_p : p ≡ was = one_got olds i n p was e a (sym (h.others n (omega arith)) ∙ got_at news n was k is) in
        let is_q : now ≡ q = same_Some now q
        (sym (slice_get-set_same news n now k) ∙ ap (slice_get (slice_set news n now))
        (sym e) ∙ b) in
        subst (HasForked old new p) is_q (subst (λ (o : ProcView). HasForked old new o now) (sym is_p) fork)
    | inr ne ↦ h.each i p q (below i less ne) a (sym (slice_get-set_other news i n now ne) ∙ b)
  ];
  others = λ i less. slice_get-set_other news i n now (λ e. omega (arith, e, less)) ∙ h.others i (omega (arith, less));
}
  where
    below : (i : ℕ) → i < n + 1 → (i ≡ n → ⊥) → i < n
    below i less ne = grind (arith, less)

-- if all stations were forked, the fork is complete
pub ForkedTo-all : (old new n : ℕ) (olds news : List ProcView) → length olds ≤ n → ForkedTo old new n olds news
    → AllForked old new olds news
ForkedTo-all old new n olds news l h = record {
  count = h.count;
  each = λ i p q a b. let k = slice_get_within olds i p a in h.each i p q (omega (arith, k, l)) a b;
}

-- the next station is unchanged so far
pub ForkedTo-others : (old new n : ℕ) (olds news : List ProcView) (p : ProcView) → ForkedTo old new n olds news
    → n < length olds → p ≡ get_or news n p → slice_get olds n ≡ Some p
ForkedTo-others old new n olds news p h l is = sym (h.others n (omega arith))
    ∙ got_at news n p (let c = h.count in omega (arith, l, c)) is
