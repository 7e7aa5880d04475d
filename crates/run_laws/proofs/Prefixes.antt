-- Counting: sums of two counts, uniqueness of a count, and the prefixes that logs gained.
use Rattle.std.proofs.Common.{◌≡◌, ℕ, suc, ◌+◌, ◌≤◌, List, [], ◌∷◌, ◌++◌, ◌⊎◌, inl}
use Rattle.std.proofs.Common.{inr, refl, sym, ap, ◌∙◌, subst, arith, append_assoc, length, length-append}
use Rattle.std.proofs.lemmas.List.{append_cancel_left}
use Rattle.run_laws.specs.Queue.{In}
use Rattle.run_laws.specs.Prefixes.{Apart, IsCount, IsGained}
use Rattle.run_laws.proofs.Lists.{in_append, append_old, append_new}

-- ---- Apart

-- two lists without repeats that share nothing have no repeats together
pub apart_append : {X : Type 0} (xs ys : List X) → Apart xs → Apart ys → ((z : X) → In z xs → In z ys → ⊥) →
    Apart (xs ++ ys)
apart_append [] ys a b f = b
apart_append (x ∷ xs) ys a b f = (
  λ i. elim (in_append xs ys x i) [ inl j ↦ a.0 j | inr j ↦ f x (inl refl) j ],
  apart_append xs ys a.1 b (λ z i j. f z (inr i) j),
)

-- ---- IsCount

-- a property with the same elements has the same count
pub count_same : {X : Type 0} (P Q : X → Type 0) (n : ℕ) → ((x : X) → P x → Q x) → ((x : X) → Q x → P x) → IsCount P n →
    IsCount Q n
count_same P Q n f g h = record {
  members = h.members;
  apart = h.apart;
  exact = λ x i. f x (h.exact x i);
  all = λ x q.
      h.all x (g x q);
  number = h.number;
}

-- two that hold of no common element count together
pub count_both : {X : Type 0} (P Q : X → Type 0) (m n : ℕ) → ((x : X) → P x → Q x → ⊥) → IsCount P m → IsCount Q n →
    IsCount (λ x. P x ⊎ Q x) (m + n)
count_both P Q m n f a b = record {
  members = a.members ++ b.members;
  apart = apart_append a.members b.members a.apart b.apart (λ z i j. f z (a.exact z i) (b.exact z j));
  exact = λ x i. elim (in_append a.members b.members x i) [ inl j ↦ inl (a.exact x j) | inr j ↦ inr (b.exact x j) ];
  all = λ x h. elim h [
    | inl p ↦ append_old a.members b.members x (a.all x p)
    | inr q ↦ append_new a.members b.members x (b.all x q)
  ];
  number = let l = length-append a.members b.members in let c = a.number in let d = b.number in omega (arith, l, c, d);
}

-- a list without one of its elements is shorter by one
drop_one : {X : Type 0} (x : X) (ys : List X) → In x ys →
    (zs : List X) × (length ys ≡ suc (length zs)) × ((z : X) → In z ys → (z ≡ x) ⊎ In z zs)
drop_one x [] i = absurd i
drop_one x (y ∷ ys) (inl e) = (ys, refl, λ z i. elim i [ inl d ↦ inl (d ∙ sym e) | inr j ↦ inr j ])
drop_one x (y ∷ ys) (inr i) = let h = drop_one x ys i in (
  y ∷ h.0,
  ap suc h.1,
  λ z j. elim j [
    | inl d ↦ inr (inl d)
    | inr k ↦ elim (h.2 z k) [ inl d ↦ inl d | inr l ↦ inr (inr l) ]
  ],
)

-- a list without repeats inside another is no longer
pub no_longer : {X : Type 0} (xs ys : List X) → Apart xs → ((z : X) → In z xs → In z ys) → length xs ≤ length ys
no_longer [] ys a f = omega arith
no_longer (x ∷ xs) ys a f =
    let h = drop_one x ys (f x (inl refl)) in
    let k : length xs ≤ length h.0 =
    no_longer xs h.0 a.1 (λ z i. elim (h.2 z (f z (inr i))) [
      | inl d ↦ absurd (a.0 (subst (λ t. In t xs) d i))
      | inr j ↦ j
    ]) in
    let e = h.1 in omega (arith, e)

-- there is one count
pub count_unique : {X : Type 0} (P : X → Type 0) (m n : ℕ) → IsCount P m → IsCount P n → m ≡ n
count_unique P m n a b =
    let h : length a.members ≤ length b.members =
    no_longer a.members b.members a.apart (λ z i. b.all z (a.exact z i)) in
    let k : length b.members ≤ length a.members =
    no_longer b.members a.members b.apart (λ z i. a.all z (b.exact z i)) in
    let c = a.number in let d = b.number in omega (arith, c, d)

-- ---- IsGained

module _ {E : Type 0} where
  -- a list is not longer than itself
  pub longer_than_itself : (xs : List E) (x : E) (ys : List E) → xs ++ x ∷ ys ≡ xs → ⊥
  longer_than_itself xs x ys e = let h = ap length e in let k = length-append xs (x ∷ ys) in
      let l : length (x ∷ ys) ≡ suc (length ys) = refl in omega (arith, h, k, l)

  -- a gain is in the log, after the old part
  gained_by : (short p log : List E) (x : E) (q t : List E) → p ≡ short ++ x ∷ q → log ≡ p ++ t →
      log ≡ short ++ x ∷ (q ++ t)
  gained_by short p log x q t e f = f ∙ (ap (λ u. u ++ t) e ∙ append_assoc short (x ∷ q) t)

  -- nothing was gained
  pub gained_none : (Log : List E → Type 0) (short : List E) → ((l : List E) → Log l → l ≡ short) →
      IsCount (IsGained Log short) 0
  gained_none Log short f = record {
    members = [];
    apart = tt;
    exact = λ x i. absurd i;
    number = refl;
    all = λ p g. longer_than_itself short g.first (g.more ++ g.rest)
        (sym (gained_by short p g.log g.first g.more g.rest g.longer g.prefix) ∙ f g.log g.is_log);
  }

  -- one entry that all of the logs share
  pub gained_more : (Log : List E → Type 0) (short : List E) (e : E) (n : ℕ) (some : (l : List E) × Log l) →
      ((l : List E) → Log l → (g : List E) × (l ≡ (short ++ e ∷ []) ++ g))
      → IsCount (IsGained Log (short ++ e ∷ [])) n →
      IsCount (IsGained Log short) (n + 1)
  gained_more Log short e n some f h = record {
    members = (short ++ e ∷ []) ∷ h.members;
    apart = (
      λ i. let g = h.exact (short ++ e ∷ []) i in longer_than_itself (short ++ e ∷ []) g.first g.more (sym g.longer),
      h.apart,
    );
    exact = λ p i. elim i [
      | inl d ↦ let x = f some.0 some.1 in
          record {
            log = some.0;
            is_log = some.1;
            first = e;
            more = [];
            rest = x.0;
            longer = d;
            prefix = x.1
                ∙ ap (λ u. u ++ x.0) (sym d);
          }
      | inr j ↦ let g = h.exact p j in
          record {
            log = g.log;
            is_log = g.is_log;
            first = e;
            more = g.first ∷ g.more;
            rest = g.rest;
            longer = g.longer ∙ append_assoc short (e ∷ []) (g.first ∷ g.more);
            prefix = g.prefix;
          }
    ];
    all = λ p g.
        let x = f g.log g.is_log in
        let c : g.first ∷ (g.more ++ g.rest) ≡ e ∷ x.0 =
        append_cancel_left short (g.first ∷ (g.more ++ g.rest)) (e ∷ x.0)
        (sym (gained_by short p g.log g.first g.more g.rest g.longer g.prefix)
        ∙ (x.1 ∙ append_assoc short (e ∷ []) x.0)) in
        let d : g.first ≡ e = cc in
        by_more g.more p g.log g.rest (g.longer ∙ ap (λ u. short ++ u ∷ g.more) d) g.is_log g.prefix;
    number = let k = h.number in omega (arith, k);
  }
    where
      -- by the elements after the entry
      by_more : (q p log t : List E) → p ≡ short ++ e ∷ q → Log log → log ≡ p ++ t
          → In p ((short ++ e ∷ []) ∷ h.members)
      by_more [] p log t a b c = inl a
      by_more (y ∷ q) p log t a b c = inr
          (h.all p (record {
            log = log;
            is_log = b;
            first = y;
            more = q;
            rest = t;
            longer = a
                ∙ sym (append_assoc short (e ∷ []) (y ∷ q));
            prefix = c;
          }))

  -- a gain of a log is a gain for every set of logs that has this log
  gained_of : (Log Log2 : List E → Type 0) (short p : List E) (g : IsGained Log short p) → Log2 g.log
      → IsGained Log2 short p
  gained_of Log Log2 short p g is = record {
    log = g.log;
    is_log = is;
    first = g.first;
    more = g.more;
    rest = g.rest;
    longer = g.longer;
    prefix = g.prefix;
  }

  -- and so of more logs
  gained_of_more : (Log Log2 : List E → Type 0) (short p : List E) → ((l : List E) → Log l → Log2 l)
      → IsGained Log short p → IsGained Log2 short p
  gained_of_more Log Log2 short p f g = gained_of Log Log2 short p g (f g.log g.is_log)

  -- the logs of two sets that part at once
  pub gained_both : (Log1 Log2 : List E → Type 0) (short : List E) (m n : ℕ) →
      ((x : E) (u v : List E) → Log1 (short ++ x ∷ u) → Log2 (short ++ x ∷ v) → ⊥) → IsCount (IsGained Log1 short) m →
      IsCount (IsGained Log2 short) n → IsCount (IsGained (λ l. Log1 l ⊎ Log2 l) short) (m + n)
  gained_both Log1 Log2 short m n f a b = count_same (λ p. IsGained Log1 short p ⊎ IsGained Log2 short p)
      (IsGained (λ l. Log1 l ⊎ Log2 l) short) (m + n)
      (λ p h. elim h [
        | inl g ↦ gained_of_more Log1 (λ l. Log1 l ⊎ Log2 l) short p (λ l i. inl i) g
        | inr g ↦ gained_of_more Log2 (λ l. Log1 l ⊎ Log2 l) short p (λ l i. inr i) g
      ])
      (λ p g. elim g.is_log [
        | inl l ↦ inl (gained_of (λ k. Log1 k ⊎ Log2 k) Log1 short p g l)
        | inr l ↦ inr (gained_of (λ k. Log1 k ⊎ Log2 k) Log2 short p g l)
      ])
      (count_both (IsGained Log1 short) (IsGained Log2 short) m n (λ p g h.
      let c : g.first ∷ g.more ≡ h.first ∷ h.more =
      append_cancel_left short (g.first ∷ g.more) (h.first ∷ h.more) (sym g.longer ∙ h.longer) in
      let d : h.first ≡ g.first = cc in
      f g.first (g.more ++ g.rest) (h.more ++ h.rest)
      (subst Log1 (gained_by short p g.log g.first g.more g.rest g.longer g.prefix) g.is_log)
      (subst Log2 (gained_by short p h.log h.first h.more h.rest h.longer h.prefix
      ∙ ap (λ x. short ++ x ∷ (h.more ++ h.rest)) d) h.is_log)) a b)

  -- the same logs gained the same prefixes
  pub gained_same : (Log Log2 : List E → Type 0) (short : List E) (n : ℕ) → ((l : List E) → Log l → Log2 l) →
      ((l : List E) → Log2 l → Log l) → IsCount (IsGained Log short) n → IsCount (IsGained Log2 short) n
  gained_same Log Log2 short n f g h = count_same (IsGained Log short)
      (IsGained Log2 short) n (λ p. gained_of_more Log Log2 short p f) (λ p. gained_of_more Log2 Log short p g) h
