-- Due times in a log, and in its entries before a front.
use Rattle.std.proofs.Common.{◌≡◌, ℕ, ◌<◌, ◌≤◌, ◌&&◌, List, [], ◌∷◌, inl, inr, Bool, true, false, Option, Some, None}
use Rattle.std.proofs.Common.{nat_lt, refl, sym, ap, ◌∙◌, arith, cond}
use Rattle.std.specs.Prelude.{nat_le}
use Rattle.std.specs.List.{AllByRecursion, filter}
use Rattle.std.proofs.lemmas.Bool.{cases_lt, lt-ltb, le-ltb, and_parts}
use Rattle.std.proofs.lemmas.Bool.Decides.{nat_tests}
use Rattle.sim_base.specs.declared.entry.Entry.{Entry}
use Rattle.sim_base.proofs.ListLaws.{all_weaker}
use Rattle.run_laws.specs.FrontLaws.{time_before}
use Rattle.run_laws.proofs.Lists.{filter_none}
use Rattle.watch_points.specs.Due.{RisesByTime, due_in}

module _ {M N : Type 0} (time : M → ℕ) (condition : N → Bool) where
  -- ---- due_in

  -- by whether the first entry meets the condition
  first-cases : (P : Option ℕ → Type 0) (b : Bool) (t : ℕ) (later : Option ℕ) → (b ≡ true → P (Some t)) →
      (b ≡ false → P later) → P (cond b (Some t) later)
  first-cases P true t later f g = f refl
  first-cases P false t later f g = g refl

  -- a due time is at the start or later
  pub due_in-at_start_or_later : (start t : ℕ) (es : List (Entry M N)) → due_in time condition start es ≡ Some t →
      start ≤ t
  due_in-at_start_or_later start t [] h = absurd (cc)
  due_in-at_start_or_later start t (e ∷ es) h =
      first-cases (λ o. o ≡ Some t → start ≤ t) (nat_le start (time e.msg) && condition e.line) (time e.msg)
      (due_in time condition start es)
      (λ b g. let a = (and_parts (nat_le start (time e.msg)) (condition e.line) b).0 in
      let same : time e.msg ≡ t = cc in grind (arith, nat_tests))
      (λ b g. due_in-at_start_or_later start t es g) h

  -- if all entries are at a front or later, nothing is due before the front
  due_in-none_before : (start front : ℕ) (es : List (Entry M N)) → AllByRecursion (λ f. front ≤ time f.msg) es →
      time_before front (due_in time condition start es) ≡ None
  due_in-none_before start front [] h = refl
  due_in-none_before start front (e ∷ es) h =
      first-cases (λ o. time_before front o ≡ None) (nat_le start (time e.msg) && condition e.line) (time e.msg)
      (due_in time condition start es)
      (λ b. ap (λ c. cond c (Some (time e.msg)) None) (le-ltb (time e.msg) front h.0))
      (λ b. due_in-none_before start front es h.1)

  -- a time before the front is kept
  time_before-yes : (t front : ℕ) → t < front → time_before front (Some t) ≡ Some t
  time_before-yes t front l = ap (λ c. cond c (Some t) None) (lt-ltb t front l)

  -- the first entry is before the front, and the due time after it is known
  first-before : (b : Bool) (t front : ℕ) (o p : Option ℕ) → t < front → o ≡ time_before front p →
      cond b (Some t) o ≡ time_before front (cond b (Some t) p)
  first-before true t front o p l h = sym (time_before-yes t front l)
  first-before false t front o p l h = h

  -- if a log rises, its entries before a front have its due times before the front
  pub due_in-before_front : (start front : ℕ) (es : List (Entry M N)) → RisesByTime time es →
      due_in time condition start (filter (λ e. nat_lt (time e.msg) front) es)
      ≡ time_before front (due_in time condition start es)
  due_in-before_front start front [] r = refl
  due_in-before_front start front (e ∷ es) r = elim (cases_lt (time e.msg) front) [
    | inl l ↦
        ap (λ b. due_in time condition start (cond b (e ∷ filter (λ e. nat_lt (time e.msg) front) es)
        (filter (λ e. nat_lt (time e.msg) front) es))) (lt-ltb (time e.msg) front l)
        ∙ first-before (nat_le start (time e.msg) && condition e.line) (time e.msg) front
        (due_in time condition start (filter (λ e. nat_lt (time e.msg) front) es)) (due_in time condition start es) l
        (due_in-before_front start front es r.1)
    | inr l ↦
        let late : AllByRecursion (λ f. front ≤ time f.msg) es =
        all_weaker (λ (f : Entry M N). time e.msg ≤ time f.msg) (λ f. front ≤ time f.msg) es
        (λ f h. omega arith) r.0 in
        ap (λ b. due_in time condition start (cond b (e ∷ filter (λ e. nat_lt (time e.msg) front) es)
        (filter (λ e. nat_lt (time e.msg) front) es))) (le-ltb (time e.msg) front l)
        ∙ ap (due_in time condition start) (filter_none (λ e. nat_lt (time e.msg) front) es
        (all_weaker (λ (f : Entry M N). front ≤ time f.msg) (λ f. nat_lt (time f.msg) front ≡ false) es
        (λ f h. le-ltb (time f.msg) front h) late))
        ∙ sym (due_in-none_before start front (e ∷ es) (l, late))
  ]
