-- A step of all copies of a station, copy after copy.
use Rattle.std.proofs.Common.{◌≡◌, ℕ, ◌+◌, ◌*◌, ◌-◌, ◌≤◌, List, [], ◌∷◌, ◌++◌, inl, inr, refl, sym, ap}
use Rattle.std.proofs.Common.{◌∙◌, subst, arith, append_assoc, append-nil, length}
use Rattle.std.specs.List.{AllByRecursion}
use Rattle.sim_base.proofs.ListLaws.{all_append, all_right}
use Rattle.std.proofs.Math.Nat.{add-mul, mul-le-mul_left}
use Rattle.sim_base.specs.declared.message.Msg.{Msg}
use Rattle.clone_sets.specs.Sets.{has, empty, size}
use Rattle.clone_sets.specs.declared.set.CloneSet.{CloneSet}
use Rattle.clone_sets.proofs.SetLaws.{has-empty}
use Rattle.net_model.specs.Net.{Net}
use Rattle.net_model.specs.Rules.{IsNet}
use Rattle.sim_base.specs.Order.{msg_cmp}
use Rattle.stations.specs.Good.{IsGood}
use Rattle.stations.specs.Runs.{simulation}
use Rattle.stations.proofs.GoodLaws.{lawful-stations}
use Rattle.run_laws.specs.Queue.{In}
use Rattle.sim_base.specs.Marked.{SortedMarked}
use Rattle.run_laws.specs.Copies.{Disjoint, Carries, SoFar, IsStepped, AreOver, GainTogether}
use Rattle.run_laws.proofs.Queue.{all_in}
use Rattle.run_laws.proofs.Lists.{append_new}
use Rattle.run_laws.proofs.Parts.{all_part_of}
use Rattle.run_laws.proofs.Steps.{so_far_none, so_far_more, IsStepped-SoFar, are_over}
use Rattle.run_laws.proofs.Gaining.{gained_alone, together_push}
use Rattle.phys_proc.specs.Own.{StationCopy, MarkedMessages, IsCopy, IsLowerBound, IsLowerBoundOfAll}
use Rattle.phys_proc.specs.Own.{IsAdvance, IsStepResult, takes_at, all_sizes, handled_alone_by}
use Rattle.phys_proc.proofs.Counting.{empty_within, all_sizes-append, alone-append}
use Rattle.phys_proc.proofs.Halves.{same_none}
use Rattle.phys_proc.proofs.ComesFrom.{sets_join, good_state, comes_from-start, advance-done}

-- ---- AllByRecursion and Disjoint

-- a property of all elements of a list holds of the one between two parts
pub holds_at : {X : Type 0} (P : X → Type 0) (ys zs : List X) (x : X) → AllByRecursion P (ys ++ x ∷ zs) → P x
holds_at P ys zs x f = (all_right P ys (x ∷ zs) f).0

-- of disjoint copies the first ones share no clone with the last
pub disjoint_apart : (xs ys : List StationCopy) → Disjoint has (xs ++ ys) → (a b : StationCopy) (c : ℕ) → In a xs
    → In b ys → Carries has a c → Carries has b c → ⊥
disjoint_apart [] ys d a b c i j k l = absurd i
disjoint_apart (x ∷ xs) ys d a b c (inl e) j k l = all_in (λ b. (c : ℕ) → Carries has x c → ¬ (Carries has b c))
    (xs ++ ys) b d.0 (append_new xs ys b j) c (subst (λ u. Carries has u c) e k) l
disjoint_apart (x ∷ xs) ys d a b c (inr i) j k l = disjoint_apart xs ys d.1 a b c i j k l

-- ---- IsStepResult

module _ (net : Net) (valid : IsNet net) (s : ℕ) (ends : ℕ → ℕ) (bound : ℕ) where
  -- before the first copy nothing is done, nothing is sent and no clone is over the limit
  pub stepping_start : (steps : ℕ) → IsStepResult net s ends bound [] [] [] empty steps steps
  stepping_start steps = record {
    far = so_far_none (simulation net) has ends s bound empty;
    count = 0;
    gained = refl;
    counted = omega arith;
    fits = tt;
    at_most = omega arith;
    shared = λ none. omega arith;
  }

  -- one copy more
  pub stepping_more : (ys zs : List StationCopy) (x : StationCopy) (done new : List StationCopy)
      (sent next : MarkedMessages)
      (over over1 : CloneSet) (steps0 steps steps1 : ℕ) → Disjoint has (ys ++ x ∷ zs) →
      IsStepResult net s ends bound ys done sent over steps0 steps
      → IsAdvance net s ends bound x done new sent next over over1 steps steps1
      → IsStepResult net s ends bound (ys ++ x ∷ []) new next over1 steps0 steps1
  stepping_more ys zs x done new sent next over over1 steps0 steps steps1 dis f a =
      let law = lawful-stations net valid in
      let apart : (b : StationCopy) (c : ℕ) → In b ys → Carries has b c → Carries has x c → ⊥ =
      λ b c k m n. disjoint_apart ys (x ∷ zs) dis b x c k (inl refl) m n in
      let c0 = f.counted in
      let c1 = a.steps in
      record {
        far = subst (λ u. SoFar (simulation net) has ends s bound (ys ++ x ∷ []) u next empty over1) (sym a.done)
            (so_far_more law sets_join ends s bound ys done a.results x sent next empty over over1 a.gained apart
            f.far a.comes);
        count = f.count + a.gained;
        gained = together_push law sets_join ends s 0 bound ys x f.count a.gained f.gained
            (gained_alone law sets_join ends s 0 bound x sent a.gained
            (λ c k. f.far.idle c (λ b j m. apart b c j m k)) a.comes.gained);
        counted = omega (arith, c0, c1);
        fits = subst (AllByRecursion (IsCopy net s)) (sym a.done)
            (all_append (IsCopy net s) done a.results f.fits a.fits);
        at_most =
            let h = all_sizes-append ys (x ∷ []) in
            let d = add-mul (all_sizes ys) (size x.set) net.limit in
            let e = ap (λ n. n * net.limit) h in
            let m = mul-le-mul_left (size x.set) (less net.limit (length x.log)) in
            let f0 = f.at_most in
            let a0 = a.at_most in
            let z : all_sizes (x ∷ []) ≡ size x.set = omega arith in
            let e1 = ap (λ n. (all_sizes ys + n) * net.limit) z in
            omega (arith, d, e, e1, m, f0, a0);
        shared = λ none.
            let over_none = empty_within over over1 a.comes.still_over none in
            let h0 = f.shared over_none in
            let h1 = a.shared none in
            let b = alone-append ys (x ∷ []) in
            let c = ap handled_alone_by a.done in
            let d = alone-append done a.results in
            omega (arith, h0, h1, b, c, d);
      }
    where
      less : (n l : ℕ) → n - l ≤ n
      less n l = omega arith

  -- ---- nothing due

  -- a copy with nothing due stays
  advance-idle : (x : StationCopy) (done : List StationCopy) (sent : MarkedMessages) (over : CloneSet) (steps : ℕ)
      → IsCopy net s x → IsLowerBound bound x
      → IsAdvance net s ends bound x done (done ++ x ∷ []) sent sent over over steps steps
  advance-idle x done sent over steps f late =
      advance-done net s ends bound x x x sent sent steps steps (comes_from-start net s ends bound x sent steps f)
      (record {
        same = same_none ends x;
        settled = λ c i. all_part_of (takes_at ends) c
            (λ (m : Msg). bound ≤ m.key.time) x.pending late;
      })
      done done (done ++ x ∷ []) over over refl refl refl

  -- with nothing due in the remaining copies, they are finished unchanged
  stepping_idle : (ys zs : List StationCopy) (steps : ℕ) → AllByRecursion (IsCopy net s) zs → IsLowerBoundOfAll bound zs
      → Disjoint has (ys ++ zs) → IsStepResult net s ends bound ys ys [] empty steps steps
      → IsStepResult net s ends bound (ys ++ zs) (ys ++ zs) [] empty steps steps
  stepping_idle ys [] steps f late dis h = subst (λ u. IsStepResult net s ends bound u u [] empty steps steps)
      (sym (append-nil ys)) h
  stepping_idle ys (z ∷ zs) steps f late dis h =
      let e : (ys ++ z ∷ []) ++ zs ≡ ys ++ z ∷ zs = append_assoc ys (z ∷ []) zs in
      subst (λ u. IsStepResult net s ends bound u u [] empty steps steps) e
      (stepping_idle (ys ++ z ∷ []) zs steps f.1 late.1 (subst (Disjoint has) (sym e) dis)
      (stepping_more ys zs z ys (ys ++ z ∷ []) [] [] empty empty steps steps steps dis h
      (advance-idle z ys [] empty steps f.0 late.0)))

  -- if no copy has anything due, all stay
  pub IsStepResult-idle : (xs : List StationCopy) (steps : ℕ) → AllByRecursion (IsCopy net s) xs
      → IsLowerBoundOfAll bound xs
      → Disjoint has xs → IsStepResult net s ends bound xs xs [] empty steps steps
  IsStepResult-idle xs steps f late dis = stepping_idle [] xs steps f late dis (stepping_start steps)

  -- ---- all copies

  module _ (xs : List StationCopy) (done : List StationCopy) (sent : MarkedMessages) (over : CloneSet)
      (steps0 steps : ℕ)
      (fits : AllByRecursion (IsCopy net s) xs)
      (far : IsStepResult net s ends bound xs done sent over steps0 steps) where
    -- each copy has a good state, and its pending messages in order
    good_and_sorted : (a : StationCopy) → In a xs → IsGood net s a.state × SortedMarked msg_cmp a.pending
    good_and_sorted a j = let fa = all_in (IsCopy net s) xs a fits j in (good_state net s a fa, fa.sorted)

    -- if no clone is over the limit, each clone has the result of its own window
    pub all_stepped : over ≡ empty → IsStepped (simulation net) has ends s bound xs done sent
    all_stepped none = IsStepped-SoFar (lawful-stations net valid) sets_join ends s bound xs done sent empty over
        good_and_sorted (λ c. ap (λ k. has k c) none ∙ has-empty c) far.far

    -- those over the limit are the clones whose own windows give logs that are too long
    pub all_over : AreOver (simulation net) has ends s bound xs over
    all_over = are_over (lawful-stations net valid) sets_join ends s bound xs done sent empty over good_and_sorted
        (λ c. has-empty c) far.far

    -- as many messages were handled as prefixes were gained
    pub all_gained : (n : ℕ) → n + steps0 ≡ steps → GainTogether (simulation net) has ends s bound xs n
    all_gained n h = let k = far.counted in let e : far.count ≡ n = omega (arith, h, k) in
        subst (GainTogether (simulation net) has ends s bound xs) e far.gained

    -- and at most the limit for each of their clones
    pub all_few : (n : ℕ) → n + steps0 ≡ steps → n ≤ all_sizes xs * net.limit
    all_few n h = let k = far.counted in let f = far.at_most in omega (arith, h, k, f)

    -- with the number that the clones had handled alone, at most the number afterwards, if none is over the limit
    pub all_shared : (n : ℕ) → n + steps0 ≡ steps → over ≡ empty → handled_alone_by xs + n ≤ handled_alone_by done
    all_shared n h none = let k = far.counted in let f = far.shared none in omega (arith, h, k, f)
