-- Copies that are stepped in place, and those that replace copies that were taken out.
use Rattle.std.proofs.Common.{◌≡◌, ℕ, zero, suc, ◌+◌, ◌<◌, ◌≤◌, List, [], ◌∷◌, ◌++◌, inl, inr, refl, sym, ap}
use Rattle.std.proofs.Common.{ap₂, ◌∙◌, subst, arith, append_assoc, append-nil, take, drop, length, get_or, slice_set}
use Rattle.std.specs.List.{AllByRecursion, remove}
use Rattle.std.proofs.lemmas.List.{drop_more, drop-set-lt, take_more_set, take-set, take_all, length-set}
use Rattle.std.proofs.lemmas.List.{get_or-set_same, set-get_or, length-take-le}
use Rattle.std.proofs.lemmas.List.Edits.{length-remove}
use Rattle.std.proofs.Math.ListN.{drop_of_length-le}
use Rattle.std.proofs.Math.Seq.{take-append_seam, drop-append_seam}
use Rattle.sim_base.specs.declared.lists.TheConstants.{MAX_CLONES}
use Rattle.clone_sets.specs.Sets.{has, empty}
use Rattle.clone_sets.specs.declared.set.CloneSet.{CloneSet}
use Rattle.net_model.specs.Net.{Net}
use Rattle.net_model.specs.Rules.{IsNet}
use Rattle.stations.specs.declared.sender.TheConstants.{MAX_COUNTS}
use Rattle.run_laws.specs.Queue.{In}
use Rattle.run_laws.specs.Copies.{Disjoint, Carries}
use Rattle.run_laws.proofs.Queue.{all_in, all_from}
use Rattle.run_laws.proofs.Lists.{in_append, append_old, append_new}
use Rattle.run_laws.proofs.ComesTo.{disjoint_append}
use Rattle.phys_proc.specs.Own.{StationCopy, MarkedMessages, IsCopy, IsAdvance, ComesFrom, IsStepResult, NothingDue}
use Rattle.phys_proc.specs.Own.{IsLowerBound, all_sizes, may_handle}
use Rattle.phys_proc.proofs.Counting.{alone-append}
use Rattle.phys_proc.proofs.Shares.{few_next}
use Rattle.phys_proc.proofs.AllCopies.{holds_at, disjoint_apart, stepping_start, stepping_more}
use Rattle.phys_proc.proofs.Finishing.{idle_here}
use Rattle.phys_proc.proofs.ComesFrom.{comes_from-start, advance-done, advance-from}

-- ---- slice_set and remove

-- after the place nothing changes
behind_set : (cs : List StationCopy) (i : ℕ) (y : StationCopy) → drop (i + 1) (slice_set cs i y) ≡ drop (i + 1) cs
behind_set cs i y = drop-set-lt (i + 1) cs i y (omega arith)

-- the value read at a place is the one set there
pub set_there : (cs : List StationCopy) (i : ℕ) (x y : StationCopy) → i < length cs → x ≡ get_or (slice_set cs i y) i x
    → x ≡ y
set_there cs i x y l e = e ∙ get_or-set_same cs i y x l

-- the copy at a place begins the rest
at_place : (cs : List StationCopy) (i : ℕ) (x : StationCopy) → i < length cs → x ≡ get_or cs i x
    → drop i cs ≡ x ∷ drop (i + 1) cs
at_place cs i x l e = drop_more cs i x l ∙ ap (λ y. y ∷ drop (i + 1) cs) (sym e)

-- at each place there is a copy
pub copy_at : (cs : List StationCopy) (i : ℕ) → i < length cs → (x : StationCopy) × (x ≡ get_or cs i x)
copy_at [] i l = absurd (omega (arith, l))
copy_at (x ∷ cs) zero l = (x, refl)
copy_at (x ∷ cs) (suc i) l = copy_at cs i (omega (arith, l))

-- if the copy of that place is set to itself, nothing changes
set_same : (cs : List StationCopy) (i : ℕ) (x : StationCopy) → x ≡ get_or cs i x → cs ≡ slice_set cs i x
set_same cs i x e = sym (ap (slice_set cs i) e ∙ set-get_or cs i x)

-- a list with another rest has the prefix of the first
cut_take : (cs zs : List StationCopy) (i : ℕ) → i ≤ length cs → take i (take i cs ++ zs) ≡ take i cs
cut_take cs zs i l = ap (λ n. take n (take i cs ++ zs)) (sym (length-take-le i cs l)) ∙ take-append_seam (take i cs) zs

-- and that rest
cut_drop : (cs zs : List StationCopy) (i : ℕ) → i ≤ length cs → drop i (take i cs ++ zs) ≡ zs
cut_drop cs zs i l = ap (λ n. drop n (take i cs ++ zs)) (sym (length-take-le i cs l)) ∙ drop-append_seam (take i cs) zs

-- the list without the copy at a place, which was set before
module _ (cs after : List StationCopy) (i : ℕ) (y : StationCopy) (there : i < length cs)
    (is : after ≡ remove (slice_set cs i y) i) where
  -- it is the part before the place, and the part after it
  without : after ≡ take i cs ++ drop (i + 1) cs
  without = is ∙ (ap (λ n. take i (slice_set cs i y) ++ drop n (slice_set cs i y)) next
      ∙ ap₂ (λ a b. a ++ b) (take-set cs i y) (behind_set cs i y))
    where
      next : suc i ≡ i + 1
      next = omega arith

  -- before the place it is the same
  pub without_take : take i after ≡ take i cs
  without_take = ap (take i) without ∙ cut_take cs (drop (i + 1) cs) i (omega (arith, there))

  -- from the place on it is the part after it
  without_drop : drop i after ≡ drop (i + 1) cs
  without_drop = ap (drop i) without ∙ cut_drop cs (drop (i + 1) cs) i (omega (arith, there))

  -- and it is shorter by one copy
  pub without_shorter : length after + 1 ≡ length cs
  without_shorter =
      let e = ap length is in
      let n = length-set cs i y in
      let h = length-remove (slice_set cs i y) i (omega (arith, there, n)) in
      omega (arith, e, n, h)

-- ---- Disjoint and IsStepResult, with copies in another order

-- three lists, of which the last two change places, have the same elements
swapped_in : (a m b : List StationCopy) (z : StationCopy) → In z ((a ++ b) ++ m) → In z ((a ++ m) ++ b)
swapped_in a m b z i = elim (in_append (a ++ b) m z i) [
  | inl j ↦ elim (in_append a b z j) [
    | inl k ↦ append_old (a ++ m) b z (append_old a m z k)
    | inr k ↦ append_new (a ++ m) b z k
  ]
  | inr j ↦ append_old (a ++ m) b z (append_new a m z j)
]

-- of disjoint copies the first ones are disjoint
disjoint_first : (xs ys : List StationCopy) → Disjoint has (xs ++ ys) → Disjoint has xs
disjoint_first [] ys d = tt
disjoint_first (x ∷ xs) ys d = (
  all_from (λ b. (c : ℕ) → Carries has x c → ¬ (Carries has b c)) xs (λ b i.
      all_in (λ b. (c : ℕ) → Carries has x c → ¬ (Carries has b c)) (xs ++ ys) b d.0 (append_old xs ys b i)),
  disjoint_first xs ys d.1,
)

-- and the last ones
disjoint_last : (xs ys : List StationCopy) → Disjoint has (xs ++ ys) → Disjoint has ys
disjoint_last [] ys d = d
disjoint_last (x ∷ xs) ys d = disjoint_last xs ys d.1

-- copies are disjoint in another order
disjoint_swapped : (a m b : List StationCopy) → Disjoint has ((a ++ m) ++ b) → Disjoint has ((a ++ b) ++ m)
disjoint_swapped a m b d =
    let am = disjoint_first (a ++ m) b d in
    disjoint_append has (a ++ b) m
    (disjoint_append has a b (disjoint_first a m am) (disjoint_last (a ++ m) b d)
    (λ x y c i j. disjoint_apart (a ++ m) b d x y c (append_old a m x i) j))
    (disjoint_last a m am)
    (λ x y c i j k l. elim (in_append a b x i) [
      | inl u ↦ disjoint_apart a m am x y c u j k l
      | inr u ↦ disjoint_apart (a ++ m) b d y x c (append_new a m y j) u l k
    ])

module _ (net : Net) (s : ℕ) (ends : ℕ → ℕ) (bound : ℕ) where
  -- a step does not depend on the order of the finished copies
  stepping_swapped : (old a m b : List StationCopy) (sent : MarkedMessages) (over : CloneSet) (steps0 steps : ℕ)
      → IsStepResult net s ends bound old ((a ++ m) ++ b) sent over steps0 steps
      → IsStepResult net s ends bound old ((a ++ b) ++ m) sent over steps0 steps
  stepping_swapped old a m b sent over steps0 steps f =
      let back : (z : StationCopy) → In z ((a ++ b) ++ m) → In z ((a ++ m) ++ b) = swapped_in a m b in
      let far = f.far in
      record {
        far = record {
          split = record {
            inhabited = λ z i. far.split.inhabited z (back z i);
            from = λ z i. far.split.from z (back z i);
            parted = λ z y w c d i j k. far.split.parted z y w c d i (back y j) (back w k);
            disjoint = disjoint_swapped a m b far.split.disjoint;
          };
          carried = λ z c i k. elim (far.carried z c i k) [
            | inl x ↦ inl (x.0, swapped_in a b m x.0 x.1, x.2)
            | inr x ↦ inr x
          ];
          ran = λ z y c i j. far.ran z y c i (back y j);
          length_max = λ z i. far.length_max z (back z i);
          too_long = far.too_long;
          idle = far.idle;
        };
        count = f.count;
        gained = f.gained;
        counted = f.counted;
        fits = all_from (IsCopy net s) ((a ++ b) ++ m)
            (λ z i. all_in (IsCopy net s) ((a ++ m) ++ b) z f.fits (back z i));
        at_most = f.at_most;
        shared = λ none.
            let h = f.shared none in
            let k0 = alone-append (a ++ m) b in
            let k1 = alone-append a m in
            let k2 = alone-append (a ++ b) m in
            let k3 = alone-append a b in
            omega (arith, h, k0, k1, k2, k3);
      }

  -- copies that were done before stay
  advance-behind : (before : List StationCopy) (r : StationCopy) (done0 done1 : List StationCopy)
      (sent0 sent1 : MarkedMessages)
      (over0 over1 : CloneSet) (steps0 steps1 : ℕ)
      → IsAdvance net s ends bound r done0 done1 sent0 sent1 over0 over1 steps0 steps1
      → IsAdvance net s ends bound r (before ++ done0) (before ++ done1) sent0 sent1 over0 over1 steps0 steps1
  advance-behind before r done0 done1 sent0 sent1 over0 over1 steps0 steps1 a = record {
    results = a.results;
    gained = a.gained;
    done = ap (λ k. before ++ k) a.done ∙ sym (append_assoc before done0 a.results);
    steps = a.steps;
    comes = a.comes;
    fits = a.fits;
    at_most = a.at_most;
    shared = a.shared;
  }

-- ---- IsSteppedTo

-- the copies before a place are done, and so are those that came of copies that were taken out
pub record IsSteppedTo (net : Net) (s : ℕ) (ends : ℕ → ℕ) (bound : ℕ) (all : List StationCopy) (i : ℕ)
    (cs more : List StationCopy) (sent : MarkedMessages) (over : CloneSet) (steps0 steps : ℕ) : Type 0 where
  pub passed : List StationCopy
  pub whole : all ≡ passed ++ drop i cs
  pub far : IsStepResult net s ends bound passed (take i cs ++ more) sent over steps0 steps

module _ (net : Net) (valid : IsNet net) (s : ℕ) (ends : ℕ → ℕ) (bound : ℕ) where
  -- at first none is done
  pub stepped_to-start : (all more : List StationCopy) (sent : MarkedMessages) (over : CloneSet) (steps : ℕ) → more ≡ []
      → sent ≡ [] → over ≡ empty → IsSteppedTo net s ends bound all 0 all more sent over steps steps
  stepped_to-start all more sent over steps e f g = record {
    passed = [];
    whole = refl;
    far = subst (λ k. IsStepResult net s ends bound [] k sent over steps steps) (sym e)
        (subst (λ k. IsStepResult net s ends bound [] [] k over steps steps) (sym f)
        (subst (λ k. IsStepResult net s ends bound [] [] [] k steps steps) (sym g)
        (stepping_start net valid s ends bound steps)));
  }

  -- a copy that the loop reaches
  module _ {all cs more : List StationCopy} {i : ℕ} {sent : MarkedMessages} {over : CloneSet} {steps0 steps : ℕ}
      (h : IsSteppedTo net s ends bound all i cs more sent over steps0 steps) (there : i < length cs)
      (x : StationCopy) (is : x ≡ get_or cs i x) where
    -- the copies after it
    abbrev left : List StationCopy
    left = drop (i + 1) cs

    -- all copies are the finished ones, it, and those after it
    whole_is : all ≡ h.passed ++ x ∷ left
    whole_is = h.whole ∙ ap (λ k. h.passed ++ k) (at_place cs i x there is)

    -- and so with it among those that are done
    next_whole : all ≡ (h.passed ++ x ∷ []) ++ left
    next_whole = whole_is ∙ sym (append_assoc h.passed (x ∷ []) left)

    -- it is a copy of the station
    pub stepped_to-fits : AllByRecursion (IsCopy net s) all → IsCopy net s x
    stepped_to-fits f = holds_at (IsCopy net s) h.passed left x (subst (AllByRecursion (IsCopy net s)) whole_is f)

    -- with a bounded number of clones in all, the number handled and the number that it may handle can be counted
    pub stepped_to-few : all_sizes all ≤ MAX_CLONES → (handled : ℕ) → handled + steps0 ≡ steps
        → handled + may_handle net.limit x ≤ MAX_COUNTS
    stepped_to-few few handled e =
        let sizes = ap all_sizes whole_is in
        let f = h.far.at_most in
        let k = h.far.counted in
        few_next net.limit handled h.passed left x (omega (arith, few, sizes)) valid.limit_max (omega (arith, f, k, e))

    -- it stays in its place
    pub stepped_to-next : Disjoint has all → (y : StationCopy) (after more1 : List StationCopy) (next : MarkedMessages)
        (over1 : CloneSet) (steps1 : ℕ) → ComesFrom net s ends bound x y sent next steps steps1
        → NothingDue ends bound y y
        → after ≡ slice_set cs i y → more1 ≡ more → over1 ≡ over
        → IsSteppedTo net s ends bound all (i + 1) after more1 next over1 steps0 steps1
    stepped_to-next dis y after more1 next over1 steps1 o d e f g =
        let a = advance-done net s ends bound x y y sent next steps steps1 o d (take i cs ++ more) (take i cs ++ more)
        ((take i cs ++ more) ++ y ∷ []) over over refl refl refl in
        let st = stepping_swapped net s ends bound (h.passed ++ x ∷ []) (take i cs) more (y ∷ []) next over steps0
        steps1
        (stepping_more net valid s ends bound h.passed left x (take i cs ++ more) ((take i cs ++ more) ++ y ∷ []) sent
        next over over steps0 steps steps1 (subst (Disjoint has) whole_is dis) h.far a) in
        record {
          passed = h.passed ++ x ∷ [];
          whole = next_whole
              ∙ ap (λ k. (h.passed ++ x ∷ []) ++ k) (sym (ap (drop (i + 1)) e ∙ behind_set cs i y));
          far = subst (λ k. IsStepResult net s ends bound (h.passed ++ x ∷ []) k next over1 steps0 steps1)
              (ap₂ (λ a m. a ++ m) (sym (ap (take (i + 1)) e ∙ take_more_set cs i y there)) (sym f))
              (subst (λ k. IsStepResult net s ends bound (h.passed ++ x ∷ []) ((take i cs ++ y ∷ []) ++ more) next k
              steps0 steps1) (sym g) st);
        }

    -- nothing of it is pending before the bound, so it does not change
    pub stepped_to-idle : Disjoint has all → IsCopy net s x → IsLowerBound bound x
        → IsSteppedTo net s ends bound all (i + 1) cs more sent over steps0 steps
    stepped_to-idle dis fits late = stepped_to-next dis x cs more sent over steps
        (comes_from-start net s ends bound x sent steps fits) (idle_here ends bound x x late) (set_same cs i x is) refl
        refl

    -- it is taken out, and the copies that it becomes are put with the others
    pub stepped_to-out : Disjoint has all → (y : StationCopy) (after more1 more2 : List StationCopy)
        (mid next : MarkedMessages)
        (over1 over2 : CloneSet) (steps1 steps2 : ℕ) → ComesFrom net s ends bound x y sent mid steps steps1
        → IsAdvance net s ends bound y more1 more2 mid next over1 over2 steps1 steps2
        → after ≡ remove (slice_set cs i y) i → more1 ≡ more → over1 ≡ over
        → IsSteppedTo net s ends bound all i after more2 next over2 steps0 steps2
    stepped_to-out dis y after more1 more2 mid next over1 over2 steps1 steps2 o a e f g =
        let a0 = subst (λ k. IsAdvance net s ends bound y k more2 mid next over over2 steps1 steps2) f
        (subst (λ k. IsAdvance net s ends bound y more1 more2 mid next k over2 steps1 steps2) g a) in
        let a1 = advance-from net s ends bound x y sent mid steps steps1 o more more2 next over over2 steps2 a0 in
        let a2 = advance-behind net s ends bound (take i cs) x more more2 sent next over over2 steps steps2 a1 in
        let st = stepping_more net valid s ends bound h.passed left x (take i cs ++ more) (take i cs ++ more2) sent next
        over over2 steps0 steps steps2 (subst (Disjoint has) whole_is dis) h.far a2 in
        record {
          passed = h.passed ++ x ∷ [];
          whole = next_whole
              ∙ ap (λ k. (h.passed ++ x ∷ []) ++ k) (sym (without_drop cs after i y there e));
          far = subst (λ k. IsStepResult net s ends bound (h.passed ++ x ∷ []) (k ++ more2) next over2 steps0 steps2)
              (sym (without_take cs after i y there e)) st;
        }

  -- all are done
  pub stepped_to-end : {all cs more : List StationCopy} {i : ℕ} {sent : MarkedMessages} {over : CloneSet}
      {steps0 steps : ℕ}
      → IsSteppedTo net s ends bound all i cs more sent over steps0 steps → length cs ≤ i
      → IsStepResult net s ends bound all (cs ++ more) sent over steps0 steps
  stepped_to-end {all} {cs} {more} {i} {sent} {over} {steps0} {steps} h end =
      subst (λ k. IsStepResult net s ends bound k (cs ++ more) sent over steps0 steps)
      (sym (h.whole ∙ ap (λ k. h.passed ++ k) (drop_of_length-le cs {i = i} end) ∙ append-nil h.passed))
      (subst (λ k. IsStepResult net s ends bound h.passed (k ++ more) sent over steps0 steps) (take_all i cs end) h.far)
