-- Copies that partition the clones.
use Rattle.std.proofs.Common.{◌≡◌, ◌≢◌, ℕ, ◌+◌, ◌*◌, ◌-◌, ◌≤◌, ◌||◌, not, List}
use Rattle.std.proofs.Common.{[], ◌∷◌, ◌++◌, inl, inr, refl, sym, ap, ◌∙◌, subst, arith, length, map}
use Rattle.std.specs.List.{AllByRecursion, range_with_len}
use Rattle.std.proofs.lemmas.List.Filters.{length-filter_both}
use Rattle.std.proofs.lemmas.List.FromFn.{length-range_with_len}
use Rattle.std.proofs.Math.Bool.{or-false}
use Rattle.std.proofs.Math.Nat.{add-mul, mul-le-mul_left}
use Rattle.std.proofs.lemmas.Nat.{mul-le}
use Rattle.std.proofs.lemmas.Bool.{cases_Bool, false≢true}
use Rattle.sim_base.specs.declared.lists.TheConstants.{MAX_CLONES}
use Rattle.sim_base.proofs.ListLaws.{all_weaker, all_map, all_of_map}
use Rattle.clone_sets.specs.Sets.{has, union, empty, size, members}
use Rattle.clone_sets.specs.declared.set.CloneSet.{CloneSet}
use Rattle.clone_sets.proofs.SetLaws.{has-empty, has-union, same_members}
use Rattle.net_model.specs.Net.{Net}
use Rattle.net_model.specs.declared.limits.TheConstants.{MAX_LIMIT}
use Rattle.stations.specs.Runs.{simulation}
use Rattle.stations.specs.declared.sender.TheConstants.{MAX_COUNTS}
use Rattle.run_laws.specs.Copies.{Carries, Disjoint, IsStepped}
use Rattle.run_laws.proofs.Queue.{all_from}
use Rattle.phys_proc.specs.Own.{StationCopy, MarkedMessages, IsCopy, all_clones}
use Rattle.phys_proc.specs.Own.{all_sizes, handled_alone_by, may_handle, but_pending}
use Rattle.phys_proc.specs.Procs.{AreShared, KeepsShares}
use Rattle.phys_proc.proofs.Counting.{not_empty, in_some, some_in, size_all, all_sizes-append, alone_short}

-- ---- but_pending: copies that differ only in their pending messages

-- copies that share no clone share none without their pending messages
disjoint_map : (xs : List StationCopy) → Disjoint has xs → Disjoint has (map but_pending xs)
disjoint_map [] d = tt
disjoint_map (x ∷ xs) d = (
  all_map (λ (b : StationCopy). (c : ℕ) → Carries has x c → ¬ (Carries has b c)) but_pending xs d.0,
  disjoint_map xs d.1,
)

-- and the other way round
disjoint_back : (xs : List StationCopy) → Disjoint has (map but_pending xs) → Disjoint has xs
disjoint_back [] d = tt
disjoint_back (x ∷ xs) d = (
  all_of_map (λ (b : StationCopy). (c : ℕ) → Carries has x c → ¬ (Carries has b c)) but_pending xs d.0,
  disjoint_back xs d.1,
)

-- without them all copies together have the clones that they had
clones_map : (xs : List StationCopy) → all_clones (map but_pending xs) ≡ all_clones xs
clones_map [] = refl
clones_map (x ∷ xs) = ap (λ k. union x.set k) (clones_map xs)

-- and these have handled the same number alone
alone_map : (xs : List StationCopy) → handled_alone_by (map but_pending xs) ≡ handled_alone_by xs
alone_map [] = refl
alone_map (x ∷ xs) = ap (λ n. size x.set * length x.log + n) (alone_map xs)

-- the pending messages do not affect which clones are in which copy
pub disjoint_same : (xs ys : List StationCopy) → map but_pending ys ≡ map but_pending xs → Disjoint has xs
    → Disjoint has ys
disjoint_same xs ys e d = disjoint_back ys (subst (Disjoint has) (sym e) (disjoint_map xs d))

-- nor do they affect the partition of the living clones and the count of handled messages
pub shares_same : (s handled : ℕ) (living : CloneSet) (xs ys : List StationCopy)
    → map but_pending ys ≡ map but_pending xs
    → KeepsShares (record { station = s; living = living; handled = handled; copies = xs }) →
    KeepsShares (record { station = s; living = living; handled = handled; copies = ys })
shares_same s handled living xs ys e k = record {
  shares = record {
    inhabited = all_of_map (λ (a : StationCopy). a.set ≢ empty) but_pending ys
        (subst (AllByRecursion (λ a. a.set ≢ empty)) (sym e)
        (all_map (λ (a : StationCopy). a.set ≢ empty) but_pending xs k.shares.inhabited));
    disjoint = disjoint_same xs ys e k.shares.disjoint;
    together = sym (clones_map ys) ∙ (ap all_clones e ∙ (clones_map xs ∙ k.shares.together));
  };
  once = let a = alone_map xs in let b = alone_map ys in let c = ap handled_alone_by e in let h = k.once in
      omega (arith, a, b, c, h);
}

-- ---- KeepsShares, after a step

module _ (net : Net) (s : ℕ) (ends : ℕ → ℕ) (bound : ℕ) (old new : List StationCopy) (sent : MarkedMessages)
    (stepped : IsStepped (simulation net) has ends s bound old new sent) where
  -- all copies together have the clones that they had
  same_clones : (c : ℕ) → has (all_clones new) c ≡ has (all_clones old) c
  same_clones c = elim (cases_Bool (has (all_clones new) c)) [
    | inl y ↦ let k = in_some new c y in let f = stepped.split.from k.0 k.1 in
        y ∙ sym (some_in old f.0 c f.1 (f.2 c k.2))
    | inr n ↦ elim (cases_Bool (has (all_clones old) c)) [
      | inl y ↦ let k = in_some old c y in let g = stepped.carried k.0 c k.1 k.2 in
          absurd (false≢true (sym n ∙ some_in new g.0 c g.1 g.2))
      | inr o ↦ n ∙ sym o
    ]
  ]

  -- the new copies share out the clones that the old ones did
  pub shares_after : (living : CloneSet) (handled more : ℕ) → all_clones old ≡ living → handled ≤ handled_alone_by old
      → handled_alone_by old + more ≤ handled_alone_by new
      → KeepsShares (record { station = s; living = living; handled = handled + more; copies = new })
  shares_after living handled more e l m = record {
    shares = record {
      inhabited = all_from (λ a. a.set ≢ empty) new
          (λ b i. let c = stepped.split.inhabited b i in not_empty b.set c.0 c.1);
      disjoint = stepped.split.disjoint;
      together = same_members (all_clones new) (all_clones old) same_clones ∙ e;
    };
    once = omega (arith, l, m);
  }

-- ---- all_sizes, handled_alone_by and may_handle: no more than there may be

-- the clones together are no more than there may be
pub few_clones : (living : CloneSet) (copies : List StationCopy) → AreShared living copies
    → size living ≤ MAX_CLONES → all_sizes copies ≤ MAX_CLONES
few_clones living copies h l = let e = size_all copies h.disjoint in let t = ap size h.together in
    omega (arith, e, t, l)

-- the copies together have as many clones as there are living
pub sizes_are : (living : CloneSet) (copies : List StationCopy) → AreShared living copies
    → all_sizes copies ≡ size living
sizes_are living copies h = size_all copies h.disjoint ∙ ap size h.together

-- the number handled, and the number that the next copy may handle, do not overflow the counter
pub few_next : (limit h : ℕ) (ys zs : List StationCopy) (x : StationCopy) → all_sizes (ys ++ x ∷ zs) ≤ MAX_CLONES
    → limit ≤ MAX_LIMIT → h ≤ all_sizes ys * limit → h + may_handle limit x ≤ MAX_COUNTS
few_next limit h ys zs x l k f =
    let e = all_sizes-append ys (x ∷ zs) in
    let d = add-mul (all_sizes ys) (size x.set) limit in
    let n : limit - length x.log ≤ limit = omega arith in
    let m = mul-le-mul_left (size x.set) n in
    let b : all_sizes ys + size x.set ≤ MAX_CLONES = omega (arith, e, l) in
    let c = mul-le (all_sizes ys + size x.set) limit MAX_CLONES MAX_LIMIT b k in
    omega (arith, d, m, c, f)

-- the number handled once does not overflow the counter
pub few_handled : (net : Net) (s handled : ℕ) (copies : List StationCopy) → AllByRecursion (IsCopy net s) copies
    → all_sizes copies ≤ MAX_CLONES → net.limit ≤ MAX_LIMIT → handled ≤ handled_alone_by copies
    → handled ≤ MAX_COUNTS
few_handled net s handled copies f l k h =
    let short = all_weaker (IsCopy net s) (λ (a : StationCopy). length a.log ≤ net.limit) copies (λ a is. is.length_max)
    f in
    let a = alone_short net.limit copies short in
    let c = mul-le (all_sizes copies) net.limit MAX_CLONES MAX_LIMIT l k in
    omega (arith, a, c, h)

-- there are no more clones than numbers
pub few_members : (k : CloneSet) (n : ℕ) → n ≡ size k → n ≡ length (members k) → size k ≤ MAX_CLONES
unfolding members
few_members k n e f =
    let h = length-filter_both (has k) (λ c. not (has k c)) (λ c. refl) (range_with_len 0 MAX_CLONES) in
    let l = length-range_with_len 0 MAX_CLONES in
    omega (arith, e, f, h, l)

-- ---- KeepsShares, of one copy

-- one copy shares out its clones
pub shares_one : (s : ℕ) (living : CloneSet) (a : StationCopy) → a.set ≡ living → living ≢ empty
    → KeepsShares (record { station = s; living = living; handled = 0; copies = a ∷ [] })
shares_one s living a e some = record {
  shares = record {
    inhabited = (λ n. some (sym e ∙ n), tt);
    disjoint = (tt, tt);
    together = same_members (union a.set empty) living
        (λ c. has-union a.set empty c ∙ (ap (λ b. has a.set c || b) (has-empty c)
        ∙ (or-false (has a.set c) ∙ ap (λ k. has k c) e)));
  };
  once = omega arith;
}
