-- Clones in another order are the same clones, with the same figures.
use Rattle.std.proofs.Common.{◌≡◌, ℕ, ◌+◌, List, [], ◌∷◌, ◌++◌, Bool, refl, ap, ◌∙◌, subst, arith, map, length}
use Rattle.std.proofs.Common.{append_assoc, length-append}
use Rattle.std.specs.Prelude.{IsPermutation}
use Rattle.std.specs.List.{range_with_len, flat_map}
use Rattle.std.specs.Set.{distinct_count}
use Rattle.std.proofs.lemmas.List.Sorted.{IsPermutation-map, IsPermutation-sym, sum_by-IsPermutation, All-permutation}
use Rattle.std.proofs.lemmas.List.Elements.{All-from_recursion, recursion_from_All}
use Rattle.sim_base.specs.Clones.{Clone, clone_at}
use Rattle.sim_base.specs.declared.entry.Entry.{Entry}
use Rattle.run_laws.specs.Queue.{In}
use Rattle.run_laws.specs.Simulation.{Simulation}
use Rattle.run_laws.specs.Runs.{log_at}
use Rattle.run_laws.specs.Prefixes.{IsGained}
use Rattle.run_laws.specs.Sharing.{prefixes, same_list, logs_at}
use Rattle.run_laws.specs.CountLaws.{TellsEntries}
use Rattle.run_laws.proofs.Queue.{all_in, all_from}
use Rattle.run_laws.proofs.Prefixes.{count_same, count_unique, gained_same}
use Rattle.run_laws.proofs.Counts.{distinct_is_count, same_list-Decides, prefixes_count}
use Rattle.run_laws.specs.Orders.{IsPlaceOrder, in_order, HaveSameFigures, FiguresIgnoreOrder}

-- ---- IsPermutation

-- an element of a list is in every permutation of it
pub in_permuted : {X : Type 0} (xs ys : List X) (x : X) → IsPermutation xs ys → In x xs → In x ys
in_permuted xs ys x p i = all_in (λ z. In z ys) xs x
    (recursion_from_All (λ z. In z ys) xs (All-permutation (λ z. In z ys) ys xs (IsPermutation-sym xs ys p)
    (All-from_recursion (λ z. In z ys) ys (all_from (λ z. In z ys) ys (λ z j. j))))) i

-- ---- in_order

-- the clones at the places after the first ones
places_after : (before cs : List Clone) →
    map (clone_at (before ++ cs)) (range_with_len (length before) (length cs)) ≡ cs
places_after before [] = refl
places_after before (c ∷ cs) =
    let same : (before ++ c ∷ []) ++ cs ≡ before ++ c ∷ cs = append_assoc before (c ∷ []) cs in
    let more : length (before ++ c ∷ []) ≡ length before + 1 = omega (arith, length-append before (c ∷ [])) in
    let rest : map (clone_at (before ++ c ∷ cs)) (range_with_len (length before + 1) (length cs)) ≡ cs =
    subst (λ l. map (clone_at l) (range_with_len (length before + 1) (length cs)) ≡ cs) same
    (subst (λ n. map (clone_at ((before ++ c ∷ []) ++ cs)) (range_with_len n (length cs)) ≡ cs) more
    (places_after (before ++ c ∷ []) cs)) in
    ap (λ k. k ∷ map (clone_at (before ++ c ∷ cs)) (range_with_len (length before + 1) (length cs))) (here before)
    ∙ ap (λ l. c ∷ l) rest
  where
    here : (xs : List Clone) → clone_at (xs ++ c ∷ cs) (length xs) ≡ c
    here [] = refl
    here (x ∷ xs) = here xs

-- clones in another order are the same clones
pub in_order-permutation : (cs : List Clone) (order : List ℕ) → IsPlaceOrder (length cs) order →
    IsPermutation cs (in_order cs order)
in_order-permutation cs order is = subst (λ l. IsPermutation l (in_order cs order)) (places_after [] cs)
    (IsPermutation-map (clone_at cs) (range_with_len 0 (length cs)) order is)

-- ---- copies, handled_once, handled_alone

module _ {S M N : Type 0} (sim : Simulation S M N) where
  -- the figures of a permutation are the same
  pub same_figures : (same : Entry M N → Entry M N → Bool) (cs ds : List Clone) (s front : ℕ) → TellsEntries same →
      IsPermutation cs ds → HaveSameFigures sim same cs ds s front
  same_figures same cs ds s front tells p =
      let logs : IsPermutation (logs_at sim cs s front) (logs_at sim ds s front) =
      IsPermutation-map (λ c. log_at sim c s front) cs ds p in
      let to : (l : List (Entry M N)) → In l (logs_at sim cs s front) → In l (logs_at sim ds s front) =
      λ l i. in_permuted (logs_at sim cs s front) (logs_at sim ds s front) l logs i in
      let from : (l : List (Entry M N)) → In l (logs_at sim ds s front) → In l (logs_at sim cs s front) =
      λ l i. in_permuted (logs_at sim ds s front) (logs_at sim cs s front) l
      (IsPermutation-sym (logs_at sim cs s front) (logs_at sim ds s front) logs) i in
      record {
        copies_same = count_unique (λ l. In l (logs_at sim cs s front))
            (distinct_count (same_list same) (logs_at sim ds s front))
            (distinct_count (same_list same) (logs_at sim cs s front))
            (count_same (λ l. In l (logs_at sim ds s front)) (λ l. In l (logs_at sim cs s front))
            (distinct_count (same_list same) (logs_at sim ds s front)) from to
            (distinct_is_count (same_list same) (same_list-Decides same tells) (logs_at sim ds s front)))
            (distinct_is_count (same_list same) (same_list-Decides same tells) (logs_at sim cs s front));
        once_same = count_unique (IsGained (λ l. In l (logs_at sim cs s front)) [])
            (distinct_count (same_list same) (flat_map prefixes (logs_at sim ds s front)))
            (distinct_count (same_list same) (flat_map prefixes (logs_at sim cs s front)))
            (gained_same (λ l. In l (logs_at sim ds s front)) (λ l. In l (logs_at sim cs s front)) []
            (distinct_count (same_list same) (flat_map prefixes (logs_at sim ds s front))) from to
            (prefixes_count same tells (logs_at sim ds s front)))
            (prefixes_count same tells (logs_at sim cs s front));
        alone_same = sum_by-IsPermutation length (logs_at sim cs s front) (logs_at sim ds s front) logs;
      }

  -- so they do not depend on the order
  pub figures_ignore_order : FiguresIgnoreOrder sim
  figures_ignore_order same cs order s front tells is =
      same_figures same cs (in_order cs order) s front tells (in_order-permutation cs order is)
