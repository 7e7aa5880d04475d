-- Copies that differ from others only in their pending messages.
use Rattle.std.proofs.Common.{◌≡◌, ℕ, ◌+◌, ◌*◌, List, [], ◌∷◌, refl, sym, ap, ◌∙◌, subst, length, map, true, false}
use Rattle.std.specs.List.{AllByRecursion}
use Rattle.std.proofs.lemmas.List.{length-map}
use Rattle.sim_base.proofs.ListLaws.{all_map, all_of_map}
use Rattle.clone_sets.specs.Sets.{has, size}
use Rattle.run_laws.specs.Queue.{In}
use Rattle.run_laws.proofs.Counts.{in_map, map_has}
use Rattle.phys_proc.specs.Own.{StationCopy, all_sizes, but_pending, handled_alone_by}
use Rattle.world_core.specs.Tracing.{IsCopyOf}

-- ---- a copy

-- the copy of a clone among these is one among the others, except for its pending messages
pub record IsLikeCopyOf (xs : List StationCopy) (c : ℕ) (copy : StationCopy) : Type 0 where
  pub like : StationCopy
  pub found : IsCopyOf xs c like
  pub same : but_pending copy ≡ but_pending like

module _ (raw xs : List StationCopy) (e : map but_pending raw ≡ map but_pending xs) where
  -- a copy among the first is like one among the others
  pub like_copy : (c : ℕ) (copy : StationCopy) → IsCopyOf raw c copy → IsLikeCopyOf xs c copy
  like_copy c copy h =
      let k = in_map but_pending xs (but_pending copy)
      (subst (In (but_pending copy)) e (map_has but_pending raw copy h.is_copy)) in
      record {
        like = k.0;
        found = record {
          is_copy = k.1;
          is_in = subst (λ (u : StationCopy). has u.set c ≡ true) k.2 h.is_in;
        };
        same = k.2;
      }

  -- if no copy among the first has a clone, none among the others has it
  pub none_has : (c : ℕ) → AllByRecursion (λ (a : StationCopy). has a.set c ≡ false) raw
      → AllByRecursion (λ (a : StationCopy). has a.set c ≡ false) xs
  none_has c h = all_of_map (λ (a : StationCopy). has a.set c ≡ false) but_pending xs
      (subst (AllByRecursion (λ (a : StationCopy). has a.set c ≡ false)) e
      (all_map (λ (a : StationCopy). has a.set c ≡ false) but_pending raw h))

  -- ---- all copies

  -- both lists have the same length
  pub like_length : length raw ≡ length xs
  like_length = sym (length-map raw but_pending) ∙ ap length e ∙ length-map xs but_pending

  -- and the same numbers of clones
  pub like_sizes : all_sizes raw ≡ all_sizes xs
  like_sizes = sym (sizes raw) ∙ ap all_sizes e ∙ sizes xs
    where
      sizes : (ys : List StationCopy) → all_sizes (map but_pending ys) ≡ all_sizes ys
      sizes [] = refl
      sizes (y ∷ ys) = ap (λ n. size y.set + n) (sizes ys)

  -- and have handled the same number of messages
  pub like_alone : handled_alone_by raw ≡ handled_alone_by xs
  like_alone = sym (alone raw) ∙ ap handled_alone_by e ∙ alone xs
    where
      alone : (ys : List StationCopy) → handled_alone_by (map but_pending ys) ≡ handled_alone_by ys
      alone [] = refl
      alone (y ∷ ys) = ap (λ n. size y.set * length y.log + n) (alone ys)
