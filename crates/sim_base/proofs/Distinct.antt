-- No two clones have the same name.
use Rattle.std.proofs.Common.{◌≡◌, ℕ, ◌+◌, ◌^◌, ◌<◌, List, [], ◌∷◌, ◌++◌, length, map, refl, ap}
use Rattle.std.proofs.Common.{◌∙◌, sym, arith, zero, suc, Some, None, slice_set, length-set, Bool, false, get_or}
use Rattle.std.proofs.lemmas.Grind.{common_steps}
use Rattle.std.specs.Str.{bytes_eq}
use Rattle.std.specs.List.{position_or_len}
use Rattle.std.proofs.lemmas.List.{length_push, map_push, length-map}
use Rattle.std.proofs.lemmas.List.Quantifiers.{all_pairs_push}
use Rattle.std.proofs.lemmas.List.Sums.{position_or_len_is}
use Rattle.std.proofs.lemmas.Slice.Eq.{bytes_eq-Decides}
use Rattle.sim_base.specs.declared.decision.Planned.{Planned}
use Rattle.sim_base.specs.Clones.{Clone, clone_at, clones_with_fork, place_of, fork_of}
use Rattle.sim_base.specs.CloneListViews.{AreClones, names, CloneListView, clone_of}
use Rattle.sim_base.specs.CloneListViews.{list_fork, lists_with_plan, lists_with_end}
use Rattle.sim_base.proofs.ListLaws.{position-map, none_passes}
use Rattle.sim_base.proofs.CloneLists.{seen_fork, seen_added, seen_ended}

-- ---- names

-- the name at a place
name_there : (clones : List Clone) (c : ℕ) → get_or (names clones) c [] ≡ (clone_at clones c).name
name_there [] c = refl
name_there (k ∷ ks) zero = refl
name_there (k ∷ ks) (suc c) = name_there ks c

-- a clone in another's place, of the same name, leaves the names
names_set : (clones : List Clone) (c : ℕ) (k : Clone) → k.name ≡ (clone_at clones c).name
    → names (slice_set clones c k) ≡ names clones
names_set [] c k e = refl
names_set (x ∷ xs) zero k e = ap (λ n. n ∷ names xs) e
names_set (x ∷ xs) (suc c) k e = ap (λ ns. x.name ∷ ns) (names_set xs c k e)

-- ---- AreClones

-- a clone in another's place, of the same name
AreClones-set : (clones : List Clone) (c : ℕ) (k : Clone) → k.name ≡ (clone_at clones c).name → AreClones clones
    → AreClones (slice_set clones c k)
AreClones-set clones c k e h =
    let long : length (slice_set clones c k) ≡ length clones = length-set clones c k in
    record {
      nonempty = rw long h.nonempty;
      at_most = rw long h.at_most;
      distinct = rw (names_set clones c k e)
          h.distinct;
    }

-- a fork under an unused name
AreClones-forked : (clones : List Clone) (new : List ℕ) (old : ℕ) → place_of new clones ≡ None
    → length clones + 1 < 2 ^ 32 → AreClones clones → AreClones (clones_with_fork clones new old)
AreClones-forked clones new old unused few h =
    let k : Clone = fork_of (clone_at clones old) new in
    let long = length_push clones k in
    let none = position-map (λ n. bytes_eq n new) (λ c. c.name) clones ∙ unused in
    record {
      nonempty = omega (arith, long);
      at_most = rw long few;
      distinct = rw (map_push (λ c. c.name) clones k)
          (all_pairs_push (λ a b. bytes_eq a b ≡ false) (names clones) new h.distinct
          (none_passes (λ n. bytes_eq n new) (names clones) none));
    }

-- ---- place_of

-- a clone is found by its name
place_of_name : (clones : List Clone) (c : ℕ) → AreClones clones → c < length clones
    → place_of (clone_at clones c).name clones ≡ Some c
place_of_name clones c h b =
    let name = (clone_at clones c).name in
    let p : List ℕ → Bool = λ n. bytes_eq n name in
    let long : length (names clones) ≡ length clones = rw length-map refl in
    let at = name_there clones c in
    let first : position_or_len p (names clones) ≡ c = position_or_len_is p (names clones) c [] (omega (arith, long))
    (λ k lt. rw at at (h.distinct k c [] lt (omega (arith, long))))
    (λ within. rw at ((bytes_eq-Decides name name).1 refl)) in
    sym (position-map p (λ k. k.name) clones) ∙ grind (arith, common_steps)

-- ---- the clones after a step

-- the clones after a fork
pub clones_after_fork : (lists : List CloneListView) (seen : List Clone) (new : List ℕ) (old reserved : ℕ)
    → map clone_of lists ≡ seen → place_of new seen ≡ None → length seen + 1 < 2 ^ 32 → AreClones (map clone_of lists)
    → AreClones (map clone_of (lists ++ list_fork lists new old reserved ∷ []))
clones_after_fork lists seen new old reserved same unused few h =
    rw (seen_fork lists new old reserved)
    (AreClones-forked (map clone_of lists) new old (rw same unused) (rw same few) h)

-- after a decision
pub clones_after_plan : (lists : List CloneListView) (c : ℕ) (plan : Planned) → AreClones (map clone_of lists)
    → AreClones (map clone_of (lists_with_plan lists c plan))
clones_after_plan lists c plan h = rw (seen_added lists c plan) (AreClones-set (map clone_of lists) c _ refl h)

-- after an end
pub clones_after_end : (lists : List CloneListView) (c at : ℕ) → AreClones (map clone_of lists)
    → AreClones (map clone_of (lists_with_end lists c at))
clones_after_end lists c at h = rw (seen_ended lists c at) (AreClones-set (map clone_of lists) c _ refl h)

-- ---- the clone that was read

-- the clone that was read is the one at its place
name_read : (lists : List CloneListView) (c : ℕ) (k : CloneListView) → c < length lists → k ≡ get_or lists c k
    → k.name ≡ (clone_at (map clone_of lists) c).name
name_read [] c k b e = absurd (omega arith)
name_read (x ∷ xs) zero k b e = ap (λ k. k.name) e
name_read (x ∷ xs) (suc c) k b e = name_read xs c k (omega arith) e

-- the view of a place by the name read there
pub seen_by_name : (lists : List CloneListView) (seen : List Clone) (c : ℕ) (k : CloneListView)
    → map clone_of lists ≡ seen → AreClones (map clone_of lists) → c < length seen → k ≡ get_or lists c k
    → place_of k.name seen ≡ Some c
seen_by_name lists seen c k same h b read =
    let there : c < length lists = rw (← same, length-map) at b in
    let found = place_of_name (map clone_of lists) c h (rw same b) in
    rw (← same, name_read lists c k there read) found
