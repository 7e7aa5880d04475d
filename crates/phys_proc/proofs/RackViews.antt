-- The views of a station's copies for readers.
use Rattle.std.proofs.Common.{◌≡◌, ℕ, ◌<◌, ◌≤◌, true, false, List, [], ◌∷◌, sym, ap, ◌∙◌, subst, length, map}
use Rattle.std.specs.List.{AllByRecursion}
use Rattle.std.proofs.lemmas.Bool.{false≢true}
use Rattle.sim_base.specs.Clones.{Clone}
use Rattle.sim_base.specs.declared.lists.TheConstants.{MAX_CLONES}
use Rattle.sim_base.proofs.ListLaws.{all_map}
use Rattle.clone_sets.specs.Sets.{has, size}
use Rattle.net_model.specs.Net.{Net}
use Rattle.stations.specs.Runs.{simulation}
use Rattle.run_laws.specs.Queue.{In}
use Rattle.run_laws.specs.Copies.{Disjoint, Stands}
use Rattle.run_laws.proofs.Queue.{all_in}
use Rattle.run_laws.proofs.Counts.{in_map, map_has}
use Rattle.phys_proc.specs.Own.{StationCopy}
use Rattle.phys_proc.specs.Racks.{RackCopyView, view_of_copy, AreDisjoint, ShowsClones, IsSeen}

-- ---- AreDisjoint

-- if no clone is in two copies, none is in two of their views
disjoint_views : (copies : List StationCopy) → Disjoint has copies → AreDisjoint (map view_of_copy copies)
disjoint_views [] d = tt
disjoint_views (a ∷ copies) d = (
  all_map (λ (h : RackCopyView). (c : ℕ) → has a.set c ≡ true → ¬ (has h.set c ≡ true)) view_of_copy copies d.0,
  disjoint_views copies d.1,
)

-- ---- IsSeen and ShowsClones

module _ (net : Net) (cs : List Clone) (s front : ℕ) where
  -- the copy of a clone has the number of clones with its log
  pub is_seen : (copies : List RackCopyView) (c handled shared : ℕ) (h : RackCopyView)
      → ShowsClones net cs s front copies
      → In h copies → has h.set c ≡ true → handled ≡ length h.log → shared ≡ size h.set
      → IsSeen net cs s front c handled shared
  is_seen copies c handled shared h f i y l z = record {
    log = l ∙ ap length (f.log h c i y);
    class = h.set;
    is_class = λ d. (
      (λ j. (f.living h d i j, sym (f.log h d i j) ∙ f.log h c i y)),
      (λ p. let k = f.carried d p.0 in
          subst (λ (u : RackCopyView). has u.set d ≡ true) (f.shared k.0 h d c k.1 i k.2 y p.1) k.2),
    );
    size = z;
  }

  -- each clone is in some copy
  pub not_none : (copies : List RackCopyView) (c : ℕ) → ShowsClones net cs s front copies → c < length cs
      → AllByRecursion (λ h. has h.set c ≡ false) copies → ⊥
  not_none copies c f l none = let k = f.carried c l in
      false≢true (sym (all_in (λ h. has h.set c ≡ false) copies k.0 none k.1) ∙ k.2)

  -- copies that represent the clones show them
  pub shows_clones : (copies : List StationCopy) → length cs ≤ MAX_CLONES → front ≤ net.horizon
      → Stands (simulation net) has cs front s copies → ShowsClones net cs s front (map view_of_copy copies)
  shows_clones copies few early st = record {
    at_most = few;
    time_max = early;
    inhabited = λ h i. let k = in_map view_of_copy copies h i in
        let c = st.inhabited k.0 k.1 in
        (c.0, subst (λ (u : RackCopyView). has u.set c.0 ≡ true) (sym k.2) c.1);
    disjoint = disjoint_views copies st.disjoint;
    carried = λ c l. let k = st.carried c l in (view_of_copy k.0, map_has view_of_copy copies k.0 k.1, k.2);
    living = λ h c i j. let k = in_map view_of_copy copies h i in
        st.living k.0 c k.1 (subst (λ (u : RackCopyView). has u.set c ≡ true) k.2 j);
    log = λ h c i j. let k = in_map view_of_copy copies h i in ap (λ (u : RackCopyView). u.log) k.2
        ∙ st.log k.0 c k.1 (subst (λ (u : RackCopyView). has u.set c ≡ true) k.2 j);
    shared = λ h g c d i j y z e.
        let k = in_map view_of_copy copies h i in
        let l = in_map view_of_copy copies g j in
        k.2 ∙ (ap view_of_copy (st.shared k.0 l.0 c d k.1 l.1 (subst (λ (u : RackCopyView). has u.set c ≡ true) k.2 y)
        (subst (λ (u : RackCopyView). has u.set d ≡ true) l.2 z) e) ∙ sym l.2);
  }
