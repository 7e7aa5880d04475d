-- What a look reports stays true of the clones that a journal leaves.
use Rattle.std.proofs.Common.{◌≡◌, ℕ, zero, suc, ◌<◌, List, [], ◌∷◌, length, map, take}
use Rattle.std.proofs.Common.{Option, Some, None, position, refl, sym, ap, ap₂, ◌∙◌, subst, arith}
use Rattle.std.proofs.lemmas.List.{length-take-le}
use Rattle.std.specs.Str.{bytes_eq}
use Rattle.sim_base.specs.Clones.{Clone, clone_at, place_of}
use Rattle.sim_base.specs.declared.decision.Decision.{Decision}
use Rattle.sim_base.proofs.ListLaws.{position-map}
use Rattle.net_model.specs.Net.{Net}
use Rattle.net_model.specs.Rules.{IsNet}
use Rattle.stations.specs.Runs.{log_at}
use Rattle.phys_proc.specs.Racks.{FindsClone, IsSeen}
use Rattle.phys_proc.specs.declared.rack.Found.{Found}
use Rattle.decision_book.specs.Journal.{after, clones_after}
use Rattle.live_study.specs.Laws.{ComeOf, GlancesStayTrue, KeepLogs, LooksStayTrue}
use Rattle.decision_book.proofs.ClonesByName.{place_of-bounds}
use Rattle.live_study.proofs.Staying.{keep_logs-decided, keep_logs-refl, keep_logs-trans, logs_stay}

-- ---- the first of some clones
-- a clone at a place below n is the one there among the first n
clone_at-take : (n : ℕ) (clones : List Clone) (c : ℕ) → c < n → clone_at (take n clones) c ≡ clone_at clones c
clone_at-take zero clones c l = absurd (omega (arith, l))
clone_at-take (suc n) [] c l = refl
clone_at-take (suc n) (x ∷ xs) zero l = refl
clone_at-take (suc n) (x ∷ xs) (suc c) l = clone_at-take n xs c (omega (arith, l))

-- clones of the same names at their places have the same names
same_names : (xs ys : List Clone) → length ys ≡ length xs
    → ((c : ℕ) → c < length xs → (clone_at ys c).name ≡ (clone_at xs c).name)
    → map (λ (c : Clone). c.name) ys ≡ map (λ (c : Clone). c.name) xs
same_names [] [] many same = refl
same_names [] (y ∷ ys) many same = absurd (omega (arith, many))
same_names (x ∷ xs) [] many same = absurd (omega (arith, many))
same_names (x ∷ xs) (y ∷ ys) many same = ap₂ (λ n ns. n ∷ ns) (same 0 (omega arith))
    (same_names xs ys (omega (arith, many)) (λ c l. same (suc c) (omega (arith, l))))

-- so each name has the same place
same_place : (name : List ℕ) (xs ys : List Clone)
    → map (λ (c : Clone). c.name) ys ≡ map (λ (c : Clone). c.name) xs → place_of name ys ≡ place_of name xs
same_place name xs ys same = sym (position-map (λ n. bytes_eq n name) (λ (c : Clone). c.name) ys)
    ∙ ap (position (λ n. bytes_eq n name)) same ∙ position-map (λ n. bytes_eq n name) (λ (c : Clone). c.name) xs

-- ---- clones that keep the logs of others
module _ (net : Net) (front : ℕ) (old new : List Clone) (keep : KeepLogs net front old new) where
  -- those that were there
  abbrev first : List Clone
  first = take (length old) new

  -- there are as many as there were
  first_many : length first ≡ length old
  first_many = length-take-le (length old) new keep.many

  -- each name has the place that it had
  first_place : (name : List ℕ) → place_of name first ≡ place_of name old
  first_place name = same_place name old first (same_names old first first_many
      (λ c l. ap (λ (k : Clone). k.name) (clone_at-take (length old) new c l) ∙ keep.names c l))

  -- at the front each has the log that it had
  first_log : (c s : ℕ) → c < length old → log_at net (clone_at first c) s front ≡ log_at net (clone_at old c) s front
  first_log c s l = ap (λ (k : Clone). log_at net k s front) (clone_at-take (length old) new c l) ∙ keep.logs c s l

  -- a clone is seen there as it was
  first_seen : (s c handled shared : ℕ) → c < length old → IsSeen net old s front c handled shared
      → IsSeen net first s front c handled shared
  first_seen s c handled shared there seen = record {
    log = seen.log ∙ ap length (sym (first_log c s there));
    class = seen.class;
    is_class = λ d. (
      λ h. (let was = (seen.is_class d).0 h in (
        omega (arith, was.0, first_many),
        first_log d s was.0 ∙ was.1 ∙ sym (first_log c s there),
      )),
      λ h. (let within : d < length old = omega (arith, h.0, first_many) in
          (seen.is_class d).1 (within, sym (first_log d s within) ∙ h.1 ∙ first_log c s there)),
    );
    size = seen.size;
  }

  -- what a glance has found of them it finds of the first of the others
  first_found : (s : ℕ) (who : List ℕ) (o : Option Found) → FindsClone net old s front who o
      → FindsClone net first s front who o
  first_found s who None h = record { unknown = first_place who ∙ h.unknown; found = tt }
  first_found s who (Some f) h = record {
    unknown = tt;
    found = (
      h.found.0,
      first_place who ∙ h.found.1,
      first_seen s h.found.0 f.handled f.shared (place_of-bounds who old h.found.0 h.found.1) h.found.2,
    );
  }

-- over a valid network, what a true glance reports is true of the clones that the journal leaves
pub looks_stay_true : (net : Net) → IsNet net → LooksStayTrue net
looks_stay_true net valid events s who g right t =
    let final = (after net events).clones in
    let keep = logs_stay net valid events g.front t.clones right t.at in
    let many : length t.clones ≡ g.clones = sym t.many in
    record {
      at_most = omega (arith, keep.many, many);
      found = subst (λ (n : ℕ). FindsClone net (take n final) s g.front who g.found) many
          (first_found net g.front t.clones final keep s who g.found t.found);
    }

-- ---- ComeOf
-- clones that come of others from a front on keep the logs of these at the front
come_of-keep : (net : Net) → IsNet net → (front : ℕ) (ds : List Decision) (old new : List Clone)
    → ComeOf net front old ds new → KeepLogs net front old new
come_of-keep net valid front [] old new come = subst (KeepLogs net front old) (sym come) (keep_logs-refl net front old)
come_of-keep net valid front (d ∷ ds) old new come =
    let next = clones_after net old d in
    keep_logs-trans net front old next new (keep_logs-decided net valid front old come.0 d come.1 come.2)
    (come_of-keep net valid front ds next new come.3)

-- over a valid network, what a glance reports is true of the clones that come from those of its rack
pub glances_stay_true : (net : Net) → IsNet net → GlancesStayTrue net
glances_stay_true net valid old new ds s who g come many found =
    let keep = come_of-keep net valid g.front ds old new come in
    record {
      at_most = omega (arith, keep.many, many);
      found = subst (λ (n : ℕ). FindsClone net (take n new) s g.front who g.found) (sym many)
          (first_found net g.front old new keep s who g.found found);
    }
