-- The next in line is in the line.
use Rattle.std.proofs.Common.{◌≡◌, ℕ, ◌<◌, ◌≤◌, ◌⊎◌, inl, inr, min, List, [], ◌∷◌}
use Rattle.std.proofs.Common.{length, Bool, true, false, if◌then◌else◌, eqb, eq-eqb, refl, sym, ◌∙◌, arith}
use Rattle.std.proofs.lemmas.Bool.{cases_Bool, false≢true}
use Rattle.sim_base.specs.declared.message.Job.{Job as JobOf}
use Rattle.sim_base.proofs.Elements.{min_cases}
use Rattle.net_model.specs.Net.{Net, Site, serves_by_class}
use Rattle.stations.specs.Servers.{class_of, least_class, least_in, place_of_class, next_place}

module _ (net : Net) where
  -- ---- least_class and least_in

  -- one of the jobs has the class n
  abbrev HasClass : ℕ → List JobOf → Type 0
  HasClass n [] = ⊥
  HasClass n (j ∷ js) = (class_of net j ≡ n) ⊎ HasClass n js

  -- the least of a class and of the classes of jobs is that class or one of theirs
  least_class-reached : (n : ℕ) (js : List JobOf) → (least_class net n js ≡ n) ⊎ HasClass (least_class net n js) js
  least_class-reached n [] = inl refl
  least_class-reached n (j ∷ js) = elim (least_class-reached (min n (class_of net j)) js) [
    | inl same ↦ elim (min_cases n (class_of net j)) [
      | inl first ↦ inl (same ∙ first)
      | inr second ↦ inr (inl (sym (same ∙ second)))
    ]
    | inr has ↦ inr (inr has)
  ]

  -- if a job waits, a waiting job has the least class
  least_in-reached : (jobs : List JobOf) → 1 ≤ length jobs → HasClass (least_in net jobs) jobs
  least_in-reached [] some = absurd (omega arith)
  least_in-reached (j ∷ js) some = elim (least_class-reached (class_of net j) js) [
    | inl same ↦ inl (sym same)
    | inr has ↦ inr has
  ]

  -- ---- place_of_class and next_place

  -- if one of the jobs has the class, the first one is in the line
  place_of_class-below : (n : ℕ) (jobs : List JobOf) → HasClass n jobs → place_of_class net n jobs < length jobs
  place_of_class-below n [] has = absurd has
  place_of_class-below n (j ∷ js) has = elim (cases_Bool (eqb (class_of net j) n)) [
    | inl is ↦ rw is (omega arith)
    | inr other ↦ elim has [
      | inl same ↦ absurd (false≢true (sym other ∙ eq-eqb (class_of net j) n same))
      | inr later ↦ (let below = place_of_class-below n js later in rw other (omega arith))
    ]
  ]

  -- if a job waits, the next in line is a waiting job
  pub next_place-below : (site : Site) (jobs : List JobOf) → 1 ≤ length jobs → next_place net site jobs < length jobs
  next_place-below site jobs some = by (serves_by_class site.kind)
    where
      -- by whether the least class is served first
      by : (b : Bool) → (if b then place_of_class net (least_in net jobs) jobs else 0) < length jobs
      by true = place_of_class-below (least_in net jobs) jobs (least_in-reached jobs some)
      by false = omega arith
