-- A waiting line from a place on.
use Rattle.std.proofs.Common.{◌≡◌, ◌≢◌, ℕ, ◌+◌, List, drop, min, slice_get, Some, not, cond, eq-eqb, ne_eqb, ap, ◌∙◌}
use Rattle.sim_base.specs.declared.message.Job.{Job as JobOf}
use Rattle.net_model.specs.Net.{Net}
use Rattle.stations.specs.Servers.{class_of, least_class, place_of_class}
use Rattle.stations.proofs.Places.{drop-at}

module _ (net : Net) (jobs : List JobOf) (i : ℕ) (job : JobOf) (at : slice_get jobs i ≡ Some job) where
  -- ---- least_class

  -- the least class from a place on is that of the job there and of those after it
  pub least_class-drop : (n : ℕ) → least_class net n (drop i jobs) ≡ least_class net (min n (class_of net job))
      (drop (i + 1) jobs)
  least_class-drop n = ap (least_class net n) (drop-at jobs i job at)

  -- ---- place_of_class

  -- the first of a class is at the place
  pub place_of_class-here : (n : ℕ) → class_of net job ≡ n → place_of_class net n (drop i jobs) ≡ 0
  place_of_class-here n is = ap (place_of_class net n) (drop-at jobs i job at)
      ∙ ap (λ b. cond (not b) (1 + place_of_class net n (drop (i + 1) jobs)) 0) (eq-eqb (class_of net job) n is)

  -- or it is after it
  pub place_of_class-later : (n : ℕ) → class_of net job ≢ n
      → place_of_class net n (drop i jobs) ≡ 1 + place_of_class net n (drop (i + 1) jobs)
  place_of_class-later n is = ap (place_of_class net n) (drop-at jobs i job at)
      ∙ ap (λ b. cond (not b) (1 + place_of_class net n (drop (i + 1) jobs)) 0) (ne_eqb (class_of net job) n is)
