-- Racks that were seen up to a front, and one more rack.
use Rattle.std.proofs.Common.{◌≡◌, ℕ, ◌<◌, ◌≤◌, List, [], ◌∷◌, ◌++◌, sym, ◌∙◌, arith}
use Rattle.sim_base.proofs.ListLaws.{all_push}
use Rattle.net_model.specs.Net.{Net}
use Rattle.phys_proc.specs.Racks.{RackView}
use Rattle.shelf.specs.Racks.{MayBePublished}
use Rattle.engine_tests.specs.Seen.{AreSeenUpTo}

-- a rack of a later front may follow
pub seen_follows : (net : Net) (front : ℕ) (racks : List RackView) (r : RackView) → AreSeenUpTo net front racks
    → r.net ≡ net → front < r.front → r.front ≤ r.net.horizon → MayBePublished racks r
seen_follows net front [] r seen e l w = tt
seen_follows net front (q ∷ racks) r seen e l w =
    let same : r.net ≡ q.net = e ∙ sym seen.0.0 in
    let f : q.front < r.front = let h = seen.0.1 in omega (arith, h, l) in
    (record { net = same; later = λ s. f; within = λ s. w }, seen_follows net front racks r seen.1 e l w)

-- with it the racks are seen up to its front
pub seen_with : (net : Net) (front : ℕ) (racks : List RackView) (r : RackView) → AreSeenUpTo net front racks
    → r.net ≡ net → front ≤ r.front
    → AreSeenUpTo net r.front (racks ++ r ∷ [])
seen_with net front racks r seen e l = all_push (λ (q : RackView). (q.net ≡ net) × (q.front ≤ r.front)) racks r
    (later racks seen) (e, omega arith)
  where
    later : (racks : List RackView) → AreSeenUpTo net front racks → AreSeenUpTo net r.front racks
    later [] seen = tt
    later (q ∷ racks) seen = let h = seen.0.1 in ((seen.0.0, omega (arith, h, l)), later racks seen.1)
