-- Racks that were seen up to a front, and those of the first stations at a front.
use Rattle.std.specs.Prelude.{◌≡◌, ℕ, ◌≤◌, List, [], ◌∷◌}
use Rattle.std.specs.List.{AllByRecursion}
use Rattle.net_model.specs.Net.{Net}
use Rattle.phys_proc.specs.Racks.{RackView}

-- these racks are of this network, and show it at this front or before
abbrev pub AreSeenUpTo : Net → ℕ → List RackView → Type 0
AreSeenUpTo net front racks = AllByRecursion (λ q. (q.net ≡ net) × (q.front ≤ front)) racks

-- a rack of this network and station, at this front
pub record IsRackAt (n : Net) (f s : ℕ) (r : RackView) : Type 0 where
  pub station : r.station ≡ s
  pub net : r.net ≡ n
  pub front : r.front ≡ f

-- the racks of the first two stations, in order
abbrev pub AreTwoAt : Net → ℕ → List RackView → Type 0
AreTwoAt net front racks = (a b : RackView) × (racks ≡ a ∷ b ∷ []) × IsRackAt net front 1 a × IsRackAt net front 2 b
