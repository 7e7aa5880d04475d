-- Stations that their saved data fits.
use Rattle.std.proofs.Common.{◌≡◌, ℕ, suc, Bool, true, false, List, ◌∷◌, Option, Some, None, refl}
use Rattle.std.specs.Prelude.{if◌then◌else◌}
use Rattle.net_model.specs.Net.{Net}
use Rattle.stations.specs.Fitting.{fits_saved}
use Rattle.stations.specs.declared.saved.Saved.{Saved}
use Rattle.checkpoint.specs.Accepted.{first_unfit}

-- the first of data that fits, and the others
pub first_unfit-cons : (net : Net) (s : ℕ) (x : Saved) (xs : List Saved) → first_unfit net s (x ∷ xs) ≡ None
    → (fits_saved net s x ≡ true) × (first_unfit net (suc s) xs ≡ None)
first_unfit-cons net s x xs none = by (fits_saved net s x) refl none
  where
    by : (b : Bool) → fits_saved net s x ≡ b
        → ◌≡◌ {A = Option ℕ} (if b then first_unfit net (suc s) xs else Some s) None
        → (fits_saved net s x ≡ true) × (first_unfit net (suc s) xs ≡ None)
    by true is e = (is, e)
    by false is e = absurd (cc)
