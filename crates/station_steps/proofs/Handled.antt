-- The number of messages that the stations have handled, summed over the station numbers.
use Rattle.std.proofs.Common.{◌≡◌, ℕ, zero, suc, ◌+◌, List, [], ◌∷◌, Some, refl, ap, arith, length}
use Rattle.std.proofs.Common.{option_map, slice_get, unwrap_or}
use Rattle.std.proofs.lemmas.List.Sums.{sum_by-cons}
use Rattle.run_laws.specs.SharedTexts.{station_sum}
use Rattle.station_steps.specs.declared.station_step.StationStep.{StationStep}
use Rattle.station_steps.specs.Windows.{all_handled}
use Rattle.station_steps.proofs.Places.{by_number}

-- ---- by the number of the station

-- the number of messages that the station at a place has handled
abbrev pub handled_at : List StationStep → ℕ → ℕ
handled_at flows i = unwrap_or (option_map (λ f. f.handled) (slice_get flows i)) 0

-- it is that of the result at the place
pub handled_at-got : (flows : List StationStep) (i : ℕ) (flow : StationStep) → slice_get flows i ≡ Some flow
    → handled_at flows i ≡ flow.handled
handled_at-got flows i flow got = ap (λ o. unwrap_or (option_map (λ (f : StationStep). f.handled) o) 0) got

-- the first station's number, and those of the others
sum_shift : (f : ℕ → ℕ) (n : ℕ)
    → station_sum (by_number 0 f) (suc n) ≡ f 0 + station_sum (by_number 0 (λ i. f (suc i))) n
sum_shift f zero = omega arith
sum_shift f (suc n) = let h = sum_shift f n in omega (arith, h)

-- the messages of all stations are the sum over the stations
pub all_handled-sum : (flows : List StationStep) → all_handled flows ≡ station_sum (by_number 0 (handled_at flows))
    (length flows)
all_handled-sum [] = refl
all_handled-sum (f ∷ fs) =
    let h = all_handled-sum fs in
    let a = sum_by-cons (λ (f : StationStep). f.handled) f fs in
    let b = sum_shift (handled_at (f ∷ fs)) (length fs) in
    omega (arith, h, a, b)
