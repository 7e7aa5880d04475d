-- Pending messages: a list in the order of messages, each message once, with its marks.
use Rattle.std.specs.Prelude.{ℕ, ◌≤◌, Option, List, [], ◌∷◌, map, option_map, is_some, if◌then◌else◌, slice_get, ⊤}
use Rattle.std.specs.List.{filter_map}
use Rattle.std.specs.declared.cmp.Ordering.{Ordering}
use Rattle.std.specs.declared.cmp.Ordering.TheVariants.{Less, Equal, Greater}
use Rattle.sim_base.specs.declared.message.Msg.{Msg}

module _ {M K : Type 0} (join : K → K → K) where
  -- m is put before y ∷ ys, its marks are joined to those of y, or it is put into the rest after y
  abbrev pub place_marked : Ordering → M → K → M × K → List (M × K) → List (M × K) → List (M × K)
  place_marked Less m k y ys rest = (m, k) ∷ y ∷ ys
  place_marked Equal m k y ys rest = (y.0, join y.1 k) ∷ ys
  place_marked Greater m k y ys rest = y ∷ rest

  -- a message is put in its place; if it is already there, its marks are joined
  abbrev pub insert_marked : (M → M → Ordering) → M → K → List (M × K) → List (M × K)
  insert_marked cmp m k [] = (m, k) ∷ []
  insert_marked cmp m k (y ∷ ys) = place_marked (cmp m y.0) m k y ys (insert_marked cmp m k ys)

  -- more marks for each message whose marks meet `by`
  abbrev pub spread_marks : (K → K → Option K) → K → K → List (M × K) → List (M × K)
  spread_marks meet by more xs = map (λ x. (x.0, if is_some (meet x.1 by) then join x.1 more else x.1)) xs

module _ {M K : Type 0} (meet : K → K → Option K) where
  -- a message whose marks meet `by`, with the marks in common
  abbrev pub shared_by : K → M × K → Option (M × K)
  shared_by by x = option_map (λ k. (x.0, k)) (meet x.1 by)

  -- the messages whose marks meet `by`, each with the marks in common
  abbrev pub cut_by : K → List (M × K) → List (M × K)
  cut_by by xs = filter_map (shared_by by) xs

-- the time of the first message
abbrev pub first_time : {K : Type 0} → List (Msg × K) → Option ℕ
first_time xs = option_map (λ x. x.0.key.time) (slice_get xs 0)

-- the marks of the first message
abbrev pub first_marks : {M K : Type 0} → List (M × K) → Option K
first_marks xs = option_map (λ x. x.1) (slice_get xs 0)

-- no message is pending, or the first is at the bound or later
abbrev pub NothingBefore : {K : Type 0} → ℕ → List (Msg × K) → Type 0
NothingBefore bound [] = ⊤
NothingBefore bound (x ∷ xs) = bound ≤ x.0.key.time
