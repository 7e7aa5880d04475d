-- Counts of faults and of calls.
use Rattle.std.specs.Prelude.{◌≡◌, ℕ, zero, suc, ◌+◌, ◌-◌, ◌^◌, ◌≤◌, min, Option, Some, None}

-- a 64-bit count after one more; it stays at its last value
abbrev pub next_count : ℕ → ℕ
next_count n = min (n + 1) (2 ^ 64 - 1)

-- a count rose: it is greater than before, or is the last 64-bit value
abbrev pub HasRisen : ℕ → ℕ → Type 0
HasRisen before now = next_count before ≤ now

-- there was one call, if calls are counted
abbrev pub IsCounted : Option ℕ → Option ℕ → Type 0
IsCounted None now = now ≡ None
IsCounted (Some before) now = now ≡ Some (next_count before)

-- a count after `n` more calls
abbrev pub counts_after : ℕ → ℕ → ℕ
counts_after zero before = before
counts_after (suc n) before = next_count (counts_after n before)

-- there were `n` calls, if calls are counted
abbrev pub AreCounted : ℕ → Option ℕ → Option ℕ → Type 0
AreCounted n None now = now ≡ None
AreCounted n (Some before) now = now ≡ Some (counts_after n before)
