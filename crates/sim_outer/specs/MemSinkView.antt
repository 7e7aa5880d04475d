-- Bytes held in memory.
use Rattle.std.specs.Prelude.{ℕ, ◌+◌, ◌-◌, ◌&&◌, ◌++◌, ◌==◌, Bool, false, List, find}
use Rattle.std.specs.Prelude.{length, min, nat_le, take, Option, is_none, unwrap_or, if◌then◌else◌}
use Rattle.std.specs.Option.{option_map}
use Rattle.sim_outer.specs.Counts.{next_count}

-- the contents of a sink in memory
pub record MemSinkView : Type 0 where
  -- the bytes taken so far
  pub taken : List ℕ
  -- the most bytes that it may take
  pub capacity : ℕ
  -- the numbers of the calls that fail, from 1, and the most bytes that each takes
  pub failing : List (ℕ × ℕ)
  -- the number of bytes taken of the current piece, if that is put in parts
  pub begun : ℕ
  -- the number of calls so far
  pub calls : ℕ
  -- the number of faults so far
  pub faults : ℕ

-- the most bytes that the call with this number takes, if it is one that fails
abbrev pub stop_of : List (ℕ × ℕ) → ℕ → Option ℕ
stop_of failing call = option_map (λ f. f.1) (find (λ f. f.0 == call) failing)

-- the most bytes that the next call still takes, if it is one that fails
abbrev pub next_stop : MemSinkView → Option ℕ
next_stop held = option_map (λ stop. stop - held.begun) (stop_of held.failing (next_count held.calls))

-- the number of bytes that may still be taken
abbrev pub left_of : MemSinkView → ℕ
left_of held = held.capacity - length held.taken

-- the number of bytes taken of a piece of this size, with `left` bytes of capacity
abbrev pub share : Option ℕ → ℕ → ℕ → ℕ
share stop left size = min (unwrap_or stop size) (min size left)

-- whether these are all
abbrev pub fits_whole : Option ℕ → ℕ → ℕ → Bool
fits_whole stop left size = nat_le size (unwrap_or stop size) && nat_le size left

-- whether the next call takes a piece of this size without a fault
abbrev pub next_is_whole : MemSinkView → ℕ → Bool
next_is_whole held size = fits_whole (next_stop held) (left_of held) size && is_none (next_stop held)

-- and whether it takes a part of this size, which more may follow
abbrev pub next_part_is_whole : MemSinkView → ℕ → Bool
next_part_is_whole held size = fits_whole (next_stop held) (left_of held) size

-- the sink after it took the bytes of a piece that fit
abbrev pub with_share : MemSinkView → Option ℕ → List ℕ → MemSinkView
with_share held stop piece = let taken : ℕ = share stop (left_of held) (length piece) in
    record held { taken = held.taken ++ take taken piece; begun = held.begun + taken }

-- the sink after a call whose piece has ended, with one more fault if the piece was not taken whole
abbrev pub after_call : MemSinkView → Bool → MemSinkView
after_call held whole = record held {
  begun = 0;
  calls = next_count held.calls;
  faults = if whole then held.faults else next_count held.faults;
}

-- the sink after the next call with a piece
abbrev pub after_put : MemSinkView → List ℕ → MemSinkView
after_put held piece = after_call (with_share held (next_stop held) piece) (next_is_whole held (length piece))

-- the sink after a part, which ends the call if it is not taken whole
abbrev pub after_part : MemSinkView → List ℕ → MemSinkView
after_part held part = let after : MemSinkView = with_share held (next_stop held) part in
    if next_part_is_whole held (length part) then after else after_call after false
