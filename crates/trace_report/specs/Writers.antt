-- Contracts of writers: each writes a piece at a place and returns the place after it.
use Rattle.std.specs.Prelude.{◌≡◌, ℕ, ◌+◌, ◌≤◌, List, ◌++◌, length, take}

-- the piece is appended to what was written before the place, and ends at most `most` bytes after it
pub record WritesPiece (piece : List ℕ) (most at end : ℕ) (old new : List ℕ) : Type 0 where
  pub text : take end new ≡ take at old ++ piece
  pub size : length new ≡ length old
  pub end_max : end ≤ at + most

-- the piece is appended to what was written before the place, and ends its own length after it
pub record WritesExactly (piece : List ℕ) (at end : ℕ) (old new : List ℕ) : Type 0 where
  pub text : take end new ≡ take at old ++ piece
  pub size : length new ≡ length old
  pub place : end ≡ at + length piece
