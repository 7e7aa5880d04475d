-- The laws of marks, as statements that contracts cite: the halves of a split, and a fork, take the same messages as
-- before.
use Rattle.std.specs.Prelude.{◌≡◌, ℕ, List, Bool, true, false, Option, Some}
use Rattle.std.specs.List.{AllByRecursion}
use Rattle.sim_base.specs.Pending.{cut_by, spread_marks}
use Rattle.sim_base.specs.Marked.{JoinsMarks, MeetsMarks}
use Rattle.run_laws.specs.Simulation.{Simulation}
use Rattle.run_laws.specs.Copies.{AreOf, part, messages_taken, takes_as, origin_of}

module _ {S M N : Type 0} (K : Type 0) (sim : Simulation S M N) where
  -- a clone of a half takes the same messages of those cut to the half as of all
  abbrev pub HalfTakesTheSame : Type 0
  HalfTakesTheSame = (has : K → ℕ → Bool) (meet : K → K → Option K) (ends : ℕ → ℕ) (half : K) (c : ℕ)
      (q : List (M × K)) →
      MeetsMarks has meet → has half c ≡ true
      → messages_taken sim has ends c (cut_by meet half q) ≡ messages_taken sim has ends c q

  -- and a half keeps no marks of other clones
  abbrev pub HalfKeepsItsMarks : Type 0
  HalfKeepsItsMarks = (has : K → ℕ → Bool) (meet : K → K → Option K) (half : K) (q : List (M × K)) →
      MeetsMarks has meet → AllByRecursion (λ x. (c : ℕ) → has x.1 c ≡ true → has half c ≡ true) (cut_by meet half q)

  -- after a new clone joins an old one in all marks, each clone takes the messages that its origin took
  abbrev pub ForkTakesAsItsOrigin : Type 0
  ForkTakesAsItsOrigin = (has : K → ℕ → Bool) (join : K → K → K) (meet : K → K → Option K) (ends : ℕ → ℕ) (old new : ℕ)
      (of_old of_new : K) (c : ℕ) (q : List (M × K)) →
      JoinsMarks has join → MeetsMarks has meet → ((a b k : K) → meet a b ≡ Some k → (c : ℕ) × (has k c ≡ true)) →
      AreOf has of_old old → AreOf has of_new new → AllByRecursion (λ x. has x.1 new ≡ false) q →
      part (takes_as sim has ends old new) c (spread_marks join meet of_old of_new q) ≡ messages_taken sim has ends
      (origin_of old new c) q
