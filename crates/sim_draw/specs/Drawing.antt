-- The words of a seed and a stream, and the draws from them.
use Rattle.std.specs.Prelude.{ℕ, ◌+◌, ◌-◌, ◌%◌, ◌<◌, ◌≤◌, nat_lt, if◌then◌else◌, List, [], ◌∷◌, length, sum, take}
use Rattle.std.specs.List.{AllByRecursion}
use Rattle.sim_base.specs.Weights.{IsWeight}
use Rattle.rand_pcg.specs.Lcg.{Lcg, started, advance, increment_of}
unfoldable pub use Rattle.rand_pcg.specs.Lcg.{state_after}
use Rattle.rand_pcg.specs.Pcg.{multiplier_64, pcg32}
use Rattle.sim_draw.specs.declared.draws.TheConstants.{MAX_WEIGHTS}

-- one stream of a seed, and the number of words drawn from it
pub record DrawsView : Type 0 where
  pub seed : ℕ
  pub stream : ℕ
  pub count : ℕ

-- the generator of that stream, after `count` words
unfoldable pub generator : DrawsView → Lcg
generator d = advance 64 multiplier_64 d.count (started 64 multiplier_64 d.seed (increment_of 64 d.stream))

-- word i, from 0, of a stream of a seed
unfoldable pub word : ℕ → ℕ → ℕ → ℕ
word seed stream i = (pcg32 (generator (record { seed = seed; stream = stream; count = i }))).0

-- the next word
abbrev pub next_of : DrawsView → ℕ
next_of d = word d.seed d.stream d.count

-- the stream after one more word was drawn
abbrev pub after_draw : DrawsView → DrawsView
after_draw d = record d { count = d.count + 1 }

-- a number from lo to hi, from the next word
abbrev pub range_of : ℕ → ℕ → DrawsView → ℕ
range_of lo hi d = lo + next_of d % (hi - lo + 1)

-- weights by which an index may be picked
pub record AreWeights (weights : List ℕ) : Type 0 where
  pub nonempty : 1 ≤ length weights
  pub at_most : length weights ≤ MAX_WEIGHTS
  pub all : AllByRecursion IsWeight weights

-- the first index whose running sum of weights exceeds x
abbrev pub index_of : List ℕ → ℕ → ℕ
index_of [] x = 0
index_of (w ∷ ws) x = if nat_lt x w then 0 else 1 + index_of ws (x - w)

-- an index by the weights, from the next word; one weight leaves no choice
abbrev pub pick_of : List ℕ → DrawsView → ℕ
pick_of [] d = 0
pick_of (w ∷ []) d = 0
pick_of ws d = index_of ws (next_of d % sum ws)

-- the stream after a pick by weights: one more word was drawn, or none if there is no choice
abbrev pub after_pick_by : List ℕ → DrawsView → DrawsView
after_pick_by [] d = d
after_pick_by (w ∷ []) d = d
after_pick_by ws d = after_draw d

-- the running sum up to index i exceeds x, and the sum before it does not
pub record IsFirstAbove (ws : List ℕ) (x i : ℕ) : Type 0 where
  pub above : x < sum (take (i + 1) ws)
  pub first : sum (take i ws) ≤ x
