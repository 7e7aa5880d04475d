-- Beginnings of traces, computed: the game of `Examples` with one more ball, thrown in at time 6 or at time 7.
use Rattle.std.specs.Prelude.{ℕ, ◌+◌, ◌*◌, List, [], ◌∷◌, None, codes}
use Rattle.sim_base.specs.Clones.{Clone}
use Rattle.sim_base.specs.declared.entry.Entry.{Entry}
use Rattle.run_laws.specs.Examples.{Ball, game, catch_at, throw_in}
use Rattle.run_laws.specs.Beginnings as beginnings

-- a ball more at station 2 at time 6
abbrev pub early : Clone
early = record { name = codes "early"; plans = throw_in 6 2 ∷ []; end = None }

-- the trace of early
abbrev pub early_trace : List (Entry Ball ℕ)
early_trace =
    catch_at 2 0 1 1 ∷ catch_at 5 0 2 1 ∷ catch_at 6 1 2 2 ∷ catch_at 7 11 2 3 ∷ catch_at 8 0 1 2 ∷ catch_at 11 0 2 4
    ∷ []

-- the same ball at time 7
abbrev pub later : Clone
later = record { name = codes "later"; plans = throw_in 7 2 ∷ []; end = None }

-- the word of a catch: its time, and then its ball's number
abbrev pub word : Entry Ball ℕ → ℕ
word e = e.msg.time * 100 + e.msg.number

-- the logs of a clone from a word on, merged: numbers separate balls of one time
abbrev pub merged_from : Clone → ℕ → List (Entry Ball ℕ)
merged_from c w = beginnings.merge_from game (λ b. 0) (λ b. b.number) word c w 2
