-- Beginnings of traces: the entries before a word, and those from it on.
--
-- A word is a number for each entry, in the order of keys.
use Rattle.std.specs.Prelude.{◌≡◌, ℕ, ◌<◌, ◌≤◌, List, [], ◌∷◌, ◌++◌, not, nat_lt, ⊤}
use Rattle.std.specs.List.{AllByRecursion, filter}
use Rattle.std.specs.declared.cmp.Ordering.TheVariants.{Less}
use Rattle.sim_base.specs.Clones.{Clone}
use Rattle.sim_base.specs.declared.entry.Entry.{Entry}
use Rattle.run_laws.specs.Queue.{In}
use Rattle.run_laws.specs.Simulation.{Simulation}
use Rattle.run_laws.specs.Runs.{trace_of, log_at}
use Rattle.run_laws.specs.Laws.{entries_before}
use Rattle.run_laws.specs.Handlers.{AreForStations}
use Rattle.run_laws.specs.Merges.{entry_order, merge_of_lists}

module _ {X : Type 0} (word : X → ℕ) where
  -- the elements before a word
  abbrev pub before : ℕ → List X → List X
  before w xs = filter (λ x. nat_lt (word x) w) xs

  -- and those from it on
  abbrev pub from : ℕ → List X → List X
  from w xs = filter (λ x. not (nat_lt (word x) w)) xs

  -- the word of each element is less than those of all after it
  abbrev pub Rise : List X → Type 0
  Rise [] = ⊤
  Rise (x ∷ xs) = AllByRecursion (λ y. word x < word y) xs × Rise xs

  -- what comes from a word on is what comes before a later word, and then the rest
  abbrev pub PartsJoin : Type 0
  PartsJoin = (xs : List X) (a b : ℕ) → a ≤ b → Rise xs → from a xs ≡ before b (from a xs) ++ from b xs

module _ {S M N : Type 0} (sim : Simulation S M N) (sender number : M → ℕ) (word : Entry M N → ℕ) where
  -- in a clone's trace, an entry whose key is less has a word that is less
  abbrev pub WordsFollowKeys : Clone → Type 0
  WordsFollowKeys c = (e f : Entry M N) → In e (trace_of sim c) → In f (trace_of sim c) →
      entry_order sim.time sender number e f ≡ Less → word e < word f

  -- the words before w are of times before t
  abbrev pub WordsAreBefore : ℕ → ℕ → Type 0
  WordsAreBefore w t = (e : Entry M N) → word e < w → sim.time e.msg < t

  -- two clones that have the same entries before a time have the same entries before each word of an earlier time:
  -- so the trace of the second begins as that of the first, and goes on with its own entries
  abbrev pub BeginningIsKept : Type 0
  BeginningIsKept = (c d : Clone) (t w : ℕ) → AreForStations sim d.plans → WordsFollowKeys d → WordsAreBefore w t →
      entries_before sim t (trace_of sim c) ≡ entries_before sim t (trace_of sim d) →
      trace_of sim d ≡ before word w (trace_of sim c) ++ from word w (trace_of sim d)

  -- the entries of the logs of stations 1 to n from a word on, merged
  abbrev pub merge_from : Clone → ℕ → ℕ → List (Entry M N)
  merge_from c w n = merge_of_lists sim sender number (λ s. from word w (log_at sim c s sim.horizon)) n

  -- for all stations they are the trace from there on
  abbrev pub LogsAreMerged : Type 0
  LogsAreMerged = (c : Clone) (w : ℕ) → AreForStations sim c.plans
      → merge_from c w sim.stations ≡ from word w (trace_of sim c)
