-- Files held in memory.
use Rattle.std.specs.Prelude.{ℕ, ◌==◌, Bool, List, map, Option, None, if◌then◌else◌}
use Rattle.std.specs.FinMap as finite
use Rattle.std.specs.List.{list_any}
use Rattle.std.specs.Option.{option_map}
use Rattle.std.specs.declared.vec.Vec.{Vec}
use Rattle.sim_outer.specs.Counts.{next_count}
use Rattle.sim_outer.specs.Files.{Files, prefix_of}

-- the contents of inputs in memory
pub record MemInputsView : Type 0 where
  -- each file's name and bytes
  pub files : List (List ℕ × List ℕ)
  -- the numbers of the calls that fail, from 1
  pub failing : List ℕ
  -- the number of calls so far
  pub calls : ℕ
  -- the number of faults so far
  pub faults : ℕ

-- each name with its bytes
abbrev pub named_bytes : {Z : Type 0} → List (List ℕ × Vec ℕ Z) → List (List ℕ × List ℕ)
named_bytes files = map (λ f. (f.0, f.1.items)) files

-- the files by their names; of two files with the same name the first counts
abbrev pub files_by_name : List (List ℕ × List ℕ) → Files
files_by_name files = finite.from_entries files

-- the prefix of the file of this name
abbrev pub prefix_by_name : List (List ℕ × List ℕ) → List ℕ → Option (List ℕ)
prefix_by_name files name = option_map prefix_of (finite.get (files_by_name files) name)

-- whether the next call is one that fails
abbrev pub next_fails : MemInputsView → Bool
next_fails held = list_any (λ number. number == next_count held.calls) held.failing

-- the result of the next call: nothing if it is one that fails, or if no file has this name
abbrev pub next_prefix : MemInputsView → List ℕ → Option (List ℕ)
next_prefix held name = if next_fails held then None else prefix_by_name held.files name

-- one more call, and one more fault if it is one that fails
abbrev pub after_fetch : MemInputsView → MemInputsView
after_fetch held = record held {
  calls = next_count held.calls;
  faults = if next_fails held then next_count held.faults else held.faults;
}
