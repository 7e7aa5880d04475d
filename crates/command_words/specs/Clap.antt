-- What `clap` finds in the words, by its own semantics: these are the values of the rules.
use Rattle.std.specs.Prelude.{◌≡◌, ℕ, true, codes, nat_le, if◌then◌else◌, List, [], ◌∷◌, length, Option, Some, None}
use Rattle.std.specs.Prelude.{option_and_then}
use Rattle.std.specs.List.{list_all}
use Rattle.std.specs.Str.{is_utf8}
use Rattle.clap.specs.Words.{Row, Kinds, fault_of, matches_of, first_of}
use Rattle.command_words.specs.Application.{cloner_app}
use Rattle.command_words.specs.Rules.{values}
use Rattle.command_words.specs.Values.{GivenView, positionals_of}

-- the values of the options and positionals in clap's rows
abbrev pub values_in : List Row → GivenView
values_in rows = record {
  workers = first_of (codes "workers") rows;
  clone = first_of (codes "clone") rows;
  until = first_of (codes "until") rows;
  positionals = positionals_of (first_of (codes "mode") rows) (first_of (codes "first") rows)
      (first_of (codes "second") rows) (first_of (codes "third") rows);
}

-- what was found, None if there is a fault
abbrev pub unless_fault : Kinds → Option GivenView → Option GivenView
unless_fault [] found = found
unless_fault (k ∷ ks) found = None

-- the values that clap finds for its command, None if it refuses the words
unfoldable pub clap_values : List (List ℕ) → Option GivenView
clap_values words = unless_fault (fault_of cloner_app words) (Some (values_in (matches_of cloner_app words)))

-- clap's command has four positionals
abbrev pub up_to_four : GivenView → Option GivenView
up_to_four v = if nat_le (length v.positionals) 4 then Some v else None

-- clap finds the values of the rules in each list of texts, and refuses more than four positionals
abbrev pub ClapFindsTheValues : Type 0
ClapFindsTheValues = (words : List (List ℕ)) → list_all is_utf8 words ≡ true
    → clap_values words ≡ option_and_then up_to_four (values words)
