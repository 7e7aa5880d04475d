-- The `clap` command that reads the words: three options and up to four positionals, without help and abbreviated
-- names. Each option or positional is one rule.
use Rattle.std.specs.Prelude.{ℕ, true, codes, List, Some}
use Rattle.clap.specs.Words.{App, Rule, new_app, new_rule, with_rule}
use Rattle.clap.specs.Simple.{on_top}
use Rattle.clap.specs.declared.builder.ArgAction.TheVariants.{Set}

-- `--NAME V` or `--NAME=V`
abbrev pub option : List ℕ → Rule
option name = record (new_rule name) { long = Some name; action = Some Set }

-- a value without a name, identified by its place
abbrev pub positional : List ℕ → Rule
positional name = new_rule name

-- the command without options and positionals: its name is not among the words, and there is no help
abbrev pub bare_app : App
bare_app = on_top (λ s. record s { no_binary_name = true; disable_help_flag = true }) (new_app (codes "cloner"))

-- the command with its options
abbrev pub app_of_options : App
app_of_options =
    with_rule (with_rule (with_rule bare_app (option (codes "workers"))) (option (codes "clone")))
    (option (codes "until"))

-- the command with its options and its positionals
abbrev pub cloner_app : App
cloner_app =
    with_rule (with_rule (with_rule (with_rule app_of_options (positional (codes "mode"))) (positional (codes "first")))
    (positional (codes "second"))) (positional (codes "third"))
