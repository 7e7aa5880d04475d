-- Worked examples: looks at the desk of the worked journal.
use Rattle.std.specs.Prelude.{ℕ, codes, Some}
use Rattle.journal_text.specs.declared.looked.Looked.{Looked}

-- look main base desk front=10 clones=CLONES handled=3 shared=SHARED
abbrev pub look_at_10 : ℕ → ℕ → Looked
look_at_10 clones shared = record {
  analyst = 1;
  who = codes "base";
  station = codes "desk";
  glance = Some (record { front = 10; clones = clones; found = Some (record { handled = 3; shared = shared }) });
}

-- the base clone is there alone
abbrev pub of_base_alone : Looked
of_base_alone = look_at_10 1 1

-- and another, which has its log
abbrev pub of_base_and_fork : Looked
of_base_and_fork = look_at_10 2 2
