-- Worked examples: the text of a journal in full, and the script in it.
use Rattle.std.specs.Prelude.{ℕ, List, [], ◌∷◌, ◌++◌, codes, Some, None}
use Rattle.decision_book.specs.declared.call.Reply.TheVariants.{Accepted, Closed, Late}
use Rattle.decision_book.specs.Journal.{Event, NewFront}
use Rattle.decision_book.specs.Examples.{branch, faster, call}
use Rattle.journal_text.specs.declared.looked.Looked.{Looked}

-- four calls of one analyst, three at front 10 and one at the horizon
abbrev pub four_calls : List Event
four_calls =
    NewFront 5 ∷ NewFront 7 ∷ NewFront 10
    ∷ call 1 3 (branch (codes "fast")) Accepted
    ∷ call 1 3 (faster (codes "fast") 10) Accepted
    ∷ call 1 3 (faster (codes "fast") 9) (Late 10)
    ∷ NewFront 12 ∷ NewFront 15 ∷ NewFront 17 ∷ NewFront 20
    ∷ call 1 7 (branch (codes "x")) Closed ∷ []

-- the text of the journal of these calls, without looks
abbrev pub four_calls_text : List ℕ
four_calls_text =
    codes "journal 4 7\n"
    ++ codes "# front 5\n"
    ++ codes "# front 7\n"
    ++ codes "# front 10\n"
    ++ codes "analyst main\n"
    ++ codes "fork fast from base\n"
    ++ codes "analyst main\n"
    ++ codes "set fast at 10 desk service 2 2\n"
    ++ codes "analyst main\n"
    ++ codes "# refused 11 front 10: set fast at 9 desk service 2 2\n"
    ++ codes "# front 12\n"
    ++ codes "# front 15\n"
    ++ codes "# front 17\n"
    ++ codes "# front 20\n"
    ++ codes "analyst main\n"
    ++ codes "# refused 2: fork x from base\n"
    ++ codes "looks 0\n"

-- its text without comments, which is a script
abbrev pub four_calls_script : List ℕ
four_calls_script =
    codes "analyst main\n"
    ++ codes "fork fast from base\n"
    ++ codes "analyst main\n"
    ++ codes "set fast at 10 desk service 2 2\n"
    ++ codes "analyst main\n"
    ++ codes "analyst main\n"

-- three looks: the clone is there, it is not, the station is unknown
abbrev pub three_looks : List Looked
three_looks =
    record {
      analyst = 2;
      who = codes "base";
      station = codes "desk";
      glance = Some (record { front = 7; clones = 2; found = Some (record { handled = 3; shared = 2 }) });
    }
    ∷ record {
      analyst = 1;
      who = codes "fast";
      station = codes "desk";
      glance = Some (record { front = 0; clones = 1; found = None });
    }
    ∷ record { analyst = 2; who = codes "base"; station = codes "till"; glance = None } ∷ []

-- the text of these looks, if the analysts are main and ben
abbrev pub looks_of_two : List ℕ
looks_of_two =
    codes "looks 3\n"
    ++ codes "look ben base desk front=7 clones=2 handled=3 shared=2\n"
    ++ codes "look main fast desk front=0 clones=1 absent\n"
    ++ codes "look ben base till unknown\n"
