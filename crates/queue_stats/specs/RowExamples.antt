-- Results of the worked examples, and a network without servers.
use Rattle.std.specs.Prelude.{ℕ, List, [], ◌∷◌, ◌++◌, codes}
use Rattle.net_model.specs.declared.station.Kind.TheVariants.{Source, Sink}
use Rattle.net_model.specs.declared.limits.TheConstants.{USUAL_LIMIT}
use Rattle.net_model.specs.Net.{Net, link}

-- the text of two branches of one desk, the second with faster service from 8 on
abbrev pub two_branches_text : List ℕ
two_branches_text =
    codes "stats\n"
    ++ codes "base desk arrived=2 lost=0 done=2 most=1 present=9 waited=1 longest=1\n"
    ++ codes "fast desk arrived=2 lost=0 done=2 most=1 present=7 waited=- longest=-\n"

-- the text of two clones of it that end, at 9 and at 0
abbrev pub ended_text : List ℕ
ended_text =
    codes "stats\n"
    ++ codes "brief desk arrived=2 lost=0 done=0 most=1 present=5 waited=0 longest=0\n"
    ++ codes "gone desk arrived=0 lost=0 done=0 most=0 present=0 waited=0 longest=0\n"

-- the text of three jobs at a server without a waiting room
abbrev pub full_room_text : List ℕ
full_room_text =
    codes "stats\n"
    ++ codes "base desk arrived=3 lost=2 done=1 most=0 present=4 waited=- longest=-\n"

-- the text of service by class
abbrev pub by_class_text : List ℕ
by_class_text =
    codes "stats\n"
    ++ codes "base desk arrived=3 lost=0 done=3 most=2 present=17 waited=- longest=-\n"

-- the text of the same jobs, served by arrival
abbrev pub by_arrival_text : List ℕ
by_arrival_text =
    codes "stats\n"
    ++ codes "base desk arrived=3 lost=0 done=3 most=2 present=17 waited=5 longest=4\n"

-- the text of jobs that return to a server
abbrev pub feedback_text : List ℕ
feedback_text =
    codes "stats\n"
    ++ codes "base desk arrived=6 lost=0 done=5 most=1 present=28 waited=7 longest=4\n"

-- a source whose jobs go straight to a sink
abbrev pub no_server : Net
no_server = record {
  format = 1;
  lookahead = 2;
  horizon = 20;
  seed = 0;
  limit = USUAL_LIMIT;
  sites =
      record { name = codes "gate"; kind = Source 3 3 2 1; stream = 1; links = link 2 2 ∷ [] }
      ∷ record { name = codes "out"; kind = Sink; stream = 2; links = [] } ∷ [];
}
