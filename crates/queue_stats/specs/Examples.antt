-- Networks of the worked examples that `stations` does not have, and texts.
use Rattle.std.specs.Prelude.{ℕ, List, [], ◌∷◌, ◌++◌, codes, Bool, true, false, Some, None}
use Rattle.sim_base.specs.Clones.{Clone}
use Rattle.net_model.specs.declared.station.Kind.TheVariants.{Source, Server, Router, Sink}
use Rattle.net_model.specs.declared.limits.TheConstants.{USUAL_LIMIT}
use Rattle.net_model.specs.Net.{Net, link}
use Rattle.stations.specs.Examples.OneDesk.{desk}
use Rattle.queue_stats.specs.declared.text.StatRow.{StatRow}

-- a clone that ends before it has handled anything
abbrev pub gone : Clone
gone = record { name = codes "gone"; plans = []; end = Some 0 }

-- the number of the server that two sources share
abbrev pub shared_desk : ℕ
shared_desk = 3

-- two jobs of class 2, one every 3, and a job of class 1 at 7. One server serves for 4, by class or by arrival
abbrev pub low_and_high : Bool → Net
low_and_high by_class = record {
  format = 2;
  lookahead = 2;
  horizon = 20;
  seed = 0;
  limit = USUAL_LIMIT;
  sites =
      record { name = codes "low"; kind = Source 3 3 2 2; stream = 1; links = link shared_desk 2 ∷ [] }
      ∷ record { name = codes "high"; kind = Source 7 7 1 1; stream = 2; links = link shared_desk 2 ∷ [] }
      ∷ record { name = codes "desk"; kind = Server 1 5 4 4 by_class; stream = 3; links = link 4 2 ∷ [] }
      ∷ record { name = codes "out"; kind = Sink; stream = 4; links = [] } ∷ [];
}

-- the number of the server to which jobs return
abbrev pub first_desk : ℕ
first_desk = 2

-- three jobs, one every 3. One server serves for 4. Then a router sends jobs by turn back to the server or to the sink
abbrev pub feedback : Net
feedback = record {
  format = 1;
  lookahead = 2;
  horizon = 30;
  seed = 0;
  limit = USUAL_LIMIT;
  sites =
      record { name = codes "gate"; kind = Source 3 3 3 1; stream = 1; links = link first_desk 2 ∷ [] }
      ∷ record { name = codes "desk"; kind = Server 1 2 4 4 false; stream = 2; links = link 3 2 ∷ [] }
      ∷ record { name = codes "again"; kind = Router true; stream = 3; links = link first_desk 2 ∷ link 4 2 ∷ [] }
      ∷ record { name = codes "out"; kind = Sink; stream = 4; links = [] } ∷ [];
}

-- the rows of one desk in two clones, the second with faster service
abbrev pub two_rows : List StatRow
two_rows =
    record {
      who = codes "base";
      station = desk;
      stats = record {
        arrived = 2;
        lost = 0;
        done = 2;
        most = 1;
        present = 9;
        waits = Some (record { waited = 1; longest = 1 });
      };
    }
    ∷ record {
      who = codes "fast";
      station = desk;
      stats = record { arrived = 2; lost = 0; done = 2; most = 1; present = 7; waits = None };
    } ∷ []

-- their text
abbrev pub two_rows_text : List ℕ
two_rows_text =
    codes "stats\n"
    ++ codes "base desk arrived=2 lost=0 done=2 most=1 present=9 waited=1 longest=1\n"
    ++ codes "fast desk arrived=2 lost=0 done=2 most=1 present=7 waited=- longest=-\n"
