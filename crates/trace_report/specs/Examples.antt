-- Worked examples: a trace and a report in full.
use Rattle.std.specs.Prelude.{ℕ, List, [], ◌∷◌, ◌++◌, codes}
use Rattle.sim_base.specs.declared.figures.Figures.{Figures}
use Rattle.net_model.specs.declared.limits.TheConstants.{USUAL_LIMIT}
use Rattle.net_model.specs.declared.station.Kind.TheVariants.{Source, Sink}
use Rattle.net_model.specs.Net.{Net, link}

-- the trace text of two jobs at a desk that serves one at a time, in the base clone
abbrev pub one_desk_text : List ℕ
one_desk_text =
    codes "clone base\n"
    ++ codes "3 gate gate 0 tick sent=1\n"
    ++ codes "5 desk gate 1 job gate.0 busy=1 wait=0 done=0 lost=0\n"
    ++ codes "6 gate gate 2 tick sent=2\n"
    ++ codes "8 desk gate 3 job gate.1 busy=1 wait=1 done=0 lost=0\n"
    ++ codes "9 desk desk 0 done gate.0 busy=1 wait=0 done=1 lost=0\n"
    ++ codes "11 out desk 1 job gate.0 got=1 stay=8\n"
    ++ codes "13 desk desk 2 done gate.1 busy=0 wait=0 done=2 lost=0\n"
    ++ codes "15 out desk 3 job gate.1 got=2 stay=17\n"

-- the figures of a station that handled this number of messages in one clone
abbrev pub figures_of_one : ℕ → Figures
figures_of_one n = record { copies = 1; handled = n; alone = n }

-- the figures of one clone
abbrev pub figures_alone : List Figures
figures_alone = figures_of_one 2 ∷ figures_of_one 4 ∷ figures_of_one 2 ∷ []

-- the report with these figures
abbrev pub alone_text : List ℕ
alone_text =
    codes "report\n"
    ++ codes "gate copies=1 handled=2 alone=2\n"
    ++ codes "desk copies=1 handled=4 alone=4\n"
    ++ codes "out copies=1 handled=2 alone=2\n"
    ++ codes "total handled=8 alone=8\n"

-- the figures of two clones, one of which was served faster from a time on
abbrev pub figures_of_two : List Figures
figures_of_two =
    record { copies = 1; handled = 2; alone = 4 }
    ∷ record { copies = 2; handled = 8; alone = 9 }
    ∷ record { copies = 2; handled = 3; alone = 4 } ∷ []

-- the report with these figures
abbrev pub text_of_two : List ℕ
text_of_two =
    codes "report\n"
    ++ codes "gate copies=1 handled=2 alone=4\n"
    ++ codes "desk copies=2 handled=8 alone=9\n"
    ++ codes "out copies=2 handled=3 alone=4\n"
    ++ codes "total handled=13 alone=17\n"

-- a source of jobs of class 2, and a sink
abbrev pub second_class : Net
second_class = record {
  format = 2;
  lookahead = 2;
  horizon = 20;
  seed = 0;
  limit = USUAL_LIMIT;
  sites =
      record { name = codes "low"; kind = Source 3 3 2 2; stream = 1; links = link 2 2 ∷ [] }
      ∷ record { name = codes "out"; kind = Sink; stream = 2; links = [] } ∷ [];
}
