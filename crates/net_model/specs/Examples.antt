-- A small model and its text: a source `gate`, a server `desk` and a sink `out`, in a row.
use Rattle.std.specs.Prelude.{ℕ, zero, suc, List, [], ◌∷◌, ◌++◌, codes, decimal, false}
use Rattle.net_model.specs.declared.station.Kind.TheVariants.{Source, Server, Sink}
use Rattle.net_model.specs.declared.limits.TheConstants.{USUAL_LIMIT}
use Rattle.net_model.specs.Net.{Net, link}

-- the top, with this lookahead and horizon as they are written
abbrev pub top_with : List ℕ → List ℕ → List ℕ
top_with lookahead horizon = codes "lookahead = " ++ lookahead ++ codes "\nhorizon = " ++ horizon ++ codes "\n"

-- the usual top: a lookahead of 2, and a horizon of 20
abbrev pub top_text : List ℕ
top_text = top_with (codes "2") (codes "20")

-- the gate, with this last line
abbrev pub gate_with : List ℕ → List ℕ
gate_with last = codes "[[station]]\nname = \"gate\"\nkind = \"source\"\nevery = [3, 3]\njobs = 2\n" ++ last

-- the gate with its link to the desk
abbrev pub gate_text : List ℕ
gate_text = gate_with (codes "link = [{ to = \"desk\", delay = 2 }]\n")

-- the desk, with this name, these times and this receiver as they are written
abbrev pub desk_with : List ℕ → List ℕ → List ℕ → List ℕ
desk_with name service to =
    codes "[[station]]\nname = \"" ++ name
    ++ codes "\"\nkind = \"server\"\nservers = 1\nroom = 5\nservice = " ++ service
    ++ codes "\nlink = [{ to = \"" ++ to
    ++ codes "\", delay = 2 }]\n"

-- the desk with its own name, its service of 4, and the sink as its receiver
abbrev pub desk_text : List ℕ
desk_text = desk_with (codes "desk") (codes "[4, 4]") (codes "out")

-- the sink
abbrev pub out_text : List ℕ
out_text = codes "[[station]]\nname = \"out\"\nkind = \"sink\"\n"

-- the text with another top
abbrev pub with_top : List ℕ → List ℕ
with_top top = top ++ gate_text ++ desk_text ++ out_text

-- with another desk
abbrev pub with_desk : List ℕ → List ℕ → List ℕ → List ℕ
with_desk name service to = top_text ++ gate_text ++ desk_with name service to ++ out_text

-- with another name of the desk
abbrev pub named_desk : List ℕ → List ℕ
named_desk name = with_desk name (codes "[4, 4]") (codes "out")

-- with other times of the desk
abbrev pub timed_desk : List ℕ → List ℕ
timed_desk service = with_desk (codes "desk") service (codes "out")

-- with another receiver of the desk
abbrev pub linked_desk : List ℕ → List ℕ
linked_desk to = with_desk (codes "desk") (codes "[4, 4]") to

-- with no link of the gate
abbrev pub without_link : List ℕ
without_link = top_text ++ gate_with [] ++ desk_text ++ out_text

-- with a link of the sink
abbrev pub linked_out : List ℕ
linked_out = top_text ++ gate_text ++ desk_text ++ out_text ++ codes "link = [{ to = \"desk\", delay = 2 }]\n"

-- a text that ends within the times of the gate
abbrev pub cut_text : List ℕ
cut_text = top_text ++ codes "[[station]]\nname = \"gate\"\nkind = \"source\"\nevery = [3"

-- `n` sinks, `x1` and so on, the last first
abbrev pub sinks : ℕ → List ℕ
sinks zero = []
sinks (suc n) = codes "[[station]]\nname = \"x" ++ decimal (suc n) ++ codes "\"\nkind = \"sink\"\n" ++ sinks n

-- the text of the small model
abbrev pub small_text : List ℕ
small_text = top_text ++ gate_text ++ desk_text ++ out_text

-- a job every 3, two in all; one server, which serves for 4; room for 5
abbrev pub small : Net
small = record {
  format = 1;
  lookahead = 2;
  horizon = 20;
  seed = 0;
  limit = USUAL_LIMIT;
  sites =
      record {
        name = codes "gate";
        kind = Source 3 3 2 1;
        stream = 1;
        links = link 2 2 ∷ [];
      }
      ∷ record {
        name = codes "desk";
        kind = Server 1 5 4 4 false;
        stream = 2;
        links = link 3 2 ∷ [];
      }
      ∷ record { name = codes "out"; kind = Sink; stream = 3; links = [] } ∷ [];
}
