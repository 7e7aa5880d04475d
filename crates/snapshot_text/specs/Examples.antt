-- The texts of a worked snapshot: the desk of the first example, at 10.
use Rattle.std.specs.Prelude.{ℕ, List, ◌++◌, codes}

-- the lines of the stations, with this number of messages that the desk handled
abbrev pub stations_text : List ℕ → List ℕ
stations_text handled =
    codes "station 1 next 4 drawn 2 handled 2 source 3 3 2\n"
    ++ codes "station 2 next 3 drawn 2 handled " ++ handled ++ codes " server 1 5 4 4 1 1 0 line 0\n"
    ++ codes "station 3 next 0 drawn 0 handled 0 sink 0 0\n"

abbrev pub pending_text : List ℕ
pending_text = codes "pending 2\n" ++ codes "11 2 1 3 job 1.0.3\n" ++ codes "13 2 2 2 done 1.1.6\n"

abbrev pub trace_text : List ℕ
trace_text =
    codes "trace 5\n"
    ++ codes "3 gate gate 0 tick sent=1\n"
    ++ codes "5 desk gate 1 job gate.0 busy=1 wait=0 done=0 lost=0\n"
    ++ codes "6 gate gate 2 tick sent=2\n"
    ++ codes "8 desk gate 3 job gate.1 busy=1 wait=1 done=0 lost=0\n"
    ++ codes "9 desk desk 0 done gate.0 busy=1 wait=0 done=1 lost=0\n"

-- the text, with this first line, and this number of messages that the desk handled
abbrev pub saved_text : List ℕ → List ℕ → List ℕ
saved_text head handled = head ++ codes "\n" ++ stations_text handled ++ pending_text ++ trace_text

abbrev pub head_at_10 : List ℕ
head_at_10 = codes "snapshot base front 10 end -"
