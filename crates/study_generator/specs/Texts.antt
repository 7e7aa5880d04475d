-- The text of a made model: a door, a triage, wards, a walk and an exit.
use Rattle.std.specs.Prelude.{ℕ, List, ◌++◌, codes, decimal}
use Rattle.std.specs.List.{flat_map, join_by, range_with_len}
use Rattle.study_generator.specs.Numbers.{longest_gap, longest_service, ward_name, ward_servers, wards}

-- the top of the file
abbrev pub top_text : ℕ → List ℕ
top_text n =
    codes "lookahead = 2\n"
    ++ codes "horizon = 5000\n"
    ++ codes "seed = " ++ decimal n ++ codes "\n"

-- patients enter
abbrev pub door_text : ℕ → List ℕ
door_text n =
    codes "[[station]]\n"
    ++ codes "name = \"door\"\n"
    ++ codes "kind = \"source\"\n"
    ++ codes "every = [1, " ++ decimal (longest_gap n) ++ codes "]\n"
    ++ codes "jobs = 5000\n"
    ++ codes "link = [{ to = \"triage\", delay = 2 }]\n"

-- the link to ward i, with weight i
abbrev pub way_text : ℕ → List ℕ
way_text i = codes "{ to = \"" ++ ward_name i ++ codes "\", delay = 2, weight = " ++ decimal i ++ codes " }"

-- patients are sent to one of `count` wards
abbrev pub triage_text : ℕ → List ℕ
triage_text count =
    codes "[[station]]\n"
    ++ codes "name = \"triage\"\n"
    ++ codes "kind = \"router\"\n"
    ++ codes "by = \"weights\"\n"
    ++ codes "link = [" ++ join_by way_text (codes ", ") (range_with_len 1 count) ++ codes "]\n"

-- ward i
abbrev pub ward_text : ℕ → List ℕ
ward_text i =
    codes "[[station]]\n"
    ++ codes "name = \"" ++ ward_name i ++ codes "\"\n"
    ++ codes "kind = \"server\"\n"
    ++ codes "servers = " ++ decimal (ward_servers i) ++ codes "\n"
    ++ codes "room = 20\n"
    ++ codes "service = [3, " ++ decimal (longest_service i) ++ codes "]\n"
    ++ codes "link = [{ to = \"walk\", delay = 3 }]\n"

-- patients leave
abbrev pub ways_out_text : List ℕ
ways_out_text =
    codes "[[station]]\n"
    ++ codes "name = \"walk\"\n"
    ++ codes "kind = \"delay\"\n"
    ++ codes "hold = [0, 4]\n"
    ++ codes "link = [{ to = \"exit\", delay = 2 }]\n"
    ++ codes "[[station]]\n"
    ++ codes "name = \"exit\"\n"
    ++ codes "kind = \"sink\"\n"

-- the text of the model with this number
abbrev pub model_text : ℕ → List ℕ
model_text n =
    top_text n
    ++ door_text n
    ++ triage_text (wards n)
    ++ flat_map ward_text (range_with_len 1 (wards n))
    ++ ways_out_text
