-- Worked lines of stations.
use Rattle.std.specs.Prelude.{ℕ, List, [], ◌∷◌, codes}
use Rattle.stations.specs.declared.saved.Saved.{Saved}
use Rattle.stations.specs.declared.saved.Shape.TheVariants as shape

-- a desk at which one job is served and none waits
abbrev pub desk : Saved
desk = record { next = 3; drawn = 2; handled = 3; shape = shape.Server 1 5 4 4 1 1 0 [] }

abbrev pub desk_line : List ℕ
desk_line = codes "station 2 next 3 drawn 2 handled 3 server 1 5 4 4 1 1 0 line 0"

-- a desk at which a job waits
abbrev pub waiting : Saved
waiting = record {
  next = 2;
  drawn = 1;
  handled = 2;
  shape = shape.Server 1 5 4 4 1 0 0 (record { source = 1; count = 1; born = 6 } ∷ []);
}

abbrev pub waiting_line : List ℕ
waiting_line = codes "station 2 next 2 drawn 1 handled 2 server 1 5 4 4 1 0 0 line 1 1.1.6"

-- a router with two links
abbrev pub split : Saved
split = record { next = 7; drawn = 0; handled = 9; shape = shape.Router 7 (record { items = 3 ∷ 1 ∷ [] }) }

abbrev pub split_line : List ℕ
split_line = codes "station 4 next 7 drawn 0 handled 9 router 7 3 1"

-- lines that are not of the form
abbrev pub desk_with_zero : List ℕ
desk_with_zero = codes "station 2 next 03 drawn 2 handled 3 server 1 5 4 4 1 1 0 line 0"

abbrev pub desk_with_spaces : List ℕ
desk_with_spaces = codes "station 2  next 3 drawn 2 handled 3 server 1 5 4 4 1 1 0 line 0"

abbrev pub desk_without_job : List ℕ
desk_without_job = codes "station 2 next 2 drawn 1 handled 2 server 1 5 4 4 1 0 0 line 2 1.1.6"
