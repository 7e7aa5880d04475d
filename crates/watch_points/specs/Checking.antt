-- Whether watches fit a model and the clones of a script: the table of refusals, and the first watch that it refuses.
use Rattle.std.specs.Prelude.{ℕ, suc, ◌+◌, ◌||◌, nat_le, Bool, not, List, [], ◌∷◌, length, Option, Some, None}
use Rattle.std.specs.Prelude.{Result, Ok, Err, option_map, is_none, is_some, if◌then◌else◌, true, false}
use Rattle.std.specs.List.{list_any}
use Rattle.std.specs.Str.{bytes_eq}
use Rattle.sim_base.specs.Clones.{Clone, clone_at, place_of}
use Rattle.sim_base.specs.declared.lists.TheConstants.{MAX_CLONES, MAX_DECISIONS}
use Rattle.net_model.specs.Net.{Net, site_of, station_named}
use Rattle.net_model.specs.declared.station.Kind.{Kind}
use Rattle.net_model.specs.declared.station.Kind.TheVariants.{Server}
use Rattle.decision_book.specs.Replies.{row, first_row, change_row}
use Rattle.decision_book.specs.declared.call.Reply.{Reply}
use Rattle.decision_book.specs.declared.call.Reply.TheVariants.{Accepted, UnknownClone, Ended, NameTaken}
use Rattle.decision_book.specs.declared.call.Reply.TheVariants.{TooManyClones, UnknownStation, WrongParameter, ListFull}
use Rattle.watch_points.specs.declared.fitting.WatchedClone.{WatchedClone}
use Rattle.watch_points.specs.declared.fitting.Unfit.{Unfit}
use Rattle.watch_points.specs.declared.watch.Watch.{Watch}

-- a clone of the script: its end, and the number of its decisions
abbrev pub script_clone : Clone → WatchedClone
script_clone c = record { end = c.end; decisions = length c.plans }

-- a branch of such a clone: no end, and one decision more
abbrev pub branch_clone : WatchedClone → WatchedClone
branch_clone c = record { end = None; decisions = suc c.decisions }

-- the clone of this name: the branch of an earlier watch, or a clone of the script; the last earlier watch comes first
abbrev pub watched_clone : List Clone → List Watch → List ℕ → Option WatchedClone
watched_clone cs [] name = option_map (λ c. script_clone (clone_at cs c)) (place_of name cs)
watched_clone cs (w ∷ earlier) name =
    if bytes_eq w.new name then option_map branch_clone (watched_clone cs earlier w.who)
    else watched_clone cs earlier name

-- a clone of the script has this name, or the branch of an earlier watch
abbrev pub is_taken : List Clone → List Watch → List ℕ → Bool
is_taken cs earlier name = is_some (place_of name cs) || list_any (λ w. bytes_eq w.new name) earlier

-- a server
abbrev pub is_server : Kind → Bool
is_server (Server servers room lo hi by_class) = true
is_server _ = false

-- the row of the watched station, if the model has it: it must be a server
abbrev pub server_row : Net → Option ℕ → Option Reply
server_row net None = None
server_row net (Some s) = row (not (is_server (site_of net s).kind)) WrongParameter

-- the rows of a watch of this clone
abbrev pub clone_rows : Net → List Clone → List Watch → Watch → WatchedClone → List (Option Reply)
clone_rows net cs earlier w c = option_map (λ at. Ended at) c.end
    ∷ row (is_taken cs earlier w.new) NameTaken
    ∷ row (nat_le MAX_CLONES (length cs + length earlier)) TooManyClones
    ∷ row (is_none (station_named w.station net) || is_none (station_named w.target net)) UnknownStation
    ∷ server_row net (station_named w.station net)
    ∷ change_row net (station_named w.target net) w.change
    ∷ row (nat_le MAX_DECISIONS c.decisions) ListFull
    ∷ []

-- the rows of a watch
abbrev pub watch_rows : Net → List Clone → List Watch → Watch → Option WatchedClone → List (Option Reply)
watch_rows net cs earlier w None = Some UnknownClone ∷ []
watch_rows net cs earlier w (Some c) = clone_rows net cs earlier w c

-- the reply to a watch after earlier ones: the first row of the table whose condition holds, or Accepted
abbrev pub watch_reply : Net → List Clone → List Watch → Watch → Reply
watch_reply net cs earlier w = first_row (watch_rows net cs earlier w (watched_clone cs earlier w.who))

-- a watch that is accepted leaves the result to the watches after it
abbrev pub if_accepted : Reply → ℕ → Result (Unit {0}) Unfit → Result (Unit {0}) Unfit
if_accepted Accepted line later = later
if_accepted reply line later = Err (record { line = line; reply = reply })

-- whether watches fit after earlier ones, of which the last comes first; or the first that does not
unfoldable pub fit_after : Net → List Clone → List Watch → List Watch → Result (Unit {0}) Unfit
fit_after net cs earlier [] = Ok tt
fit_after net cs earlier (w ∷ ws) =
    if_accepted (watch_reply net cs earlier w) w.line (fit_after net cs (w ∷ earlier) ws)

-- whether all watches fit a network and these clones; or the first that does not
abbrev pub fit : Net → List Clone → List Watch → Result (Unit {0}) Unfit
fit net cs ws = fit_after net cs [] ws
