-- The changes that each kind accepts, and messages that a kind ignores.
use Rattle.std.specs.Prelude.{◌≡◌, ℕ, List, [], ◌∷◌, map, Result, Ok, Err}
use Rattle.sim_base.specs.declared.message.Msg.{Msg}
use Rattle.sim_base.specs.declared.message.Change.{Change}
use Rattle.sim_base.specs.declared.message.Param.{Param}
use Rattle.sim_base.specs.declared.message.Param.TheVariants.{Every, Service, Hold, Servers, Room, Weight}
use Rattle.sim_base.specs.declared.message.Payload.{Payload}
use Rattle.net_model.specs.Net.{Net, site_of}
use Rattle.stations.specs.declared.change.ChangeFault.{ChangeFault}
use Rattle.stations.specs.declared.change.ChangeFault.TheVariants.{WrongParameter, OutOfRange}
use Rattle.stations.specs.Changes.{accepts}
use Rattle.stations.specs.Handling.{handle, line_of}
use Rattle.stations.specs.Opening.{setup}

-- a change of a parameter to these values
abbrev pub to : Param → ℕ → ℕ → Change
to param a b = record { param = param; a = a; b = b }

-- the responses of a station to changes
abbrev pub answers : Net → ℕ → List Change → List (Result (Unit {0}) ChangeFault)
answers net s changes = map (accepts (site_of net s)) changes

-- changes at a server: its own parameters, in range and out of range, and one of another kind
abbrev pub server_changes : List Change
server_changes = to Service 1 1000000 ∷ to Service 0 4 ∷ to Service 5 4 ∷ to Servers 16 0 ∷ to Servers 17 0 ∷ to Room
    0 0 ∷ to Room 4097 0 ∷ to Every 1 1 ∷ []

-- and its responses
abbrev pub server_answers : List (Result (Unit {0}) ChangeFault)
server_answers = Ok tt ∷ Err OutOfRange ∷ Err OutOfRange ∷ Ok tt ∷ Err OutOfRange ∷ Ok tt ∷ Err OutOfRange ∷ Err
    WrongParameter ∷ []

-- changes at a delay: its time, in range and out of range, and a parameter of another kind
abbrev pub delay_changes : List Change
delay_changes = to Hold 0 0 ∷ to Hold 0 1000001 ∷ to Weight 1 1 ∷ []

-- and its responses
abbrev pub delay_answers : List (Result (Unit {0}) ChangeFault)
delay_answers = Ok tt ∷ Err OutOfRange ∷ Err WrongParameter ∷ []

-- at a router of two links
abbrev pub weight_changes : List Change
weight_changes = to Weight 2 1000 ∷ to Weight 3 1 ∷ to Weight 0 1 ∷ to Weight 1 1001 ∷ []

-- the responses if the router picks links by weights
abbrev pub weight_answers : List (Result (Unit {0}) ChangeFault)
weight_answers = Ok tt ∷ Err OutOfRange ∷ Err OutOfRange ∷ Err OutOfRange ∷ []

-- and if it takes links in turn, so that it has no weights to change
abbrev pub turn_answers : List (Result (Unit {0}) ChangeFault)
turn_answers = Err WrongParameter ∷ Err WrongParameter ∷ Err WrongParameter ∷ Err WrongParameter ∷ []

-- a message to station s at time 5, from the analyst
abbrev pub message : ℕ → Payload → Msg
message s payload = record { key = record { time = 5; sender = 0; number = 0 }; to = s; payload = payload }

-- a station that has just opened handles a message, and only its count of messages changes
abbrev pub IsIgnored : Net → ℕ → Payload → Type 0
IsIgnored net s payload =
    let st = (setup net s).state in
    handle net st (message s payload) ≡ record { state = record st { handled = 1 }; sends = []; line = line_of st.kind }
