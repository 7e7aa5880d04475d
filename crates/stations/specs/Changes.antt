-- The changes that a station accepts.
use Rattle.std.specs.Prelude.{ℕ, ◌&&◌, nat_le, Bool, true, false, not, if◌then◌else◌, Result, Ok, Err, is_ok, length}
use Rattle.sim_base.specs.declared.message.Change.{Change}
use Rattle.sim_base.specs.declared.message.Param.{Param}
use Rattle.sim_base.specs.declared.message.Param.TheVariants.{Every, Service, Hold, Servers, Room, Weight}
use Rattle.net_model.specs.declared.station.Kind.{Kind}
use Rattle.net_model.specs.declared.station.Kind.TheVariants.{Source, Server, Delay, Router}
use Rattle.net_model.specs.declared.limits.TheConstants.{MAX_ROOM, MAX_SERVERS, MAX_WEIGHT}
use Rattle.net_model.specs.Net.{Site}
use Rattle.net_model.specs.Rules.{is_range, is_within}
use Rattle.stations.specs.declared.change.ChangeFault.{ChangeFault}
use Rattle.stations.specs.declared.change.ChangeFault.TheVariants.{WrongParameter, OutOfRange}

-- whether a kind has the parameter; a router's weights can only change if it picks links by weights
abbrev pub has_parameter : Kind → Param → Bool
has_parameter (Source lo hi jobs class) Every = true
has_parameter (Server servers room lo hi by_class) Service = true
has_parameter (Server servers room lo hi by_class) Servers = true
has_parameter (Server servers room lo hi by_class) Room = true
has_parameter (Delay lo hi) Hold = true
has_parameter (Router turn) Weight = not turn
has_parameter _ _ = false

-- whether the values are in the parameter's range, at a station with `links` links
abbrev pub is_in_range : ℕ → Param → ℕ → ℕ → Bool
is_in_range links Every a b = is_range 1 a b
is_in_range links Service a b = is_range 1 a b
is_in_range links Hold a b = is_range 0 a b
is_in_range links Servers a b = is_within 1 MAX_SERVERS a
is_in_range links Room a b = nat_le a MAX_ROOM
is_in_range links Weight a b = is_within 1 links a && is_within 1 MAX_WEIGHT b

-- whether a station accepts a change, or the reason for refusing it
abbrev pub accepts : Site → Change → Result (Unit {0}) ChangeFault
accepts site c =
    if not (has_parameter site.kind c.param) then Err WrongParameter
    else if not (is_in_range (length site.links) c.param c.a c.b) then Err OutOfRange
    else Ok tt

-- whether a station accepts a change
abbrev pub is_accepted : Site → Change → Bool
is_accepted site c = is_ok (accepts site c)
