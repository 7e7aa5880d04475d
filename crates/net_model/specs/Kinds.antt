-- The kind of a station, from its keys.
use Rattle.std.specs.Prelude.{◌==◌, ℕ, Bool, true, false, codes, if◌then◌else◌}
use Rattle.std.specs.Prelude.{List, Option, Some, None, Result, Ok, Err}
use Rattle.std.specs.Str.{bytes_eq}
use Rattle.toml.specs.Data.{Data, get}
use Rattle.net_model.specs.declared.fault.ModelFault.{ModelFault}
use Rattle.net_model.specs.declared.fault.ModelFault.TheVariants.{OutOfRange}
use Rattle.net_model.specs.declared.field.Field.{Field}
use Rattle.net_model.specs.declared.field.Field.TheVariants.{Kind as KindField, Every, Jobs, Class, Servers}
use Rattle.net_model.specs.declared.field.Field.TheVariants.{Room, Service, Order, Hold, By}
use Rattle.net_model.specs.declared.keys.KindWord.{KindWord}
use Rattle.net_model.specs.declared.keys.KindWord.TheVariants.{Source as SourceWord, Server as ServerWord}
use Rattle.net_model.specs.declared.keys.KindWord.TheVariants.{Delay as DelayWord, Router as RouterWord}
use Rattle.net_model.specs.declared.keys.KindWord.TheVariants.{Sink as SinkWord}
use Rattle.net_model.specs.declared.station.Kind.{Kind}
use Rattle.net_model.specs.declared.station.Kind.TheVariants.{Source, Server, Delay, Router, Sink}
use Rattle.sim_base.specs.Chain.{◌>>=◌}
use Rattle.net_model.specs.Fields.{key_of}
use Rattle.net_model.specs.Reading.{integer_at, span_at, text_at, text_of}
use Rattle.net_model.specs.declared.limits.TheConstants.{MAX_CLASS, MAX_JOBS, MAX_SERVERS, MAX_ROOM}

-- a keyword that a key allows
abbrev pub known_word : {A : Type 0} → ℕ → Field → Option A → Result A ModelFault
known_word station field (Some word) = Ok word
known_word station field None = Err (OutOfRange station field)

-- the kind of a keyword, None if it names none
abbrev pub kind_word : List ℕ → Option KindWord
kind_word text =
    if bytes_eq text (codes "source") then Some SourceWord
    else (if bytes_eq text (codes "server") then Some ServerWord
    else (if bytes_eq text (codes "delay") then Some DelayWord
    else (if bytes_eq text (codes "router") then Some RouterWord
    else (if bytes_eq text (codes "sink") then Some SinkWord else None))))

-- the keyword of a station's kind
abbrev pub kind_word_at : ℕ → Data → Result KindWord ModelFault
kind_word_at station d = text_at station KindField d >>= (λ text. known_word station KindField (kind_word text))

-- 1 in format 1, which has no classes
abbrev pub class_at : ℕ → ℕ → Data → Result ℕ ModelFault
class_at format station d = if format == 1 then Ok 1 else integer_at station Class 1 MAX_CLASS (Some 1) d

-- whether the order is by class
abbrev pub order_word : List ℕ → Option Bool
order_word text = if bytes_eq text (codes "arrival") then Some false else
    (if bytes_eq text (codes "class") then Some true else None)

-- the order of a value if there is one, otherwise by arrival
abbrev pub found_order : ℕ → Option Data → Result Bool ModelFault
found_order station None = Ok false
found_order station (Some d) = text_of station Order d >>= (λ text. known_word station Order (order_word text))

-- the order of a server; by arrival in format 1
abbrev pub order_at : ℕ → ℕ → Data → Result Bool ModelFault
order_at format station d = if format == 1 then Ok false else found_order station (get (key_of Order) d)

-- whether a router takes its links in turn
abbrev pub by_word : List ℕ → Option Bool
by_word text = if bytes_eq text (codes "weights") then Some false else
    (if bytes_eq text (codes "turn") then Some true else None)

-- a source: the range of its intervals, the number of its jobs, and their class
abbrev pub source_of : ℕ → ℕ → Data → Result Kind ModelFault
source_of format station d =
    span_at station Every 1 d >>= (λ every.
    integer_at station Jobs 0 MAX_JOBS None d >>= (λ jobs.
    class_at format station d >>= (λ class.
    Ok (Source every.lo every.hi jobs class))))

-- a server: its servers, its room, the range of its services, and its order
abbrev pub server_of : ℕ → ℕ → Data → Result Kind ModelFault
server_of format station d =
    integer_at station Servers 1 MAX_SERVERS None d >>= (λ servers.
    integer_at station Room 0 MAX_ROOM None d >>= (λ room.
    span_at station Service 1 d >>= (λ service.
    order_at format station d >>= (λ by_class.
    Ok (Server servers room service.lo service.hi by_class)))))

-- a delay: the range of its times
abbrev pub delay_of : ℕ → Data → Result Kind ModelFault
delay_of station d = span_at station Hold 0 d >>= (λ hold. Ok (Delay hold.lo hold.hi))

-- a router: whether it takes its links in turn
abbrev pub router_of : ℕ → Data → Result Kind ModelFault
router_of station d =
    text_at station By d >>= (λ text.
    known_word station By (by_word text) >>= (λ turn.
    Ok (Router turn)))

-- a station of the kind with this keyword, with that kind's keys
abbrev pub kind_of : ℕ → ℕ → KindWord → Data → Result Kind ModelFault
kind_of format station SourceWord d = source_of format station d
kind_of format station ServerWord d = server_of format station d
kind_of format station DelayWord d = delay_of station d
kind_of format station RouterWord d = router_of station d
kind_of format station SinkWord d = Ok Sink
