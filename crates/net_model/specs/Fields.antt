-- The keys of a model file as they are written; the key of a parameter is its keyword.
use Rattle.std.specs.Prelude.{ℕ, List, codes}
use Rattle.sim_base.specs.Params.{param_word}
use Rattle.sim_base.specs.declared.message.Param.TheVariants as param
use Rattle.net_model.specs.declared.field.Field.{Field}
use Rattle.net_model.specs.declared.field.Field.TheVariants.{Format, Lookahead, Horizon, Seed, Limit, Station, Name}
use Rattle.net_model.specs.declared.field.Field.TheVariants.{Kind, Stream, Every, Jobs, Class, Servers, Room, Service}
use Rattle.net_model.specs.declared.field.Field.TheVariants.{Order, Hold, By, Link, To, Delay, Weight}

-- each key as it is written
abbrev pub key_of : Field → List ℕ
key_of Format = codes "format"
key_of Lookahead = codes "lookahead"
key_of Horizon = codes "horizon"
key_of Seed = codes "seed"
key_of Limit = codes "limit"
key_of Station = codes "station"
key_of Name = codes "name"
key_of Kind = codes "kind"
key_of Stream = codes "stream"
key_of Every = param_word param.Every
key_of Jobs = codes "jobs"
key_of Class = codes "class"
key_of Servers = param_word param.Servers
key_of Room = param_word param.Room
key_of Service = param_word param.Service
key_of Order = codes "order"
key_of Hold = param_word param.Hold
key_of By = codes "by"
key_of Link = codes "link"
key_of To = codes "to"
key_of Delay = codes "delay"
key_of Weight = param_word param.Weight
