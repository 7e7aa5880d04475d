-- The top of a model file.
use Rattle.std.specs.Prelude.{◌==◌, nat_lt, if◌then◌else◌, List, length, Some, None, Result, Ok, Err}
use Rattle.toml.specs.Data.{Data}
use Rattle.net_model.specs.declared.fault.ModelFault.{ModelFault}
use Rattle.net_model.specs.declared.fault.ModelFault.TheVariants.{OutOfRange, TooMany}
use Rattle.net_model.specs.declared.field.Field.TheVariants.{Format, Lookahead, Horizon, Seed, Limit, Station}
use Rattle.net_model.specs.declared.top.Top.{Top}
use Rattle.sim_base.specs.Chain.{◌>>=◌}
use Rattle.net_model.specs.Reading.{integer_at, value_at, tables_of}
use Rattle.net_model.specs.declared.limits.TheConstants.{MAX_TIME, MAX_HORIZON, MAX_SEED}
use Rattle.net_model.specs.declared.limits.TheConstants.{MAX_LIMIT, USUAL_LIMIT, MAX_STATIONS}

-- the numbers of the whole model, in the order in which they are tested
abbrev pub top_of : Data → Result Top ModelFault
top_of root =
    integer_at 0 Format 1 2 (Some 1) root >>= (λ format.
    integer_at 0 Lookahead 1 MAX_TIME None root >>= (λ lookahead.
    integer_at 0 Horizon 1 MAX_HORIZON None root >>= (λ horizon.
    integer_at 0 Seed 0 MAX_SEED (Some 0) root >>= (λ seed.
    integer_at 0 Limit 1 MAX_LIMIT (Some USUAL_LIMIT) root >>= (λ limit.
    Ok (record { format = format; lookahead = lookahead; horizon = horizon; seed = seed; limit = limit }))))))

-- 1 to MAX_STATIONS stations
abbrev pub in_number : List Data → Result (List Data) ModelFault
in_number ds = if length ds == 0 then Err (OutOfRange 0 Station) else
    (if nat_lt MAX_STATIONS (length ds) then Err (TooMany 0) else Ok ds)

-- the tables of the stations
abbrev pub stations_at : Data → Result (List Data) ModelFault
stations_at root = value_at 0 Station root >>= tables_of 0 Station >>= in_number
