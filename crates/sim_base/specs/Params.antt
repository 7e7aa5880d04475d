-- The parameters of stations: their keywords in scripts and traces, the number of values of each, and the words of a
-- change.
use Rattle.std.specs.Prelude.{ℕ, ◌==◌, if◌then◌else◌, List, [], ◌∷◌, codes, decimal, Option}
use Rattle.std.specs.List.{find}
use Rattle.std.specs.Str.{bytes_eq}
use Rattle.sim_base.specs.declared.message.Param.{Param}
use Rattle.sim_base.specs.declared.message.Param.TheVariants.{Every, Service, Hold, Servers, Room, Weight}

-- its word
abbrev pub param_word : Param → List ℕ
param_word Every = codes "every"
param_word Service = codes "service"
param_word Hold = codes "hold"
param_word Servers = codes "servers"
param_word Room = codes "room"
param_word Weight = codes "weight"

-- the number of values it takes: a range has two, and a weight also names its link
abbrev pub param_values : Param → ℕ
param_values Every = 2
param_values Service = 2
param_values Hold = 2
param_values Servers = 1
param_values Room = 1
param_values Weight = 2

-- the values of a change as words: one value or two
abbrev pub value_words : ℕ → ℕ → ℕ → List (List ℕ)
value_words count a b = if count == 1 then decimal a ∷ [] else (decimal a ∷ decimal b ∷ [])

-- the words of a change, in scripts and in traces: its parameter's and its values
abbrev pub words_of_change : Param → ℕ → ℕ → List (List ℕ)
words_of_change param a b = param_word param ∷ value_words (param_values param) a b

-- all of them
abbrev pub all_params : List Param
all_params = Every ∷ Service ∷ Hold ∷ Servers ∷ Room ∷ Weight ∷ []

-- the parameter with this keyword
abbrev pub param_of_word : List ℕ → Option Param
param_of_word word = find (λ p. bytes_eq (param_word p) word) all_params
