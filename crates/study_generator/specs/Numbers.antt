-- The numbers of a made study.
use Rattle.std.specs.Prelude.{ℕ, ◌+◌, ◌*◌, ◌%◌, List, codes, decimal, ◌++◌}
use Rattle.study_generator.specs.declared.model.TheConstants.{MAX_WARDS}

-- the longest time between two arrivals
abbrev pub longest_gap : ℕ → ℕ
longest_gap n = 1 + n % 5

-- the number of wards
abbrev pub wards : ℕ → ℕ
wards n = 1 + n % MAX_WARDS

-- the number of patients that ward i serves at a time
abbrev pub ward_servers : ℕ → ℕ
ward_servers i = 1 + i % 3

-- and its longest service
abbrev pub longest_service : ℕ → ℕ
longest_service i = 3 + 2 * i

-- the name of ward i
abbrev pub ward_name : ℕ → List ℕ
ward_name i = codes "ward" ++ decimal i
