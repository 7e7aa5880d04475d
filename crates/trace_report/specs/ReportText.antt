-- The text of a report: what the clones shared, for each station and in total.
use Rattle.std.specs.Prelude.{ℕ, ◌<◌, ◌^◌, ◌++◌, List, codes, decimal, sum_by}
use Rattle.std.specs.List.{flat_map, zip}
use Rattle.sim_base.specs.declared.figures.Figures.{Figures}
use Rattle.net_model.specs.Net.{Net, Site}

-- a station's physical copies, the messages that they handled, and the messages that the clones would have handled
-- alone
abbrev pub station_line : Site → Figures → List ℕ
station_line site figures =
    site.name
    ++ codes " copies=" ++ decimal figures.copies
    ++ codes " handled=" ++ decimal figures.handled
    ++ codes " alone=" ++ decimal figures.alone ++ codes "\n"

-- the sums over all stations
abbrev pub total_line : List Figures → List ℕ
total_line figures =
    codes "total handled=" ++ decimal (sum_by (λ f. f.handled) figures)
    ++ codes " alone=" ++ decimal (sum_by (λ f. f.alone) figures) ++ codes "\n"

-- figures whose sums fit 64 bits
pub record HaveSmallSums (figures : List Figures) : Type 0 where
  pub handled : sum_by (λ f. f.handled) figures < 2 ^ 64
  pub alone : sum_by (λ f. f.alone) figures < 2 ^ 64

-- the report text of a network's stations, each with its figures
abbrev pub report_text : Net → List Figures → List ℕ
report_text net figures =
    codes "report\n" ++ flat_map (λ beside. station_line beside.0 beside.1) (zip net.sites figures)
    ++ total_line figures
