-- A report with the line of one more station.
use Rattle.std.proofs.Common.{◌≡◌, ℕ, ◌+◌, ◌<◌, List, ◌++◌, Some, length, get_or, take, arith, add-one}
use Rattle.std.specs.List.{flat_map, zip}
use Rattle.std.proofs.lemmas.List.{flat_map_more, take_more}
use Rattle.std.proofs.lemmas.Option.{get_or_from_slice_get}
use Rattle.std.proofs.lemmas.Slice.Zip.{length-zip, get_or-zip}
use Rattle.sim_base.specs.declared.figures.Figures.{Figures}
use Rattle.net_model.specs.Net.{Net, Site, site_at}
use Rattle.trace_report.specs.ReportText.{station_line}

-- the lines of the stations so far, followed by that of the next, are those of one more station
pub station_lines_more : (net : Net) (figures : List Figures) (s : ℕ) (site : Site) (of : Figures) (text : List ℕ)
    → s < length net.sites → s < length figures → site_at net (s + 1) ≡ Some site
    → (text ++ flat_map (λ beside. station_line beside.0 beside.1) (take s (zip net.sites figures)))
    ++ station_line site (get_or figures s of)
    ≡ text ++ flat_map (λ beside. station_line beside.0 beside.1) (take (s + 1) (zip net.sites figures))
station_lines_more net figures s site of text in_sites in_figures there =
    let within : s < length (zip net.sites figures) = omega (arith, length-zip net.sites figures) in
    let site_is = get_or_from_slice_get net.sites s site site (rw add-one at there) in
    let pair_is = get_or-zip net.sites figures s (site, of) in_sites in_figures in
    let more = take_more (zip net.sites figures) s (site, of) within in
    rw (more, pair_is, site_is) (flat_map_more (λ (beside : Site × Figures). station_line beside.0 beside.1) text
    (take s (zip net.sites figures)) (site, get_or figures s of))
