-- The slot of a number that is not a station's.
use Rattle.std.proofs.Common.{◌≡◌, ℕ, zero, suc, ◌<◌, ap, arith, length, unwrap_or, None}
use Rattle.std.proofs.lemmas.Option.{slice_get_past}
use Rattle.net_model.specs.Net.{Net, no_site, site_at, class_of_kind}
use Rattle.trace_report.specs.TraceText.{name_or_analyst}
use Rattle.trace_report.specs.Slots.{slot_of}

-- ---- site_at

-- there is no station past the last
no_station : (net : Net) (s : ℕ) → length net.sites < s → site_at net s ≡ None
no_station net zero l = absurd (omega arith)
no_station net (suc s) l = slice_get_past net.sites s (omega arith)

-- ---- slot_of

-- a number past the last is the analyst's, as 0 is
pub slot_past : (net : Net) (s : ℕ) → length net.sites < s → slot_of net s ≡ slot_of net 0
slot_past net s l =
    ap (λ o. record { name = name_or_analyst o; class = class_of_kind (unwrap_or o no_site).kind }) (no_station net s l)
