-- Which snapshots a run may go on from.
use Rattle.std.specs.Prelude.{◌≡◌, ℕ, suc, ◌&&◌, nat_le, nat_lt, Bool, true, List, [], ◌∷◌, length}
use Rattle.std.specs.Prelude.{Option, Some, None, if◌then◌else◌}
use Rattle.std.specs.List.{list_all}
use Rattle.sim_base.specs.Names.{is_name}
use Rattle.net_model.specs.Net.{Net}
use Rattle.stations.specs.Fitting.{fits_saved}
use Rattle.stations.specs.declared.saved.Saved.{Saved}
use Rattle.checkpoint.specs.Due.{first_bad, is_sayable_payload}
use Rattle.checkpoint.specs.Snapshots.{SnapshotView}
use Rattle.checkpoint.specs.TraceLines.{is_trace_line}

-- whether a clone with this end may have come to a front: the end is not earlier, and is before the horizon
abbrev pub fits_end : Net → ℕ → Option ℕ → Bool
fits_end net front None = true
fits_end net front (Some end) = nat_le front end && nat_lt end net.horizon

-- whether a run of such a clone may have come to a front: the horizon is not earlier either
abbrev pub fits_front : Net → ℕ → Option ℕ → Bool
fits_front net front end = nat_le front net.horizon && fits_end net front end

-- the first station, from s on, that its saved data does not fit
abbrev pub first_unfit : Net → ℕ → List Saved → Option ℕ
first_unfit net s [] = None
first_unfit net s (x ∷ xs) = if fits_saved net s x then first_unfit net (suc s) xs else Some s

-- a snapshot from which a run of the network may go on, and which a text can say
pub record IsAccepted (net : Net) (x : SnapshotView) : Type 0 where
  pub name : is_name x.who ≡ true
  pub front : fits_front net x.front x.end ≡ true
  pub count : length x.saved ≡ length net.sites
  pub fit : first_unfit net 1 x.saved ≡ None
  pub due : first_bad net x.front x.saved [] None x.due ≡ None
  pub sayable : list_all (λ m. is_sayable_payload m.payload) x.due ≡ true
  pub lines : list_all is_trace_line x.lines ≡ true
