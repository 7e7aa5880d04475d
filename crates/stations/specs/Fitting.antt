-- Whether plain data is a state of a station.
use Rattle.std.specs.Prelude.{◌≡◌, ℕ, ◌+◌, ◌*◌, ◌==◌, ◌&&◌, ◌||◌, nat_le, nat_lt, Bool, true, false, length, Some}
use Rattle.std.specs.List.{list_all}
use Rattle.sim_base.specs.declared.message.Job.{Job as JobOf}
use Rattle.net_model.specs.declared.station.Kind.{Kind}
use Rattle.net_model.specs.declared.station.Kind.TheVariants as kind
use Rattle.net_model.specs.declared.limits.TheConstants.{MAX_JOBS, MAX_ROOM, MAX_SERVERS, MAX_WEIGHT}
use Rattle.net_model.specs.Net.{Net, Site, HasStation, site_of, is_source}
use Rattle.net_model.specs.Rules.{is_within, is_range}
use Rattle.stations.specs.declared.sender.TheConstants.{MAX_STAY_SUM, MAX_SENDS}
use Rattle.stations.specs.Fits.{FitsState, SuitsNet}
use Rattle.stations.specs.Handling.{StateView}
use Rattle.stations.specs.Saving.{restored}
use Rattle.stations.specs.declared.saved.Saved.{Saved}
use Rattle.stations.specs.declared.saved.Shape.{Shape}
use Rattle.stations.specs.declared.saved.Shape.TheVariants as shape

-- whether a source of the network may have made the job before the horizon
abbrev pub is_job_of : Net → JobOf → Bool
is_job_of net j = is_source (site_of net j.source).kind && (nat_lt j.count MAX_JOBS && nat_lt j.born net.horizon)

-- whether a shape fits a station of this kind that has handled this number of messages. Its parameters must be in range
-- and its counts within their bounds, and sources may have made the waiting jobs
abbrev pub fits_shape : Net → Site → ℕ → Kind → Shape → Bool
fits_shape net site handled (kind.Source lo hi jobs class) (shape.Source low high sent) =
    is_range 1 low high && nat_le sent jobs
fits_shape net site handled (kind.Server servers room lo hi by_class)
    (shape.Server number space low high busy done lost line) =
    (is_within 1 MAX_SERVERS number && (nat_le space MAX_ROOM && is_range 1 low high))
    && (((nat_le busy MAX_SERVERS && nat_le (length line) MAX_ROOM)
    && ((length line == 0) || nat_le number busy))
    && ((nat_le done handled && nat_le lost handled) && list_all (is_job_of net) line))
fits_shape net site handled (kind.Delay lo hi) (shape.Delay low high passed) =
    is_range 0 low high && nat_le passed handled
fits_shape net site handled (kind.Router turn) (shape.Router passed weights) =
    ((length weights.items == length site.links) && list_all (is_within 1 MAX_WEIGHT) weights.items)
    && nat_le passed handled
fits_shape net site handled kind.Sink (shape.Sink got stay) = nat_le got handled && nat_lt stay MAX_STAY_SUM
fits_shape net site handled _ _ = false

-- whether plain data fits station s: its counts are within their bounds, and its shape fits the station
abbrev pub fits_saved : Net → ℕ → Saved → Bool
fits_saved net s saved =
    (nat_le saved.handled net.limit
    && (nat_le saved.next (MAX_SENDS * (saved.handled + 1)) && nat_le saved.drawn (MAX_SENDS * (saved.handled + 1))))
    && fits_shape net (site_of net s) saved.handled (site_of net s).kind saved.shape

-- plain data restores a state of station s, which is within the bounds of every state
pub record RestoresState (net : Net) (s : ℕ) (saved : Saved) : Type 0 where
  pub state : StateView
  pub is : restored net s saved ≡ Some state
  pub fits : FitsState state
  pub suits : SuitsNet net state
  pub station : state.sender.station ≡ s
  pub handled : state.handled ≡ saved.handled

-- data that fits a station restores a state of it
abbrev pub FittingIsRestored : Net → Type 0
FittingIsRestored net = (s : ℕ) (saved : Saved) → HasStation net s → fits_saved net s saved ≡ true
    → RestoresState net s saved
