use Rattle.watch_points.proofs.AcceptedWatches.{accepted_watches_fit}
use Rattle.watch_points.proofs.laws.accepted_watches_fit.Goals as goal

pub returns : goal.returns
returns c = accepted_watches_fit
