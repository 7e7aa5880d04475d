use Rattle.shelf.proofs.Legals.{HasRack-later}
use Rattle.engine_tests.proofs.shelf_tests.look_told.Goals as goal

pub look_once-requires : goal.look_once-requires
look_once-requires g c = record {
  has_rack = HasRack-later 1 c.args.seat.now c.learn.new.self c.learn.ensures.begins c.requires.has_rack;
}
