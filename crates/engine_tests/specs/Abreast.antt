-- A book and a world of the same clones.
use Rattle.std.specs.Prelude.{◌≡◌}
use Rattle.decision_book.specs.Books.{BookView}
use Rattle.decision_book.specs.Journal.{after}
use Rattle.world_core.specs.Worlds.{WorldView}

-- they have the same network, clones and front
pub record AreAbreast (book : BookView) (world : WorldView) : Type 0 where
  pub net : book.net ≡ world.net
  pub clones : (after book.net book.events).clones ≡ world.clones
  pub front : (after book.net book.events).front ≡ world.front
