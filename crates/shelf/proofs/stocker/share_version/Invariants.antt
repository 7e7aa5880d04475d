use Rattle.std.proofs.Common.{◌≡◌, length, All}
use Rattle.std.specs.Arc.{arc_value}
use Rattle.shelf.proofs.stocker.share_version.Given as goal

abbrev pub invariant-loop : goal.invariant-loop
invariant-loop g l = (length l.all.items ≡ l.counter) × All (λ a. arc_value a ≡ l.version.value) l.all.items
