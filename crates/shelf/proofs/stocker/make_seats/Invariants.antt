use Rattle.std.proofs.Common.{◌≡◌, length, All}
use Rattle.shelf.proofs.stocker.make_seats.Given as goal

abbrev pub invariant-loop : goal.invariant-loop
invariant-loop g l = (length l.all.items ≡ l.counter) × All (λ s. s ≡ l.version.value) l.all.items
