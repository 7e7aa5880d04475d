use Rattle.std.proofs.Common.{◌≡◌, ◌+◌, All, length, map}
use Rattle.std.specs.List.{AllByRecursion}
use Rattle.live_study.specs.Asking.{SeatedAnalyst}
use Rattle.live_study.specs.Opening.{IsFresh, numbers_to}
use Rattle.live_study.specs.Scripts.{each_acts}
use Rattle.live_study.proofs.begin.analysts_of.Given as goal

abbrev pub invariant-loop-pass : goal.invariant-loop-pass
invariant-loop-pass g l = record {
  passes : map (λ (a : SeatedAnalyst). a.0.pass) l.seated.items ≡ l.yielded;
  numbers : map (λ (a : SeatedAnalyst). a.0.number) l.seated.items ≡ numbers_to l.number;
  todo : map (λ (a : SeatedAnalyst). a.0.todo.items) l.seated.items ≡ each_acts l.script.items l.number;
  number : l.number ≡ length l.yielded;
  left : length l.seats.items + length l.yielded ≡ length l.fn.seats.items;
  seats : (opening : _) → All (λ s. s ≡ opening) l.fn.seats.items → All (λ s. s ≡ opening) l.seats.items;
  fresh : (opening : _) → All (λ s. s ≡ opening) l.fn.seats.items → AllByRecursion (IsFresh opening) l.seated.items;
}
