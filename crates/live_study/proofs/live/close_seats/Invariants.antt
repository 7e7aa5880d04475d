use Rattle.std.proofs.Common.{◌≡◌, ◌+◌, ◌++◌, length, map, true}
use Rattle.std.specs.Prelude.{vec_capacity}
use Rattle.live_study.specs.Asking.{SeatedAnalyst}
use Rattle.live_study.specs.Showing.{AllReadOneHistory}
use Rattle.live_study.proofs.live.close_seats.Given as goal

abbrev pub invariant-loop-one : goal.invariant-loop-one
invariant-loop-one g l = record {
  passes : l.passes.items ≡ l.fn.reserve.passes.items ++ map (λ (a : SeatedAnalyst). a.0.pass) l.yielded;
  looks : l.looks.items ≡ l.fn.reserve.looks.items ++ map (λ (a : SeatedAnalyst). a.0.looks) l.yielded;
  for_passes : vec_capacity l.passes ≡ vec_capacity l.fn.reserve.passes;
  for_looks : vec_capacity l.looks ≡ vec_capacity l.fn.reserve.looks;
  published : l.stock.published ≡ l.fn.stock.published;
  tells : l.finished ≡ true → l.stock.has_published ≡ true;
  left : l.finished ≡ true → length l.stock.spares.items + length l.yielded ≡ length l.fn.seated.items;
  history : l.finished ≡ true → AllReadOneHistory l.fn.stock.published l.yielded;
}
