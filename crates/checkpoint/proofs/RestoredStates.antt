-- The states that saved data restores, one after the other.
use Rattle.std.proofs.Common.{◌≡◌, ℕ, suc, ◌+◌, List, [], ◌∷◌, ◌++◌, length, take, sym, ap, ◌∙◌}
use Rattle.std.proofs.Common.{Option, Some, slice_get, unwrap_or, arith, subst}
use Rattle.std.proofs.lemmas.Option.{slice_get_within}
use Rattle.std.proofs.lemmas.List.{length-take}
use Rattle.net_model.specs.Net.{Net}
use Rattle.stations.specs.Handling.{StateView}
use Rattle.stations.specs.Opening.{setup}
use Rattle.stations.specs.Saving.{restored}
use Rattle.stations.specs.declared.saved.Saved.{Saved}
use Rattle.stations.proofs.Places.{take-next}
use Rattle.checkpoint.specs.Snapshots.{restored_from}

module _ (net : Net) where
  -- the data of one station more
  restored_from-push : (s : ℕ) (xs : List Saved) (x : Saved) (st : StateView) →
      restored net (s + length xs) x ≡ Some st → restored_from net s (xs ++ x ∷ []) ≡ restored_from net s xs ++ st ∷ []
  restored_from-push s [] x st is =
      let here : s + 0 ≡ s = omega arith in
      let first = subst (λ (r : ℕ). restored net r x ≡ Some st) here is in
      ap (λ (o : Option StateView). unwrap_or o (setup net s).state ∷ []) first
  restored_from-push s (y ∷ ys) x st is =
      let next : s + suc (length ys) ≡ suc s + length ys = omega arith in
      ap (λ (l : List StateView). unwrap_or (restored net s y) (setup net s).state ∷ l)
      (restored_from-push (suc s) ys x st (subst (λ (r : ℕ). restored net r x ≡ Some st) next is))

  -- after the data of the first stations, that of the next one
  pub restored_from-next : (i : ℕ) (xs : List Saved) (x : Saved) (st : StateView) → slice_get xs i ≡ Some x →
      restored net (i + 1) x ≡ Some st →
      restored_from net 1 (take i xs) ++ st ∷ [] ≡ restored_from net 1 (take (i + 1) xs)
  restored_from-next i xs x st there is =
      let within = slice_get_within xs i x there in
      let count = length-take i xs in
      let place : i + 1 ≡ 1 + length (take i xs) = omega (arith, count, within) in
      sym (ap (restored_from net 1) (take-next xs i x there)
      ∙ restored_from-push 1 (take i xs) x st (subst (λ (r : ℕ). restored net r x ≡ Some st) place is))
