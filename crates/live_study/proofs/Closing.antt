-- What the analysts leave, one after the other.
use Rattle.std.proofs.Common.{◌≡◌, List, [], ◌∷◌, ◌++◌, map, sym, ap, ◌∙◌, subst}
use Rattle.std.proofs.Common.{append_assoc}
use Rattle.std.proofs.lemmas.List.{map_push}
use Rattle.sim_base.proofs.ListLaws.{all_push}
use Rattle.phys_proc.specs.Racks.{RackView}
use Rattle.live_study.specs.Asking.{SeatedAnalyst}
use Rattle.live_study.specs.Looks.{AreOfOneHistory}
use Rattle.live_study.specs.Showing.{AllReadOneHistory}

-- what holds of one value holds of one that is the same
pub of_same : {A : Type 0} (a b : A) → a ≡ b → (P : A → Type 0) → P b → P a
of_same a b e P p = subst P (sym e) p

-- one seat more has read of the history
pub all_read_more : (published : List RackView) (done : List SeatedAnalyst) (a : SeatedAnalyst)
    → AllReadOneHistory published done → AreOfOneHistory published a.1 → AllReadOneHistory published (done ++ a ∷ [])
all_read_more published done a all one =
    all_push (λ (b : SeatedAnalyst). AreOfOneHistory published b.1) done a all one

-- one image more after those that were there
pub with_image : {A B : Type 0} (f : A → B) (first old new : List B) (xs : List A) (x : A) → old ≡ first ++ map f xs
    → new ≡ old ++ f x ∷ [] → new ≡ first ++ map f (xs ++ x ∷ [])
with_image f first old new xs x before e =
    e ∙ ap (λ l. l ++ f x ∷ []) before ∙ append_assoc first (map f xs) (f x ∷ [])
    ∙ ap (λ l. first ++ l) (sym (map_push f xs x))
