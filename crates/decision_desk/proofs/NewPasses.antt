-- The passes of a new desk.
use Rattle.std.proofs.Common.{◌≡◌, ℕ, zero, suc, ◌+◌, [], ◌∷◌, length, length-append, All, arith, refl}
use Rattle.std.proofs.lemmas.List.Elements.{All-nil, All-push}
use Rattle.atomic_table.specs.Seated.{TableId}
use Rattle.net_model.specs.Net.{Net}
use Rattle.decision_desk.specs.Passes.{PassView, new_pass, new_passes}

-- their number is the requested one
pub new_passes_count : (desk : TableId) (net : Net) (n : ℕ) → length (new_passes desk net n) ≡ n
new_passes_count desk net zero = refl
new_passes_count desk net (suc n) = omega (
  arith,
  length-append (new_passes desk net n) (new_pass desk net (n + 1) ∷ []),
  new_passes_count desk net n,
)

-- each is of this desk
pub new_passes_desks : (desk : TableId) (net : Net) (n : ℕ)
    → All (λ (p : PassView). p.desk ≡ desk) (new_passes desk net n)
new_passes_desks desk net zero = All-nil (λ (p : PassView). p.desk ≡ desk)
new_passes_desks desk net (suc n) = All-push (λ (p : PassView). p.desk ≡ desk) (new_passes desk net n)
    (new_pass desk net (n + 1)) (new_passes_desks desk net n) refl
