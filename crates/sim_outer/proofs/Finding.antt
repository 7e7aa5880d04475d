-- The file that is found by a name.
use Rattle.std.proofs.Common.{◌≡◌, ℕ, suc, ◌+◌, ◌<◌, List, ◌∷◌, Some, cond, length, drop, sym, ap, ap₂, ◌∙◌, arith}
use Rattle.std.proofs.Math.ListN.{get_or}
use Rattle.std.proofs.Math.Seq.{drop-cons}
use Rattle.std.proofs.lemmas.Map.Text.{is_eq-slice_cmp}
use Rattle.std.specs.Cmp.Lexicographic.{slice_cmp}
use Rattle.std.specs.FinMap.{find}
use Rattle.std.specs.Ordering.{nat_cmp}
use Rattle.std.specs.Str.{bytes_eq}
use Rattle.std.specs.declared.vec.Vec.{Vec}
use Rattle.sim_outer.specs.MemInputsView.{named_bytes}

-- from a file on, that one is found, or the result of the search after it
pub find-drop : {Z : Type 0} (name : List ℕ) (files : List (List ℕ × Vec ℕ Z)) (i : ℕ) (f : List ℕ × Vec ℕ Z)
    → i < length files
    → f ≡ get_or files i f → find (slice_cmp nat_cmp) name (named_bytes (drop i files))
    ≡ cond (bytes_eq name f.0) (Some f.1.items) (find (slice_cmp nat_cmp) name (named_bytes (drop (i + 1) files)))
find-drop name files i f within is =
    let one_more : suc i ≡ i + 1 = omega arith in
    let first : drop i files ≡ f ∷ drop (i + 1) files = drop-cons files i f within
    ∙ ap₂ (λ x n. x ∷ drop n files) (sym is) one_more in
    let behind = find (slice_cmp nat_cmp) name (named_bytes (drop (i + 1) files)) in
    ap (λ l. find (slice_cmp nat_cmp) name (named_bytes l)) first
    ∙ ap (λ b. cond b (Some f.1.items) behind) (is_eq-slice_cmp name f.0)
