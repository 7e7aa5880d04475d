-- The names of analysts, each of which is the first of its name.
use Rattle.std.proofs.Common.{◌≡◌, ℕ, ◌-◌, ◌<◌, Bool, true, false, List, [], ◌∷◌}
use Rattle.std.proofs.Common.{◌++◌, length, get_or, refl, sym, subst, arith, Some, None, append_assoc, length-append}
use Rattle.std.specs.List.{All, position_or_len}
use Rattle.std.specs.Str.{bytes_eq}
use Rattle.std.proofs.lemmas.Grind.{common_steps}
use Rattle.std.proofs.lemmas.List.{get_or_append_left}
use Rattle.std.proofs.lemmas.List.Elements.{All-head, All-tail}
use Rattle.std.proofs.lemmas.List.Sums.{position_or_len_is}
use Rattle.std.proofs.lemmas.Option.{unwrap_or-slice_get}
use Rattle.std.proofs.lemmas.Slice.Eq.{bytes_eq-Decides}
use Rattle.std.proofs.Math.Seq.{get_or-append_seam}
use Rattle.sim_base.specs.Names.{AreDistinct}
use Rattle.decision_script.specs.Stating.{IsAnalyst, IsName, analyst_name}
use Rattle.decision_script.specs.Reading.{analyst_place}
use Rattle.decision_script.proofs.ItemsReadAgain.{AreNew, AreKnown}

-- ---- analyst_place

-- a name after others has no place among them
analyst_place-None : (before : List (List ℕ)) (name : List ℕ) (more : List (List ℕ))
    → AreDistinct (before ++ name ∷ more) → analyst_place name before ≡ None
analyst_place-None before name more h =
    let p : List ℕ → Bool = λ x. bytes_eq x name in
    let long = length-append before (name ∷ more) in
    let none : position_or_len p before ≡ length before = position_or_len_is p before (length before) [] (omega arith)
    (λ k lt. subst (λ x. bytes_eq x name ≡ false) (get_or_append_left before (name ∷ more) [] k lt)
    (subst (λ x. bytes_eq (get_or (before ++ name ∷ more) k []) x ≡ false) (get_or-append_seam before name more [])
    (h k (length before) [] lt (omega (arith, long)))))
    (λ within. absurd (omega arith)) in
    grind (arith, common_steps)

-- ---- AreNew and AreKnown

-- if all names are distinct, the later ones are new
pub are_new : (before more : List (List ℕ)) → AreDistinct (before ++ more) → All IsName more → AreNew before more
are_new before [] h named = tt
are_new before (name ∷ more) h named = (
  All-head IsName name more named,
  analyst_place-None before name more h,
  are_new (before ++ name ∷ []) more (rw append_assoc h) (All-tail IsName name more named),
)

-- and each is the first of its name
pub are_known : (names : List (List ℕ)) → AreDistinct names → All IsName names → AreKnown names
are_known names h named = record {
  known = λ a is. known a is;
  named = λ a is. rw (unwrap_or-slice_get names (a - 1) []) (named (a - 1) [] (omega (arith, is.low, is.high)));
}
  where
    known : (a : ℕ) → IsAnalyst (length names) a → analyst_place (analyst_name names a) names ≡ Some (a - 1)
    known a is =
        let low = is.low in
        let high = is.high in
        let name = analyst_name names a in
        let p : List ℕ → Bool = λ x. bytes_eq x name in
        let at : get_or names (a - 1) [] ≡ name = sym (unwrap_or-slice_get names (a - 1) []) in
        let first : position_or_len p names ≡ a - 1 =
        position_or_len_is p names (a - 1) [] (omega arith)
        (λ k lt. subst (λ x. bytes_eq (get_or names k []) x ≡ false) at (h k (a - 1) [] lt (omega arith)))
        (λ within. subst (λ x. bytes_eq x name ≡ true) (sym at) ((bytes_eq-Decides name name).1 refl)) in
        let there : a - 1 < length names = omega arith in
        grind (arith, common_steps)
