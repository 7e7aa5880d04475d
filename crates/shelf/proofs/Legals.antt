-- Legal lists of racks, and the last rack of a station.
use Rattle.std.proofs.Common.{◌≡◌, ◌==◌, ℕ, zero, suc, ◌+◌, ◌<◌, ◌≤◌, Bool, true, false, List, [], ◌∷◌, ◌++◌, Option}
use Rattle.std.proofs.Common.{Some, None, length, map, take, refl, ap, sym, ◌∙◌, subst, arith, slice_get, get_or, ◌-◌}
use Rattle.std.proofs.lemmas.List.{length-map}
use Rattle.std.proofs.lemmas.Option.{get_or_from_slice_get, same_Some, slice_get-map, slice_get_read, slice_get_within}
use Rattle.std.specs.Option.{option_map}
use Rattle.std.specs.List.{AllByRecursion}
use Rattle.std.proofs.lemmas.Bool.Decides.{nat_tests}
use mathlib.Core.List.{IsPrefix}
use Rattle.sim_base.proofs.ListLaws.{all_push}
use Rattle.sim_base.proofs.Elements.{take_next}
use Rattle.phys_proc.specs.Racks.{RackView}
use Rattle.shelf.specs.Racks.{MayComeAfter, MayBePublished, AreLegal, latest, or_this, if_this}
use Rattle.shelf.specs.Racks.{HasRack, AreShown, OneEach, MayOpen}

-- ---- AreLegal

-- one rack more that may follow leaves the list legal
pub AreLegal-push : (racks : List RackView) (r : RackView) → AreLegal racks → MayBePublished racks r
    → AreLegal (racks ++ r ∷ [])
AreLegal-push [] r legal may = (tt, tt)
AreLegal-push (q ∷ racks) r legal may =
    (all_push (λ (r : RackView). MayComeAfter r q) racks r legal.0 may.0, AreLegal-push racks r legal.1 may.1)

-- ---- latest

-- what holds of all racks holds of the last of a station, which is of this station
pub latest-all : (P : RackView → Type 0) (s : ℕ) (racks : List RackView) (r : RackView) → AllByRecursion P racks
    → latest s racks ≡ Some r → P r × (r.station ≡ s)
latest-all P s [] r all e = absurd (cc)
latest-all P s (q ∷ racks) r all e = by_later (λ f. latest-all P s racks r all.1 f) (latest s racks) refl
    (q.station == s) refl e
  where
    by_later : (latest s racks ≡ Some r → P r × (r.station ≡ s)) → (o : Option RackView) → latest s racks ≡ o
        → (b : Bool) → (q.station == s) ≡ b → or_this o b q ≡ Some r → P r × (r.station ≡ s)
    by_later more (Some later) f b is e = more (f ∙ e)
    by_later more None f true is e = let g : q ≡ r = cc in let h : q.station ≡ s = grind (arith, nat_tests) in
        (subst P g all.0, ap (λ (x : RackView). x.station) (sym g) ∙ h)
    by_later more None f false is e = absurd (cc)

-- one rack more is the last of its station, and of the other stations nothing changes
pub latest-with : (s : ℕ) (racks : List RackView) (r : RackView)
    → latest s (racks ++ r ∷ []) ≡ if_this (r.station == s) r (latest s racks)
latest-with s [] r = by_test (r.station == s)
  where
    by_test : (b : Bool) → or_this None b r ≡ if_this b r None
    by_test true = refl
    by_test false = refl
latest-with s (q ∷ racks) r = ap (λ o. or_this o (q.station == s) q) (latest-with s racks r) ∙ by_test (r.station == s)
  where
    by_test : (b : Bool) → or_this (if_this b r (latest s racks)) (q.station == s) q ≡ if_this b r
        (latest s (q ∷ racks))
    by_test true = refl
    by_test false = refl

-- a longer list shows of a station what the shorter showed, or something later
latest-later : (s : ℕ) (xs zs : List RackView) (q : RackView) → AreLegal (xs ++ zs) → latest s xs ≡ Some q
    → (r : RackView) × (latest s (xs ++ zs) ≡ Some r) × (q.front ≤ r.front)
latest-later s [] zs q legal e = absurd (cc)
latest-later s (x ∷ xs) zs q legal e = by_rest (λ f. latest-later s xs zs q legal.1 f) (latest s xs) refl
    (x.station == s) refl e
  where
    goal_at : Option RackView → Bool → Type 0
    goal_at o b = (r : RackView) × (or_this o b x ≡ Some r) × (q.front ≤ r.front)

    by_whole : (o : Option RackView) → latest s (xs ++ zs) ≡ o → x ≡ q → x.station ≡ s → goal_at o true
    by_whole None f same here = (x, refl, omega (arith, ap (λ (r : RackView). r.front) same))
    by_whole (Some r) f same here =
        let h = latest-all (λ (r : RackView). MayComeAfter r x) s (xs ++ zs) r legal.0 f in
        let l : x.front < r.front = h.0.later (here ∙ sym h.1) in
        (r, refl, omega (arith, l, ap (λ (r : RackView). r.front) same))

    by_rest : (latest s xs ≡ Some q → (r : RackView) × (latest s (xs ++ zs) ≡ Some r) × (q.front ≤ r.front))
        → (o : Option RackView) → latest s xs ≡ o → (b : Bool) → (x.station == s) ≡ b → or_this o b x ≡ Some q
        → goal_at (latest s (xs ++ zs)) (x.station == s)
    by_rest more (Some later) f b is e =
        let h = more (f ∙ e) in
        (h.0, ap (λ o. or_this o (x.station == s) x) h.1, h.2)
    by_rest more None f true is e =
        let same : x ≡ q = cc in
        let here : x.station ≡ s = grind (arith, nat_tests) in
        subst (goal_at (latest s (xs ++ zs))) (sym is) (by_whole (latest s (xs ++ zs)) refl same here)
    by_rest more None f false is e = absurd (cc)

-- the same for a prefix of a list
pub front-later : (s : ℕ) (xs ys : List RackView) (q r : RackView) → AreLegal ys → IsPrefix xs ys
    → latest s xs ≡ Some q → latest s ys ≡ Some r → q.front ≤ r.front
front-later s xs ys q r legal begins e f =
    let h = latest-later s xs begins.0 q (subst AreLegal (sym begins.1) legal) e in
    let g : latest s ys ≡ Some h.0 = subst (λ zs. latest s zs ≡ Some h.0) begins.1 h.1 in
    let same : r ≡ h.0 = same_Some r h.0 (sym f ∙ g) in
    omega (arith, h.2, ap (λ (x : RackView). x.front) same)

-- ---- HasRack

-- a station that has a rack has one in a longer list
HasRack-append : (s : ℕ) (xs zs : List RackView) → HasRack s xs → HasRack s (xs ++ zs)
HasRack-append s [] zs has = let e = has.1 in absurd (cc)
HasRack-append s (x ∷ xs) zs has =
    by_rest (λ h. HasRack-append s xs zs h) (latest s xs) refl (x.station == s) refl has.1
  where
    this_or : (o : Option RackView) → (r : RackView) × (or_this o true x ≡ Some r)
    this_or (Some r) = (r, refl)
    this_or None = (x, refl)

    by_rest : (HasRack s xs → HasRack s (xs ++ zs)) → (o : Option RackView) → latest s xs ≡ o → (b : Bool)
        → (x.station == s) ≡ b → or_this o b x ≡ Some has.0 → HasRack s (x ∷ (xs ++ zs))
    by_rest more (Some later) f b is e = let h = more (later, f) in (h.0, ap (λ o. or_this o (x.station == s) x) h.1)
    by_rest more None f true is e = subst (λ b. (r : RackView) × (or_this (latest s (xs ++ zs)) b x ≡ Some r))
        (sym is) (this_or (latest s (xs ++ zs)))
    by_rest more None f false is e = absurd (cc)

-- and in a list of which this is a prefix
pub HasRack-later : (s : ℕ) (xs ys : List RackView) → IsPrefix xs ys → HasRack s xs → HasRack s ys
HasRack-later s xs ys begins has = subst (HasRack s) begins.1 (HasRack-append s xs begins.0 has)

-- a station that has a rack has one also with one rack more
pub HasRack-push : (s : ℕ) (racks : List RackView) (r : RackView) → HasRack s racks → HasRack s (racks ++ r ∷ [])
HasRack-push s racks r has = by_test (r.station == s) (latest-with s racks r)
  where
    by_test : (b : Bool) → latest s (racks ++ r ∷ []) ≡ if_this b r (latest s racks) → HasRack s (racks ++ r ∷ [])
    by_test true e = (r, e)
    by_test false e = (has.0, e ∙ has.1)

-- ---- latest, of one rack for each station

-- racks of later stations have none of an earlier one
latest-none : (s n : ℕ) (racks : List RackView) → s ≤ n
    → ((i : ℕ) (r : RackView) → slice_get racks i ≡ Some r → r.station ≡ n + i + 1) → latest s racks ≡ None
latest-none s n [] l each = refl
latest-none s n (x ∷ xs) l each =
    let h = each 0 x refl in
    by_test (latest-none s (n + 1) xs (omega (arith, l)) (λ i r e. let h = each (suc i) r e in omega (arith, h)))
    (omega (arith, h, l)) (x.station == s) refl
  where
    by_test : latest s xs ≡ None → s < x.station → (b : Bool) → (x.station == s) ≡ b
        → or_this (latest s xs) (x.station == s) x ≡ None
    by_test rest above true is = let g : x.station ≡ s = grind (arith, nat_tests) in absurd (omega (arith, g, above))
    by_test rest above false is = rw (rest, is) refl

-- of one rack for each station, each is the last of its station
latest-at : (n : ℕ) (racks : List RackView)
    → ((i : ℕ) (r : RackView) → slice_get racks i ≡ Some r → r.station ≡ n + i + 1)
    → (i : ℕ) → i < length racks → slice_get racks i ≡ latest (n + i + 1) racks
latest-at n [] each i l = absurd (omega (arith, l))
latest-at n (x ∷ xs) each zero l =
    let none : latest (n + 0 + 1) xs ≡ None =
    latest-none (n + 0 + 1) (n + 1) xs (omega arith) (λ i r e. let h = each (suc i) r e in omega (arith, h)) in
    let h = each 0 x refl in by_test (x.station == n + 0 + 1) refl none h
  where
    by_test : (b : Bool) → (x.station == n + 0 + 1) ≡ b → latest (n + 0 + 1) xs ≡ None → x.station ≡ n + 0 + 1
        → Some x ≡ or_this (latest (n + 0 + 1) xs) (x.station == n + 0 + 1) x
    by_test true is none h = rw (none, is) refl
    by_test false is none h = absurd (grind (arith, nat_tests))
latest-at n (x ∷ xs) each (suc i) l =
    let h = latest-at (n + 1) xs (λ i r e. let h = each (suc i) r e in omega (arith, h)) i (omega (arith, l)) in
    let g = each 0 x refl in
    let k : (n + 1) + i + 1 ≡ n + suc i + 1 = omega arith in
    subst (λ s. slice_get xs i ≡ latest s xs) k h ∙ by_test (x.station == n + suc i + 1) refl g
    (latest (n + suc i + 1) xs)
  where
    by_test : (b : Bool) → (x.station == n + suc i + 1) ≡ b → x.station ≡ n + 0 + 1 → (o : Option RackView)
        → o ≡ or_this o (x.station == n + suc i + 1) x
    by_test true is g o = absurd (grind (arith, nat_tests))
    by_test false is g None = rw is refl
    by_test false is g (Some r) = refl

-- ---- OneEach, MayOpen

-- what holds at each place holds of all
AllByRecursion-at : {A : Type 0} (P : A → Type 0) (xs : List A)
    → ((i : ℕ) (x : A) → i < length xs → slice_get xs i ≡ Some x → P x) → AllByRecursion P xs
AllByRecursion-at P [] f = tt
AllByRecursion-at P (x ∷ xs) f =
    (f 0 x (omega arith) refl, AllByRecursion-at P xs (λ i y l e. f (suc i) y (omega (arith, l)) e))

-- racks of which each station has one, in order, are what readers are shown after them
pub AreShown-opening : (racks : List RackView) → OneEach racks → AreShown racks racks
AreShown-opening racks each = record {
  each = λ i l. let h = latest-at 0 racks (λ i r e. let h = each i r e in omega (arith, h)) i l in
      subst (λ s. slice_get racks i ≡ latest s racks) (zero_more i) h;
  all = λ s has. let h = latest-all (λ (r : RackView). (1 ≤ r.station) × (r.station ≤ length racks)) s racks has.0
      within has.1 in
      subst (λ s. (1 ≤ s) × (s ≤ length racks)) h.1 h.0;
}
  where
    zero_more : (i : ℕ) → 0 + i + 1 ≡ i + 1
    zero_more i = omega arith

    within : AllByRecursion (λ (r : RackView). (1 ≤ r.station) × (r.station ≤ length racks)) racks
    within = AllByRecursion-at (λ (r : RackView). (1 ≤ r.station) × (r.station ≤ length racks)) racks
        (λ i r l e. let h = each i r e in (omega (arith, h), omega (arith, h, l)))

-- each of the opening racks may follow those before it
MayOpen-follows : (racks : List RackView) (i : ℕ) (r : RackView) → MayOpen racks → slice_get racks i ≡ Some r
    → MayBePublished (take i racks) r
MayOpen-follows racks i r may e = of_part racks i (λ j q l f. record {
  net = may.net j i q r f e;
  later = λ same. let h = may.each j q f in let g = may.each i r e in absurd (omega (arith, h, g, same, l));
  within = λ same. let h = may.each j q f in let g = may.each i r e in absurd (omega (arith, h, g, same, l));
})
  where
    of_part : (xs : List RackView) (i : ℕ)
        → ((j : ℕ) (q : RackView) → j < i → slice_get xs j ≡ Some q → MayComeAfter r q) → MayBePublished (take i xs) r
    of_part [] zero f = tt
    of_part [] (suc i) f = tt
    of_part (x ∷ xs) zero f = tt
    of_part (x ∷ xs) (suc i) f = (f 0 x (omega arith) refl, of_part xs i (λ j q l e. f (suc j) q (omega (arith, l)) e))

-- the image of what is at a place
slice_get-image : {A : Type 0} (f : A → RackView) (xs : List A) (i : ℕ) (x : A) → i < length xs → x ≡ get_or xs i x
    → slice_get (map f xs) i ≡ Some (f x)
slice_get-image f xs i x l e = slice_get-map f xs i ∙ ap (option_map f) (slice_get_read xs (length xs) i x refl l e)

-- the next of the opening racks may follow those before it, and with it they are one more
pub MayOpen-next : {A : Type 0} (f : A → RackView) (xs : List A) (i : ℕ) (x : A) (r : RackView)
    (published : List RackView)
    → published ≡ take i (map f xs) → MayOpen (map f xs) → i < length xs → x ≡ get_or xs i x → r ≡ f x
    → MayBePublished published r × (published ++ r ∷ [] ≡ take (i + 1) (map f xs))
MayOpen-next f xs i x r published e may l got is =
    let g : slice_get (map f xs) i ≡ Some r = slice_get-image f xs i x l got ∙ ap Some (sym is) in (
      subst (λ q. MayBePublished q r) (sym e) (MayOpen-follows (map f xs) i r may g),
      ap (λ q. q ++ r ∷ []) e ∙ sym (take_next (map f xs) i r (slice_get_within (map f xs) i r g)
          (sym (get_or_from_slice_get (map f xs) i r r g))),
    )

-- ---- AreShown

-- a rack that readers are shown is the last of its station
pub AreShown-at : {A : Type 0} (f : A → RackView) (xs : List A) (published : List RackView) (s : ℕ) (x : A)
    → AreShown (map f xs) published → HasRack s published → x ≡ get_or xs (s - 1) x → latest s published ≡ Some (f x)
AreShown-at f xs published s x shown has got =
    let k = shown.all s has in
    let l : s - 1 < length xs = omega (arith, k.0, k.1, length-map xs f) in
    let m : s - 1 < length (map f xs) = omega (arith, l, length-map xs f) in
    let e : s - 1 + 1 ≡ s = omega (arith, k.0) in
    sym (subst (λ n. slice_get (map f xs) (s - 1) ≡ latest n published) e (shown.each (s - 1) m))
    ∙ slice_get-image f xs (s - 1) x l got

-- the index of a station's rack among the shown racks
pub HasRack-bounds : {A : Type 0} (f : A → RackView) (xs : List A) (published : List RackView) (s : ℕ)
    → AreShown (map f xs) published → HasRack s published → (1 ≤ s) × (s ≤ length xs)
HasRack-bounds f xs published s shown has = let k = shown.all s has in (k.0, omega (arith, k.1, length-map xs f))
