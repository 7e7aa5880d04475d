-- The analysts of a script, what they have to do, and what is shown to them first.
use Rattle.std.proofs.Common.{◌≡◌, ℕ, zero, suc, ◌+◌, ◌<◌, ◌≤◌, Bool, true, false, List, [], ◌∷◌, ◌++◌, length, map}
use Rattle.std.proofs.Common.{take, get_or, nat_eq, if◌then◌else◌, Some, slice_get, refl}
use Rattle.std.proofs.Common.{sym, ap, ap₂, ◌∙◌, subst, arith, length-append, append-nil, add-one}
use Rattle.std.specs.List.{AllByRecursion}
use Rattle.std.proofs.lemmas.List.{map-append}
use Rattle.std.proofs.lemmas.List.Concat.{flat_map-append}
use Rattle.sim_base.proofs.Elements.{take_next}
use Rattle.sim_base.proofs.ListLaws.{all_push}
use Rattle.decision_script.specs.declared.item.Act.{Act}
use Rattle.decision_script.specs.declared.item.Item.{Item}
use Rattle.phys_proc.specs.Racks.{RackView}
use Rattle.world_core.specs.Worlds.{WorldView}
use Rattle.live_study.specs.Asking.{SeatedAnalyst}
use Rattle.live_study.specs.Opening.{IsFresh, AreOpeningRacks, IsRackNow, numbers_to}
use Rattle.live_study.specs.Scripts.{acts_by, each_acts, own_act}

-- ---- acts_by
-- one item more
pub acts_by-take : (a : ℕ) (items : List Item) (i : ℕ) (item : Item) (own : List Act) → i < length items
    → get_or items i item ≡ item → own ≡ acts_by a (take i items)
    → own ++ own_act a item ≡ acts_by a (take (i + 1) items)
acts_by-take a items i item own less is before =
    let whole : take (i + 1) items ≡ take i items ++ item ∷ [] = take_next items i item less (sym is) in
    ap₂ (λ xs ys. xs ++ ys) before (sym (append-nil (own_act a item)))
    ∙ sym (flat_map-append (own_act a) (take i items) (item ∷ [])) ∙ ap (acts_by a) (sym whole)

-- ---- own_act
-- 1 where it is
abbrev pub one_if : Bool → ℕ
one_if b = if b then 1 else 0

-- an act where something is so, and else none: no more acts than that counts
own_length : (b : Bool) (act : Act) → length (if b then act ∷ [] else []) ≤ one_if b
own_length true act = omega arith
own_length false act = omega arith

-- an item gives an analyst one act at most, and none where it is another's
pub length-own_act : (a : ℕ) (item : Item) → length (own_act a item) ≤ one_if (nat_eq item.analyst a)
length-own_act a item = own_length (nat_eq item.analyst a) item.act

-- what is 1 where something is so, and else 0, is at most 1
pub at_most_one : (b : Bool) → one_if b ≤ 1
at_most_one true = omega arith
at_most_one false = omega arith

-- ---- acts_by, how many
-- an analyst has no more acts than there are items
pub few_by : (a : ℕ) (items : List Item) → length (acts_by a items) ≤ length items
few_by a [] = omega arith
few_by a (i ∷ is) = omega (
  arith,
  length-own_act a i,
  at_most_one (nat_eq i.analyst a),
  few_by a is,
  length-append (own_act a i) (acts_by a is),
)

-- ---- numbers_to, each_acts
-- there are n numbers up to n
pub length-numbers_to : (n : ℕ) → length (numbers_to n) ≡ n
length-numbers_to zero = refl
length-numbers_to (suc n) = omega (arith, length-append (numbers_to n) ((n + 1) ∷ []), length-numbers_to n)

-- there are as many lists of acts as analysts
pub length-each_acts : (items : List Item) (n : ℕ) → length (each_acts items n) ≡ n
length-each_acts items zero = refl
length-each_acts items (suc n) =
    omega (arith, length-append (each_acts items n) (acts_by (n + 1) items ∷ []), length-each_acts items n)

-- the numbers up to the next are those so far and the next
pub numbers_next : (n : ℕ) → numbers_to (n + 1) ≡ numbers_to n ++ (n + 1) ∷ []
numbers_next n = ap numbers_to (add-one n)

-- the acts of one analyst more are those so far and that analyst's
pub acts_next : (items : List Item) (n : ℕ)
    → each_acts items (n + 1) ≡ each_acts items n ++ acts_by (n + 1) items ∷ []
acts_next items n = ap (each_acts items) (add-one n)

-- ---- one analyst more
-- the images of a list with one element more
pub mapped_more : {A B : Type 0} (f : A → B) (xs zs : List A) (x : A) (ys : List B) → zs ≡ xs ++ x ∷ []
    → map f xs ≡ ys → map f zs ≡ ys ++ f x ∷ []
mapped_more f xs zs x ys e h = ap (map f) e ∙ map-append f xs (x ∷ []) ∙ ap (λ l. l ++ f x ∷ []) h

-- fresh analysts with one more that is fresh are all fresh
pub fresh_more : (opening : List RackView) (xs zs : List SeatedAnalyst) (x : SeatedAnalyst) → zs ≡ xs ++ x ∷ []
    → AllByRecursion (IsFresh opening) xs → IsFresh opening x → AllByRecursion (IsFresh opening) zs
fresh_more opening xs zs x e all own =
    subst (AllByRecursion (IsFresh opening)) (sym e) (all_push (IsFresh opening) xs x all own)

-- ---- one rack more
-- racks of the stations behind the n-th, one of each in order, with the rack of the next
one_each-with : (n : ℕ) (racks : List RackView) (r : RackView)
    → ((i : ℕ) (q : RackView) → slice_get racks i ≡ Some q → q.station ≡ n + i + 1)
    → r.station ≡ n + length racks + 1 → (i : ℕ) (q : RackView) → slice_get (racks ++ r ∷ []) i ≡ Some q
    → q.station ≡ n + i + 1
one_each-with n [] r each own zero q e =
    let same : r ≡ q = cc in omega (arith, own, ap (λ (x : RackView). x.station) same)
one_each-with n [] r each own (suc i) q e = absurd (cc)
one_each-with n (x ∷ xs) r each own zero q e = each zero q e
one_each-with n (x ∷ xs) r each own (suc i) q e =
    let later = one_each-with (n + 1) xs r (λ k p f. omega (arith, each (suc k) p f)) (omega (arith, own)) i q e in
    omega (arith, later)

-- a rack of the next station
pub opening_more : (w : WorldView) (many : ℕ) (racks more : List RackView) (r : RackView) → more ≡ racks ++ r ∷ []
    → AreOpeningRacks w many racks → IsRackNow w r → r.station ≡ many + 1 → AreOpeningRacks w (many + 1) more
opening_more w many racks more r e h now own = subst (AreOpeningRacks w (many + 1)) (sym e) (record {
  many_is = omega (arith, length-append racks (r ∷ []), h.many_is);
  each = λ i q f.
      let at = one_each-with 0 racks r (λ k p g. omega (arith, h.each k p g)) (omega (arith, own, h.many_is)) i q f in
      omega (arith, at);
  now = all_push (IsRackNow w) racks r h.now now;
})
