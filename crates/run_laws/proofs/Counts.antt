-- The numbers of different logs and of different prefixes, as counts.
use Rattle.std.proofs.Common.{◌≡◌, ℕ, suc, ◌*◌, ◌≤◌, List, [], ◌∷◌, ◌++◌, inl, inr, Bool}
use Rattle.std.proofs.Common.{true, cond, refl, sym, ap, ◌∙◌, subst, arith, length, length-append, map, take}
use Rattle.std.specs.Bool.{Decides}
use Rattle.std.specs.List.{flat_map}
use Rattle.std.specs.Set.{is_member, unique_keys, distinct_count}
use Rattle.std.proofs.Math.Nat.{suc-mul}
use Rattle.std.proofs.lemmas.Bool.{cases_Bool, false≢true, or_cases, or_left, or_right, and_parts, and_from}
use Rattle.std.proofs.lemmas.List.{take_all, length-take, length-map}
use Rattle.run_laws.specs.Queue.{In}
use Rattle.run_laws.specs.Prefixes.{IsCount, IsGained}
use Rattle.run_laws.specs.Sharing.{prefixes, same_list}
use Rattle.run_laws.proofs.Lists.{in_append, append_old, append_new}
use Rattle.run_laws.proofs.Prefixes.{count_same}

-- ---- distinct_count, same_list

module _ {X : Type 0} (same : X → X → Bool) (decides : (x y : X) → Decides (same x y) (x ≡ y)) where
  -- a member is an element
  in_if_member : (x : X) (ys : List X) → is_member same ys x ≡ true → In x ys
  in_if_member x [] e = absurd (false≢true e)
  in_if_member x (y ∷ ys) e = elim (or_cases (same x y) (is_member same ys x) e) [
    | inl t ↦ inl ((decides x y).0 t)
    | inr t ↦ inr (in_if_member x ys t)
  ]

  -- and an element a member
  member_if_in : (x : X) (ys : List X) → In x ys → is_member same ys x ≡ true
  member_if_in x [] i = absurd i
  member_if_in x (y ∷ ys) (inl d) = or_left (same x y) (is_member same ys x) ((decides x y).1 d)
  member_if_in x (y ∷ ys) (inr i) = or_right (same x y) (is_member same ys x) (member_if_in x ys i)

  -- the number of different elements of a list
  pub distinct_is_count : (xs : List X) → IsCount (λ x. In x xs) (distinct_count same xs)
  distinct_is_count [] = record { members = []; apart = tt; exact = λ x i. i; all = λ x i. i; number = refl }
  distinct_is_count (x ∷ xs) =
      let h = distinct_is_count xs in
      elim (cases_Bool (is_member same xs x)) [
        | inl t ↦ record {
          members = h.members;
          apart = h.apart;
          exact = λ z i. inr (h.exact z i);
          all = λ z i. elim i [
            | inl d ↦ h.all z (subst (λ u. In u xs) (sym d) (in_if_member x xs t))
            | inr k ↦ h.all z k
          ];
          number = h.number ∙ ap length (sym (ap (λ b. cond b (unique_keys same xs) (x ∷ unique_keys same xs)) t));
        }
        | inr f ↦ record {
          members = x ∷ h.members;
          apart = (λ i. false≢true (sym f ∙ member_if_in x xs (h.exact x i)), h.apart);
          exact = λ z i. elim i [ inl d ↦ inl d | inr k ↦ inr (h.exact z k) ];
          all = λ z i. elim i [ inl d ↦ inl d | inr k ↦ inr (h.all z k) ];
          number = ap suc h.number ∙ ap length
              (sym (ap (λ b. cond b (unique_keys same xs) (x ∷ unique_keys same xs)) f));
        }
      ]

  -- lists that are the same element by element are equal
  same_list_true : (xs ys : List X) → same_list same xs ys ≡ true → xs ≡ ys
  same_list_true [] [] e = refl
  same_list_true [] (y ∷ ys) e = absurd (false≢true e)
  same_list_true (x ∷ xs) [] e = absurd (false≢true e)
  same_list_true (x ∷ xs) (y ∷ ys) e =
      let h = and_parts (same x y) (same_list same xs ys) e in
      let a : x ≡ y = (decides x y).0 h.0 in
      let b : xs ≡ ys = same_list_true xs ys h.1 in
      cc

  -- a list is the same as itself
  same_list_itself : (xs : List X) → same_list same xs xs ≡ true
  same_list_itself [] = refl
  same_list_itself (x ∷ xs) = and_from (same x x) (same_list same xs xs) ((decides x x).1 refl) (same_list_itself xs)

  -- lists are compared element by element
  pub same_list-Decides : (xs ys : List X) → Decides (same_list same xs ys) (xs ≡ ys)
  same_list-Decides xs ys = (same_list_true xs ys, λ e. subst (λ l. same_list same xs l ≡ true) e (same_list_itself xs))

-- ---- map, flat_map

-- an element of a mapped list comes from an element
pub in_map : {X Y : Type 0} (f : X → Y) (xs : List X) (y : Y) → In y (map f xs) → (x : X) × In x xs × (y ≡ f x)
in_map f [] y i = absurd i
in_map f (x ∷ xs) y (inl e) = (x, inl refl, e)
in_map f (x ∷ xs) y (inr i) = let h = in_map f xs y i in (h.0, inr h.1, h.2)

-- and each element has its image there
pub map_has : {X Y : Type 0} (f : X → Y) (xs : List X) (x : X) → In x xs → In (f x) (map f xs)
map_has f [] x i = absurd i
map_has f (y ∷ xs) x (inl e) = inl (ap f e)
map_has f (y ∷ xs) x (inr i) = inr (map_has f xs x i)

-- an element of the lists of the elements is in one of them
in_flat_map : {X Y : Type 0} (f : X → List Y) (xs : List X) (y : Y) → In y (flat_map f xs) →
    (x : X) × In x xs × In y (f x)
in_flat_map f [] y i = absurd i
in_flat_map f (x ∷ xs) y i = elim (in_append (f x) (flat_map f xs) y i) [
  | inl a ↦ (x, inl refl, a)
  | inr a ↦ let h = in_flat_map f xs y a in (h.0, inr h.1, h.2)
]

-- and an element of one of them is in all
flat_map_has : {X Y : Type 0} (f : X → List Y) (xs : List X) (x : X) (y : Y) → In x xs → In y (f x)
    → In y (flat_map f xs)
flat_map_has f [] x y i l = absurd i
flat_map_has f (z ∷ xs) x y (inl e) l = append_old (f z) (flat_map f xs) y (subst (λ u. In y (f u)) e l)
flat_map_has f (z ∷ xs) x y (inr i) l = append_new (f z) (flat_map f xs) y (flat_map_has f xs x y i l)

-- ---- prefixes

module _ {E : Type 0} where
  -- a listed prefix is a nonempty beginning of the list
  in_prefixes : (log p : List E) → In p (prefixes log) →
      (first : E) × (more : List E) × (rest : List E) × (p ≡ first ∷ more) × (log ≡ p ++ rest)
  in_prefixes [] p i = absurd i
  in_prefixes (e ∷ es) p (inl d) = (e, [], es, d, ap (λ u. u ++ es) (sym d))
  in_prefixes (e ∷ es) p (inr i) =
      let h = in_map (λ p. e ∷ p) (prefixes es) p i in
      let k = in_prefixes es h.0 h.1 in
      (e, h.0, k.2, h.2, ap (λ u. e ∷ u) k.4 ∙ ap (λ u. u ++ k.2) (sym h.2))

  -- each nonempty beginning is listed
  prefixes_have : (first : E) (more rest : List E) → In (first ∷ more) (prefixes (first ∷ (more ++ rest)))
  prefixes_have first [] rest = inl refl
  prefixes_have first (m ∷ more) rest = inr (map_has (λ p. first ∷ p) (prefixes (m ∷ (more ++ rest))) (m ∷ more)
      (prefixes_have m more rest))

  -- the prefixes of several logs
  prefix_of_logs : (logs : List (List E)) (p : List E) → In p (flat_map prefixes logs) →
      IsGained (λ l. In l logs) [] p
  prefix_of_logs logs p i =
      let h = in_flat_map prefixes logs p i in
      let k = in_prefixes h.0 p h.2 in
      record { log = h.0; is_log = h.1; first = k.0; more = k.1; rest = k.2; longer = k.3; prefix = k.4 }

  -- each prefix of one of them is listed
  pub logs_have_prefix : (logs : List (List E)) (p : List E) → IsGained (λ l. In l logs) [] p →
      In p (flat_map prefixes logs)
  logs_have_prefix logs p g =
      let here : In (g.first ∷ g.more) (prefixes (g.first ∷ (g.more ++ g.rest))) =
      prefixes_have g.first g.more g.rest in
      let is : g.log ≡ g.first ∷ (g.more ++ g.rest) = g.prefix ∙ ap (λ u. u ++ g.rest) g.longer in
      flat_map_has prefixes logs g.log p g.is_log
      (subst (λ l. In p (prefixes l)) (sym is)
      (subst (λ u. In u (prefixes (g.first ∷ (g.more ++ g.rest)))) (sym g.longer) here))

  -- the number of different nonempty prefixes of several logs
  pub prefixes_count : (same : E → E → Bool) (decides : (x y : E) → Decides (same x y) (x ≡ y)) (logs : List (List E)) →
      IsCount (IsGained (λ l. In l logs) []) (distinct_count (same_list same) (flat_map prefixes logs))
  prefixes_count same decides logs = count_same (λ p. In p (flat_map prefixes logs)) (IsGained (λ l. In l logs) [])
      (distinct_count (same_list same) (flat_map prefixes logs))
      (prefix_of_logs logs) (logs_have_prefix logs)
      (distinct_is_count (same_list same) (same_list-Decides same decides) (flat_map prefixes logs))

  -- a list has as many nonempty prefixes as elements
  length-prefixes : (l : List E) → length (prefixes l) ≡ length l
  length-prefixes [] = refl
  length-prefixes (e ∷ es) = ap suc (length-map (prefixes es) (λ p. e ∷ p) ∙ length-prefixes es)

  -- lists that are cut to length n have at most n prefixes each
  pub few_prefixes : (n : ℕ) (logs : List (List E)) → length (flat_map prefixes (map (take n) logs)) ≤ length logs * n
  few_prefixes n [] = omega arith
  few_prefixes n (l ∷ logs) =
      let h = few_prefixes n logs in
      let a = length-append (prefixes (take n l)) (flat_map prefixes (map (take n) logs)) in
      let b = length-prefixes (take n l) in
      let d = length-take n l in
      let m = suc-mul (length logs) n in
      omega (arith, h, a, b, d, m)

  -- lists that are short enough are not cut
  pub none_cut : (n : ℕ) (logs : List (List E)) → ((l : List E) → In l logs → length l ≤ n) → map (take n) logs ≡ logs
  none_cut n [] f = refl
  none_cut n (l ∷ logs) f =
      let a : take n l ≡ l = take_all n l (f l (inl refl)) in
      let b : map (take n) logs ≡ logs = none_cut n logs (λ k i. f k (inr i)) in
      cc
