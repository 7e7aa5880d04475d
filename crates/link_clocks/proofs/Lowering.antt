-- Each link lowers the bound of the station that it leads to.
use Rattle.std.proofs.Common.{◌≡◌, ℕ, ◌+◌, ◌-◌, ◌<◌, ◌≤◌, ◌==◌, min, List, [], ◌∷◌, ◌++◌, inl, inr, cond}
use Rattle.std.proofs.Common.{sym, ap, ◌∙◌, arith, map, length, slice_index, slice_set, eq-eqb}
use Rattle.std.proofs.Common.{append-nil}
use Rattle.std.specs.List.{filter}
use Rattle.std.proofs.lemmas.Bool.{cases_eq, ne_eqb}
use Rattle.std.proofs.lemmas.List.{get_or-set_same, get_or-set_other, map-append}
use Rattle.std.proofs.lemmas.List.Elements.{filter-append}
use Rattle.net_model.specs.declared.station.Link.{Link}
use Rattle.link_laws.specs.Clocks.{least_with}
use Rattle.link_clocks.specs.NetClocks.{delays_to, AreLowered}

least_with-push : (t : ℕ) (ds : List ℕ) (d b : ℕ) → least_with t (ds ++ d ∷ []) b ≡ min (least_with t ds b) (t + d)
least_with-push t [] d b = omega arith
least_with-push t (e ∷ ds) d b = let h = least_with-push t ds d b in omega (arith, h)

-- one more link to the station
delays_here : (xs : List Link) (l : Link) (s : ℕ) → l.to ≡ s → delays_to (xs ++ l ∷ []) s ≡ delays_to xs s ++ l.delay
    ∷ []
delays_here xs l s e =
    ap (map (λ (l : Link). l.delay)) (filter-append (λ (l : Link). l.to == s) xs (l ∷ [])
    ∙ ap (λ b. filter (λ (l : Link). l.to == s) xs ++ cond b (l ∷ []) []) (eq-eqb l.to s e))
    ∙ map-append (λ (l : Link). l.delay) (filter (λ (l : Link). l.to == s) xs) (l ∷ [])

-- one more link to another station
delays_there : (xs : List Link) (l : Link) (s : ℕ) → (l.to ≡ s → ⊥) → delays_to (xs ++ l ∷ []) s ≡ delays_to xs s
delays_there xs l s n =
    ap (map (λ (l : Link). l.delay)) (filter-append (λ (l : Link). l.to == s) xs (l ∷ [])
    ∙ ap (λ b. filter (λ (l : Link). l.to == s) xs ++ cond b (l ∷ []) []) (ne_eqb l.to s n)
    ∙ append-nil (filter (λ (l : Link). l.to == s) xs))

-- the bounds after a link
pub record IsOver (l : Link) (x time : ℕ) (now after : List ℕ) : Type 0 where
  pub long : length after ≡ length now
  pub own : l.to ≡ x → after ≡ now
  pub other : (l.to ≡ x → ⊥) → after ≡ slice_set now (l.to - 1) (min (slice_index now (l.to - 1)) (time + l.delay))

-- one more link
pub lowered_more : (xs : List Link) (l : Link) (x time : ℕ) (old now after : List ℕ) → 1 ≤ l.to → l.to ≤ length old →
    AreLowered xs x time old now → IsOver l x time now after → AreLowered (xs ++ l ∷ []) x time old after
lowered_more xs l x time old now after low high h over = record {
  count = over.long ∙ h.count;
  each = λ i inside. elim (cases_eq x (i + 1)) [
    | inl e ↦
        let was : slice_index now i ≡ slice_index old i = h.each i inside
        ∙ ap (λ b. cond b (slice_index old i) (least_with time (delays_to xs (i + 1)) (slice_index old i)))
        (eq-eqb x (i + 1) e) in
        let is : slice_index after i ≡ slice_index now i = elim (cases_eq l.to x) [
          | inl k ↦ ap (λ v. slice_index v i) (over.own k)
          | inr k ↦ apart i k (λ d. k (d ∙ sym e))
        ] in
        is ∙ was ∙ ap (λ b. cond b (slice_index old i)
        (least_with time (delays_to (xs ++ l ∷ []) (i + 1)) (slice_index old i))) (sym (eq-eqb x (i + 1) e))
    | inr n ↦
        let was : slice_index now i ≡ least_with time (delays_to xs (i + 1)) (slice_index old i) = h.each i inside
        ∙ ap (λ b. cond b (slice_index old i) (least_with time (delays_to xs (i + 1)) (slice_index old i)))
        (ne_eqb x (i + 1) n) in
        let goal : slice_index after i ≡ least_with time (delays_to (xs ++ l ∷ []) (i + 1)) (slice_index old i) =
        elim (cases_eq l.to (i + 1)) [
          | inl d ↦
              let m : l.to ≡ x → ⊥ = λ k. n (sym k ∙ d) in
              let place : l.to - 1 ≡ i = omega (arith, d) in
              let room : i < length now = let c = h.count in omega (arith, c, inside) in
              let is : slice_index after i ≡ min (slice_index now i) (time + l.delay) =
              ap (λ v. slice_index v i) (over.other m)
              ∙ ap (λ p. slice_index (slice_set now p (min (slice_index now p) (time + l.delay))) i) place
              ∙ get_or-set_same now i (min (slice_index now i) (time + l.delay)) 0 room in
              is ∙ ap (λ v. min v (time + l.delay)) was
              ∙ sym (least_with-push time (delays_to xs (i + 1)) l.delay (slice_index old i))
              ∙ ap (λ ds. least_with time ds (slice_index old i)) (sym (delays_here xs l (i + 1) d))
          | inr d ↦
              let is : slice_index after i ≡ slice_index now i = elim (cases_eq l.to x) [
                | inl k ↦ ap (λ v. slice_index v i) (over.own k)
                | inr k ↦ apart i k d
              ] in
              is ∙ was ∙ ap (λ ds. least_with time ds (slice_index old i)) (sym (delays_there xs l (i + 1) d))
        ] in
        goal ∙ ap (λ b. cond b (slice_index old i)
        (least_with time (delays_to (xs ++ l ∷ []) (i + 1)) (slice_index old i))) (sym (ne_eqb x (i + 1) n))
  ];
}
  where
    -- the bounds of other stations are unchanged
    apart : (i : ℕ) → (l.to ≡ x → ⊥) → (l.to ≡ i + 1 → ⊥) → slice_index after i ≡ slice_index now i
    apart i k d = ap (λ v. slice_index v i) (over.other k)
        ∙ get_or-set_other now (l.to - 1) i (min (slice_index now (l.to - 1)) (time + l.delay)) 0
        (λ e. d (omega (arith, e, low)))
