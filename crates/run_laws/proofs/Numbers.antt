-- The sequence numbers of a run's messages, by induction over its turns.
use Rattle.std.proofs.Common.{◌≡◌, ℕ, suc, ◌+◌, ◌*◌, ◌<◌, ◌≤◌, min, List, [], ◌∷◌, ◌++◌}
use Rattle.std.proofs.Common.{◌⊎◌, inl, inr, refl, sym, ap, ◌∙◌, subst, arith, map, length, length-append}
use Rattle.std.specs.declared.cmp.Ordering.{Ordering}
use Rattle.std.specs.declared.cmp.Ordering.TheVariants.{Less}
use Rattle.std.specs.Cmp.{IsTotalOrder, tied_itself}
use Rattle.std.proofs.Math.Nat.{mul-le-mul_left}
use Rattle.std.proofs.lemmas.List.{map_push}
use Rattle.std.proofs.lemmas.Bool.{cases_lt}
use Rattle.sim_base.specs.Clones.{Clone}
use Rattle.sim_base.specs.declared.decision.Planned.{Planned}
use Rattle.sim_base.specs.declared.entry.Entry.{Entry}
use Rattle.sim_base.proofs.OrderLaws.{key_total}
use Rattle.run_laws.specs.Queue.{In, Sorted}
use Rattle.run_laws.specs.Machine.{Config, config_after}
use Rattle.run_laws.specs.Simulation.{Simulation}
use Rattle.run_laws.specs.World.{World, log_of, put, world_step, first_messages, set_messages, first_world}
use Rattle.run_laws.specs.Runs.{run, end_of, run_of, log_at}
use Rattle.run_laws.specs.Sharing.{IsWithinLimit}
use Rattle.run_laws.specs.Handlers.{AllGood, IsStation, AreForStations, key_order}
use Rattle.run_laws.specs.Handlers.{HandlesLawfully, SendsToStations, HandlesFreshly}
use Rattle.run_laws.specs.Laws.{IsMessageOf}
use Rattle.run_laws.specs.Numbers.{UsesFewNumbers}
use Rattle.run_laws.proofs.Queue.{all_in, in_insert_all}
use Rattle.run_laws.proofs.Lists.{in_append}
use Rattle.run_laws.proofs.Counts.{map_has}
use Rattle.run_laws.proofs.Running.{fine_keeps}
use Rattle.run_laws.proofs.Worlds.{put_cases, put_same, log_here, log_there, in_first_messages}
use Rattle.run_laws.proofs.Worlds.{entry_of, world_lawful, begins_fine, run_reached}
use Rattle.run_laws.proofs.Rising.{begins_fresh, trace_rises, numbers_are_once}

-- ---- In

-- the elements of a list with one more at the end
in_push : {X : Type 0} (xs : List X) (x z : X) → In z (xs ++ x ∷ []) → In z xs ⊎ (z ≡ x)
in_push xs x z i = elim (in_append xs (x ∷ []) z i) [
  | inl j ↦ inl j
  | inr j ↦ elim j [ inl e ↦ inr e | inr k ↦ absurd k ]
]

module _ {X Y : Type 0} (f : X → Y) (cmp : Y → Y → Ordering) (total : IsTotalOrder cmp) where
  -- an element before another differs from it
  Sorted-differ : (x : X) (xs : List X) (y : X) → Sorted cmp (map f (x ∷ xs)) → In y xs → f x ≡ f y → ⊥
  Sorted-differ x xs y s i e =
      let l : cmp (f x) (f y) ≡ Less = all_in (λ y. cmp (f x) y ≡ Less) (map f xs) (f y) s.0 (map_has f xs y i) in
      let k : cmp (f x) (f x) ≡ Less = subst (λ w. cmp (f x) w ≡ Less) (sym e) l in
      let t = tied_itself total (f x) in
      cc

  -- elements with the same image are equal if the images rise
  same_image : (xs : List X) (x y : X) → Sorted cmp (map f xs) → In x xs → In y xs → f x ≡ f y → x ≡ y
  same_image [] x y s i j e = absurd i
  same_image (z ∷ zs) x y s (inl a) (inl b) e = a ∙ sym b
  same_image (z ∷ zs) x y s (inl a) (inr j) e = absurd (Sorted-differ z zs y s j (ap f (sym a) ∙ e))
  same_image (z ∷ zs) x y s (inr i) (inl b) e = absurd (Sorted-differ z zs x s i (ap f (sym b) ∙ sym e))
  same_image (z ∷ zs) x y s (inr i) (inr j) e = same_image zs x y s.1 i j e

-- ---- HasUsedNumbers

module _ {S M N : Type 0} {sim : Simulation S M N} {Good : ℕ → S → Type 0} {sender number : M → ℕ} {next : S → ℕ}
    (law : HandlesLawfully sim Good) (stations : SendsToStations sim Good)
    (fresh : HandlesFreshly sim Good sender number next) where
  -- the world after station r handled m
  abbrev later_world : World S M N → M → List M → Config (World S M N) M
  later_world x m q = config_after sim.order (world_step sim.to sim.handle) x m q

  -- a world whose messages have numbers that are used up
  pub record HasUsedNumbers (plans : List Planned) (w : Config (World S M N) M) : Type 0 where
    pub used : (z : M) → IsMessageOf w z →
        ((sender z ≡ 0) × (number z < length plans))
        ⊎ (IsStation sim (sender z) × (number z < next (w.at.states (sender z))))
    pub to_station : (z : M) → In z w.pending → IsStation sim (sim.to z)

  -- a message after a turn is one from before it, or was sent in it
  of_later : (x : World S M N) (m : M) (q : List M) (z : M) → IsMessageOf (later_world x m q) z →
      In z (sim.handle (sim.to m) (x.states (sim.to m)) m).sends ⊎ IsMessageOf (record { at = x; pending = m ∷ q }) z
  of_later x m q z (inl i) =
      let msgs : List M = map (λ e. e.msg) x.trace in
      let e : Entry M N = entry_of sim (sim.to m) (x.states (sim.to m)) m in
      elim (in_push msgs m z (subst (In z) (map_push (λ e. e.msg) x.trace e) i)) [
        | inl j ↦ inr (inl j)
        | inr j ↦ inr (inr (inl j))
      ]
  of_later x m q z (inr i) = elim (in_insert_all law.order.order (sim.handle (sim.to m) (x.states (sim.to m)) m).sends
      q z i) [
        | inl j ↦ inl j
        | inr j ↦ inr (inr (inr j))
      ]

  -- a turn keeps a world so
  used_numbers-step : (plans : List Planned) (x : World S M N) (m : M) (q : List M) → AllGood Good x →
      HasUsedNumbers plans (record { at = x; pending = m ∷ q }) → HasUsedNumbers plans (later_world x m q)
  used_numbers-step plans x m q good h =
      let r : ℕ = sim.to m in
      let st : S = x.states r in
      let g : Good r st = good r in
      let st2 : S = (sim.handle r st m).state in
      let sent : List M = (sim.handle r st m).sends in
      let here : IsStation sim r = h.to_station m (inl refl) in
      record {
        used = λ z i. elim (of_later x m q z i) [
          | inl j ↦ inr (
            subst (IsStation sim) (sym (fresh.mine r st m z here g j)) here,
            subst (λ t. number z < next (put x.states r st2 t)) (sym (fresh.mine r st m z here g j))
                (subst (λ u. number z < next u) (sym (put_same x.states r st2 r refl)) (fresh.high r st m z here g j)),
          )
          | inr j ↦ elim (h.used z j) [
            | inl a ↦ inl a
            | inr a ↦ inr (
              a.0,
              put_cases (λ t u. number z < next (x.states t) → number z < next u) x.states r st2
                  (λ l. let up = fresh.rises r st m here g in omega arith) (λ t n l. l) (sender z) a.1,
            )
          ]
        ];
        to_station = λ z i. elim (in_insert_all law.order.order sent q z i) [
          | inl j ↦ stations.sends r st m z here g j
          | inr j ↦ h.to_station z (inr j)
        ];
      }

  -- a decision has its place in the list as its number
  set_messages_low : (k : ℕ) (plans : List Planned) (z : M) → In z (set_messages sim k plans) →
      (sender z ≡ 0) × (number z < k + length plans)
  set_messages_low k [] z i = absurd i
  set_messages_low k (p ∷ ps) z (inl e) =
      let d = fresh.set_message k p in
      let n : number z ≡ k = ap number e ∙ d.1 in
      (ap sender e ∙ d.0, omega (arith, n))
  set_messages_low k (p ∷ ps) z (inr i) =
      let h = set_messages_low (suc k) ps z i in let n = h.1 in (h.0, omega (arith, n))

  -- a world starts like this if its decisions are for stations
  used_numbers-first_world : (plans : List Planned) → AreForStations sim plans →
      HasUsedNumbers plans (first_world sim plans)
  used_numbers-first_world plans there =
      let h = begins_fresh law stations fresh plans there in
      let first : List M = first_messages sim sim.stations in
      let pending : (z : M) → IsMessageOf (first_world sim plans) z → In z (first_world sim plans).pending =
      λ z i. elim i [ inl j ↦ absurd j | inr j ↦ j ] in
      record {
        used = λ z i. elim (in_insert_all law.order.order (first ++ set_messages sim 0 plans) [] z (pending z i)) [
          | inl j ↦ elim (in_append first (set_messages sim 0 plans) z j) [
            | inl k ↦
                let o = in_first_messages sim sim.stations z k in
                let f = fresh.opened o.0 z o.1 o.2 in
                inr (
                  subst (IsStation sim) (sym f.0) o.1,
                  subst (λ r. number z < next (sim.setup r).state)
                      (sym f.0) f.1,
                )
            | inr k ↦ let p = set_messages_low 0 plans z k in let n = p.1 in inl (p.0, omega (arith, n))
          ]
          | inr j ↦ absurd j
        ];
        to_station = h.to_station;
      }

  -- a run is so at each front
  pub used_numbers-run : (plans : List Planned) (front : ℕ) → AreForStations sim plans →
      HasUsedNumbers plans (run sim plans front)
  used_numbers-run plans front there = fine_keeps law.order (world_lawful law) 0 (HasUsedNumbers plans)
      (used_numbers-first_world plans there)
      (λ x m q f early h. used_numbers-step plans x m q f.good h)
      (begins_fine law plans) (run_reached law plans front).0

  module _ (c : Clone) (front : ℕ) (there : AreForStations sim c.plans) where
    -- no two entries have the same sender and number
    pub entries_apart : (e f : Entry M N) → In e (run_of sim c front).at.trace → In f (run_of sim c front).at.trace →
        sender e.msg ≡ sender f.msg → number e.msg ≡ number f.msg → e ≡ f
    entries_apart e f i j s n =
        let trace : List (Entry M N) = (run_of sim c front).at.trace in
        let handled : (g : Entry M N) → In g trace → In g.msg (map (λ e. e.msg) trace) =
        λ g k. map_has (λ e. e.msg) trace g k in
        let same : e.msg ≡ f.msg = numbers_are_once law stations fresh c front e.msg f.msg there (inl (handled e i))
        (inl (handled f j)) s n in
        same_image (λ e. e.msg) (key_order sim.time sender number) (key_total sim.time sender number) trace e f
        (trace_rises law stations fresh c front there) i j same

  -- ---- NumbersAreLow, NumbersFit

  module _ {most : ℕ} (few : UsesFewNumbers sim Good next most) where
    -- each station's next number is at most `most` times the messages that it handled and one
    abbrev Low : World S M N → Type 0
    Low w = (s : ℕ) → IsStation sim s → next (w.states s) ≤ most * (length (log_of sim.to s w.trace) + 1)

    -- one more is handled, and the next number grows by `most` at most
    more : (k n u v : ℕ) → u ≤ most * (k + 1) → v ≤ u + most → n ≡ k + 1 → v ≤ most * (n + 1)
    more k n u v a b e = subst (λ n. v ≤ most * (n + 1)) (sym e) (grind (arith, a, b))

    -- a turn keeps them so
    low_step : (plans : List Planned) (x : World S M N) (m : M) (q : List M) → AllGood Good x
        → IsStation sim (sim.to m) →
        Low x → Low (later_world x m q).at
    low_step plans x m q good there low s is_station =
        let r : ℕ = sim.to m in
        let st : S = x.states r in
        let e : Entry M N = entry_of sim r st m in
        put_cases (λ t u. IsStation sim t → next u ≤ most * (length (log_of sim.to t (x.trace ++ e ∷ [])) + 1))
        x.states r (sim.handle r st m).state
        (λ here. more (length (log_of sim.to r x.trace)) (length (log_of sim.to r (x.trace ++ e ∷ []))) (next st)
        (next (sim.handle r st m).state)
        (low r here) (few.grows r st m here (good r))
        (ap length (log_here sim.to r x.trace e refl) ∙ length-append (log_of sim.to r x.trace) (e ∷ [])))
        (λ t n here. subst (λ l. next (x.states t) ≤ most * (length l + 1))
        (sym (log_there sim.to t x.trace e (λ d. n (sym d)))) (low t here))
        s is_station

    module _ (c : Clone) (front : ℕ) (there : AreForStations sim c.plans) where
      -- the next numbers of a run
      next_low : Low (run_of sim c front).at
      next_low = (fine_keeps law.order (world_lawful law) 0 (λ w. HasUsedNumbers c.plans w × Low w.at)
          (used_numbers-first_world c.plans there, λ s is_station. let o = few.opens s is_station in grind (arith, o))
          (λ x m q f early h. (
            used_numbers-step c.plans x m q f.good h.0,
            low_step c.plans x m q f.good (h.0.to_station m (inl refl)) h.1,
          ))
          (begins_fine law c.plans) (run_reached law c.plans (min front (end_of sim c))).0).1

      -- how high the number of a message is
      pub numbers_low : (m : M) → IsMessageOf (run_of sim c front) m →
          ((sender m ≡ 0) × (number m < length c.plans)) ⊎
          (IsStation sim (sender m) × (number m < most * (length (log_at sim c (sender m) front) + 1)))
      numbers_low m i = elim ((used_numbers-run c.plans (min front (end_of sim c)) there).used m i) [
        | inl a ↦ inl a
        | inr a ↦ let l = next_low (sender m) a.0 in let k = a.1 in inr (a.0, omega (arith, l, k))
      ]

      -- below a bound, if no log is beyond the limit
      pub numbers_fit : (bound : ℕ) (m : M) → IsWithinLimit sim front c →
          length c.plans ≤ bound → most * (sim.limit + 1) ≤ bound → IsMessageOf (run_of sim c front) m
          → number m < bound
      numbers_fit bound m within short enough i = elim (numbers_low m i) [
        | inl a ↦ let k = a.1 in omega (arith, k, short)
        | inr a ↦ elim (cases_lt sim.limit (length (log_at sim c (sender m) front))) [
          | inl l ↦ absurd (within (sender m) a.0 l)
          | inr l ↦
              let n : ℕ = length (log_at sim c (sender m) front) in
              let k = a.1 in
              let up : most * (n + 1) ≤ most * (sim.limit + 1) = mul-le-mul_left most (omega arith) in
              omega (arith, k, up, enough)
        ]
      ]
