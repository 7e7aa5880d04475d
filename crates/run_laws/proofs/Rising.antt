-- The trace of a run rises strictly by time, sender and number, since no two messages of a run have the same sender and
-- number.
use Rattle.std.proofs.Common.{◌≡◌, ℕ, suc, ◌<◌, min, List, [], ◌∷◌, ◌++◌, ◌⊎◌}
use Rattle.std.proofs.Common.{inl, inr, refl, sym, ap, ◌∙◌, subst, arith, map}
use Rattle.std.specs.declared.cmp.Ordering.TheVariants.{Less, Equal}
use Rattle.std.specs.List.{AllByRecursion}
use Rattle.std.proofs.lemmas.List.{map_push}
use Rattle.std.proofs.lemmas.Option.{same_Some}
use Rattle.sim_base.specs.Clones.{Clone}
use Rattle.sim_base.specs.declared.decision.Planned.{Planned}
use Rattle.sim_base.specs.declared.entry.Entry.{Entry}
use Rattle.sim_base.proofs.ListLaws.{all_push}
use Rattle.sim_base.proofs.OrderEqual.{three_same, ordering_then-lt}
use Rattle.sim_base.proofs.OrderLaws.{key_total}
use Rattle.run_laws.specs.Queue.{insert_all, In, Sorted}
use Rattle.run_laws.specs.Machine.{Config, config_after}
use Rattle.run_laws.specs.Simulation.{Simulation}
use Rattle.run_laws.specs.World.{World, put, world_step, first_messages, set_messages, first_world}
use Rattle.run_laws.specs.Runs.{end_of, run_of}
use Rattle.run_laws.specs.Handlers.{AllGood, IsStation, AreForStations, key_order}
use Rattle.run_laws.specs.Handlers.{HandlesLawfully, SendsToStations, HandlesFreshly}
use Rattle.run_laws.specs.Laws.{IsMessageOf}
use Rattle.run_laws.proofs.Queue.{all_in, all_from, in_insert_all, not_below_itself}
use Rattle.run_laws.proofs.Lists.{in_append, sorted_append}
use Rattle.run_laws.proofs.Running.{fine_keeps}
use Rattle.run_laws.proofs.Worlds.{put_cases, put_same, in_first_messages, in_set_messages}
use Rattle.run_laws.proofs.Worlds.{entry_of, world_lawful, begins_fine, run_reached}

-- ---- key_order

module _ {M : Type 0} (time sender number : M → ℕ) where
  -- keys that tie have the same sender and number
  key_same : (x y : M) → key_order time sender number x y ≡ Equal → (sender x ≡ sender y) × (number x ≡ number y)
  key_same x y e =
      let h = three_same (time x) (sender x) (number x) (time y) (sender y) (number y) e in
      (h.1, h.2)

module _ {S M N : Type 0} {sim : Simulation S M N} {Good : ℕ → S → Type 0} {sender number : M → ℕ} {next : S → ℕ}
    (law : HandlesLawfully sim Good) (stations : SendsToStations sim Good)
    (fresh : HandlesFreshly sim Good sender number next) where
  -- a world whose messages have senders and numbers of their own, and whose pending ones come after its trace
  pub record Fresh (w : Config (World S M N) M) : Type 0 where
    -- each message has a number that is used up; 0 sends nothing more
    pub used : (z : M) → IsMessageOf w z → (sender z ≡ 0) ⊎ (number z < next (w.at.states (sender z)))
    pub apart : (z y : M) → IsMessageOf w z → IsMessageOf w y → sender z ≡ sender y → number z ≡ number y → z ≡ y
    pub to_station : (z : M) → In z w.pending → IsStation sim (sim.to z)
    pub rising : Sorted (key_order sim.time sender number) (map (λ e. e.msg) w.at.trace)
    pub before : (z : M) → In z w.pending →
        AllByRecursion (λ x. key_order sim.time sender number x z ≡ Less) (map (λ e. e.msg) w.at.trace)

  -- a turn keeps a world so
  fresh_step : (x : World S M N) (m : M) (q : List M) → AllGood Good x → Sorted sim.order (m ∷ q) →
      Fresh (record { at = x; pending = m ∷ q }) → Fresh (config_after sim.order (world_step sim.to sim.handle) x m q)
  fresh_step x m q good s h =
      let r : ℕ = sim.to m in
      let st : S = x.states r in
      let g : Good r st = good r in
      let sent : List M = (sim.handle r st m).sends in
      let e : Entry M N = entry_of sim r st m in
      let here : IsStation sim r = h.to_station m (inl refl) in
      let above_0 : 0 < r = here.0 in
      let cases : (z : M) → In z (insert_all sim.order sent q)
      → In z sent ⊎ In z q = in_insert_all law.order.order sent q in
      -- each message was sent now, or was there
      let seen : (z : M) → IsMessageOf (config_after sim.order (world_step sim.to sim.handle) x m q) z
      → In z sent ⊎ IsMessageOf (record { at = x; pending = m ∷ q }) z = λ z i. elim i [
        | inl j ↦ elim (in_append (map (λ e. e.msg) x.trace) (m ∷ []) z
            (subst (In z) (map_push (λ e. e.msg) x.trace e) j)) [
              | inl k ↦ inr (inl k)
              | inr k ↦ elim k [ inl d ↦ inr (inr (inl d)) | inr n ↦ absurd n ]
            ]
        | inr j ↦ elim (cases z j) [ inl k ↦ inl k | inr k ↦ inr (inr (inr k)) ]
      ] in
      -- the sends have numbers that no message had
      let new : (z y : M) → In z sent → IsMessageOf (record { at = x; pending = m ∷ q }) y → sender z ≡ sender y
      → number z ≡ number y → ⊥ = λ z y i j e n.
      let sz = fresh.mine r st m z here g i in
      let lz = fresh.low r st m z here g i in
      elim (h.used y j) [
        | inl a ↦ omega (arith, above_0)
        | inr a ↦ let b = subst (λ r. number y < next (x.states r)) (sym e ∙ sz) a in omega arith
      ] in
      -- all pending messages then come after the handled ones
      let above : (z : M) → In z (insert_all sim.order sent q) → key_order sim.time sender number m z ≡ Less =
      λ z i. elim (cases z i) [
        | inl j ↦ ordering_then-lt (sim.time m) (sim.time z) _
            (all_in (λ x. sim.time m < sim.time x) sent z (law.later r st m g) j)
        | inr j ↦ let l = all_in (λ y. sim.order m y ≡ Less) q z s.0 j in elim (fresh.keyed m z l) [
          | inl e ↦ e
          | inr e ↦ let k = key_same sim.time sender number m z e in let d =
              h.apart m z (inr (inl refl)) (inr (inr j)) k.0 k.1 in
              absurd (not_below_itself law.order.order.total m (subst (λ y. sim.order m y ≡ Less) (sym d) l))
        ]
      ] in
      record {
        used = λ z i. elim (seen z i) [
          | inl j ↦ inr (subst (λ t. number z < next (put x.states r (sim.handle r st m).state t))
              (sym (fresh.mine r st m z here g j))
              (subst (λ u. number z < next u) (sym (put_same x.states r (sim.handle r st m).state r refl))
              (fresh.high r st m z here g j)))
          | inr j ↦ elim (h.used z j) [
            | inl a ↦ inl a
            | inr a ↦ inr (put_cases (λ t u. number z < next (x.states t) → number z < next u) x.states r
                (sim.handle r st m).state (λ l. let up = fresh.rises r st m here g in omega arith) (λ t n l. l)
                (sender z) a)
          ]
        ];
        apart = λ z y i j e n. elim (seen z i) [
          | inl a ↦ elim (seen y j) [ inl b ↦ fresh.apart r st m z y here g a b n | inr b ↦ absurd (new z y a b e n) ]
          | inr a ↦ elim (seen y j) [ inl b ↦ absurd (new y z b a (sym e) (sym n)) | inr b ↦ h.apart z y a b e n ]
        ];
        to_station = λ z i. elim (cases z i) [
          | inl j ↦ stations.sends r st m z here g j
          | inr j ↦ h.to_station z (inr j)
        ];
        rising = subst (Sorted (key_order sim.time sender number)) (sym (map_push (λ e. e.msg) x.trace e))
            (sorted_append (key_order sim.time sender number) (map (λ e. e.msg) x.trace) m h.rising
            (h.before m (inl refl)));
        before = λ z i. subst (AllByRecursion (λ y. key_order sim.time sender number y z ≡ Less))
            (sym (map_push (λ e. e.msg) x.trace e))
            (all_push (λ y. key_order sim.time sender number y z ≡ Less) (map (λ e. e.msg) x.trace) m
            (all_from (λ y. key_order sim.time sender number y z ≡ Less) (map (λ e. e.msg) x.trace)
            (λ y j. (key_total sim.time sender number).trans y m z
            (all_in (λ y. key_order sim.time sender number y m ≡ Less) (map (λ e. e.msg) x.trace) y
            (h.before m (inl refl)) j) (above z i)))
            (above z i));
      }

  -- no two decisions have one number
  set_messages_apart : (k : ℕ) (plans : List Planned) (z y : M) →
      In z (set_messages sim k plans) → In y (set_messages sim k plans) →
      number z ≡ number y → z ≡ y
  set_messages_apart k [] z y i j n = absurd i
  set_messages_apart k (p ∷ ps) z y (inl e) (inl f) n = e ∙ sym f
  set_messages_apart k (p ∷ ps) z y (inl e) (inr j) n =
      let h = in_set_messages sim (suc k) ps y j in
      let l = h.2 in
      let a : number z ≡ k = ap number e ∙ (fresh.set_message k p).1 in
      let b : number y ≡ h.0 = ap number h.4 ∙ (fresh.set_message h.0 h.1).1 in
      absurd (omega (arith, n, a, b))
  set_messages_apart k (p ∷ ps) z y (inr i) (inl f) n =
      let h = in_set_messages sim (suc k) ps z i in
      let l = h.2 in
      let a : number y ≡ k = ap number f ∙ (fresh.set_message k p).1 in
      let b : number z ≡ h.0 = ap number h.4 ∙ (fresh.set_message h.0 h.1).1 in
      absurd (omega (arith, n, a, b))
  set_messages_apart k (p ∷ ps) z y (inr i) (inr j) n = set_messages_apart (suc k) ps z y i j n

  -- a world starts like this if its decisions are for stations
  pub begins_fresh : (plans : List Planned) → AreForStations sim plans → Fresh (first_world sim plans)
  begins_fresh plans there =
      let first : List M = first_messages sim sim.stations in
      let late : List M = set_messages sim 0 plans in
      let cases : (z : M) → In z (first_world sim plans).pending → In z first ⊎ In z late =
      λ z i. elim (in_insert_all law.order.order (first ++ late) [] z i) [
        | inl j ↦ in_append first late z j
        | inr j ↦ absurd j
      ] in
      let seen : (z : M) → IsMessageOf (first_world sim plans) z → In z first ⊎ In z late =
      λ z i. elim i [ inl n ↦ absurd n | inr j ↦ cases z j ] in
      let analyst : (z : M) → In z late → sender z ≡ 0 = λ z i. let h = in_set_messages sim 0 plans z i in
      ap sender h.4 ∙ (fresh.set_message h.0 h.1).0 in
      let own : (z : M) → In z first → 0 < sender z = λ z i. let h = in_first_messages sim sim.stations z i in let l =
      h.1.0 in let e = (fresh.opened h.0 z h.1 h.2).0 in omega (arith, e, l) in
      record {
        used = λ z i. elim (seen z i) [
          | inl j ↦ let h = in_first_messages sim sim.stations z j in let f =
              fresh.opened h.0 z h.1 h.2 in inr (subst (λ r. number z < next (sim.setup r).state) (sym f.0) f.1)
          | inr j ↦ inl (analyst z j)
        ];
        apart = λ z y i j e n. elim (seen z i) [
          | inl a ↦ elim (seen y j) [
            | inl b ↦ let h = in_first_messages sim sim.stations z a in
                let k = in_first_messages sim sim.stations y b in
                let same : h.0 ≡ k.0 = sym (fresh.opened h.0 z h.1 h.2).0 ∙ e ∙ (fresh.opened k.0 y k.1 k.2).0 in
                same_Some z y (sym h.2 ∙ ap (λ r. (sim.setup r).first) same ∙ k.2)
            | inr b ↦ let o = own z a in let t = analyst y b in absurd (omega (arith, e, o, t))
          ]
          | inr a ↦ elim (seen y j) [
            | inl b ↦ let o = own y b in let t = analyst z a in absurd (omega (arith, e, o, t))
            | inr b ↦ set_messages_apart 0 plans z y a b n
          ]
        ];
        to_station = λ z i. elim (cases z i) [
          | inl j ↦ let h = in_first_messages sim sim.stations z j in
              subst (IsStation sim) (sym (stations.first h.0 z h.1 h.2)) h.1
          | inr j ↦ let h = in_set_messages sim 0 plans z j in
              subst (IsStation sim) (sym (ap sim.to h.4 ∙ stations.set_message h.0 h.1))
              (all_in (λ p. IsStation sim p.station) plans h.1 there h.3)
        ];
        rising = tt;
        before = λ z i. tt;
      }

  -- a run is so at each front
  run_fresh : (c : Clone) (front : ℕ) → AreForStations sim c.plans → Fresh (run_of sim c front)
  run_fresh c front there =
      fine_keeps law.order (world_lawful law) 0 Fresh (begins_fresh c.plans there)
      (λ x m q f early h. fresh_step x m q f.good f.sorted h) (begins_fine law c.plans)
      (run_reached law c.plans (min front (end_of sim c))).0

  -- the trace of a clone rises strictly by time, sender and number
  pub trace_rises : (c : Clone) (front : ℕ) → AreForStations sim c.plans →
      Sorted (key_order sim.time sender number) (map (λ e. e.msg) (run_of sim c front).at.trace)
  trace_rises c front there = (run_fresh c front there).rising

  -- and no two of its messages have the same sender and number
  pub numbers_are_once : (c : Clone) (front : ℕ) (z y : M) → AreForStations sim c.plans →
      IsMessageOf (run_of sim c front) z → IsMessageOf (run_of sim c front) y → sender z ≡ sender y →
      number z ≡ number y → z ≡ y
  numbers_are_once c front z y there = (run_fresh c front there).apart z y
