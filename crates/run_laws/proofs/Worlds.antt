-- The world of a clone, turn by turn: its states and logs, and its start.
use Rattle.std.proofs.Common.{◌≡◌, ℕ, zero, suc, ◌<◌, ◌≤◌, List, [], ◌∷◌, ◌++◌, ◌⊎◌, inl, inr}
use Rattle.std.proofs.Common.{cond, refl, sym, ap, ◌∙◌, subst, arith, ◌==◌, eq-eqb, append-nil, Option, Some, None}
use Rattle.std.proofs.lemmas.List.Elements.{filter-append}
use Rattle.std.proofs.lemmas.Bool.{cases_eq, ne_eqb}
use Rattle.sim_base.specs.declared.decision.Planned.{Planned}
use Rattle.sim_base.specs.declared.entry.Entry.{Entry}
use Rattle.run_laws.specs.Queue.{In}
use Rattle.run_laws.specs.Machine.{Reach}
use Rattle.run_laws.specs.Simulation.{Simulation}
use Rattle.run_laws.specs.World.{to_it, log_of, put, world_step, and_first, first_messages, set_messages, first_world}
use Rattle.run_laws.specs.Window.{local_step}
use Rattle.run_laws.specs.Runs.{run}
use Rattle.run_laws.specs.Handlers.{IsLawful, AllGood, HandlesLawfully, IsStationOf}
use Rattle.run_laws.proofs.Queue.{all_in, all_from, sorted_insert_all}
use Rattle.run_laws.proofs.Lists.{in_own, in_append}
use Rattle.run_laws.proofs.Running.{Fine, all_from_zero, run_reach, run_on}

-- ---- put

-- at its place is the new value
pub put_same : {A : Type 0} (f : ℕ → A) (r : ℕ) (v : A) (s : ℕ) → s ≡ r → put f r v s ≡ v
put_same f r v s e = rw (eq-eqb s r e)

-- and each other one stays
pub put_other : {A : Type 0} (f : ℕ → A) (r : ℕ) (v : A) (s : ℕ) → (s ≡ r → ⊥) → put f r v s ≡ f s
put_other f r v s n = rw (ne_eqb s r n)

-- a property of the new value, and of the unchanged others, holds of each
pub put_cases : {A : Type 0} (P : ℕ → A → Type 0) (f : ℕ → A) (r : ℕ) (v : A) → P r v →
    ((s : ℕ) → (s ≡ r → ⊥) → P s (f s)) → (s : ℕ) → P s (put f r v s)
put_cases P f r v a b s = elim (cases_eq s r) [
  | inl e ↦ subst (P s) (sym (put_same f r v s e)) (subst (λ t. P t v) (sym e) a)
  | inr n ↦ subst (P s) (sym (put_other f r v s n)) (b s n)
]

-- ---- log_of

module _ {M N : Type 0} (to : M → ℕ) where
  -- a station's log has its own new entry
  pub log_here : (s : ℕ) (es : List (Entry M N)) (e : Entry M N) → to e.msg ≡ s →
      log_of to s (es ++ e ∷ []) ≡ log_of to s es ++ e ∷ []
  log_here s es e h = filter-append (λ e. to e.msg == s) es (e ∷ []) ∙ ap (λ b. log_of to s es ++ cond b (e ∷ []) [])
      (eq-eqb (to e.msg) s h)

  -- and not another's
  pub log_there : (s : ℕ) (es : List (Entry M N)) (e : Entry M N) → (to e.msg ≡ s → ⊥) →
      log_of to s (es ++ e ∷ []) ≡ log_of to s es
  log_there s es e h = filter-append (λ e. to e.msg == s) es (e ∷ []) ∙ ap (λ b. log_of to s es ++ cond b (e ∷ []) [])
      (ne_eqb (to e.msg) s h) ∙ append-nil (log_of to s es)

-- ---- first_messages, set_messages

module _ {S M N : Type 0} (sim : Simulation S M N) where
  -- the entry of a message that is handled in a state
  abbrev pub entry_of : ℕ → S → M → Entry M N
  entry_of s st m = record { msg = m; line = (sim.handle s st m).line }

  -- a first message is one of those before, or the station's own
  first_in : (ms : List M) (f : Option M) (z : M) → In z (and_first sim ms f) → In z ms ⊎ (f ≡ Some z)
  first_in ms None z i = inl i
  first_in ms (Some m) z i = elim (in_append ms (m ∷ []) z i) [
    | inl j ↦ inl j
    | inr j ↦ elim j [ inl e ↦ inr (ap Some (sym e)) | inr k ↦ absurd k ]
  ]

  -- it is the first message of one of the stations
  pub in_first_messages : (n : ℕ) (z : M) → In z (first_messages sim n) →
      (s : ℕ) × IsStationOf n s × ((sim.setup s).first ≡ Some z)
  in_first_messages zero z i = absurd i
  in_first_messages (suc n) z i = elim (first_in (first_messages sim n) (sim.setup (suc n)).first z i) [
    | inl j ↦ let h = in_first_messages n z j in let above : 0 < h.0 = h.1.0 in let most : h.0 ≤ n = h.1.1 in
        (h.0, (omega arith, omega arith), h.2)
    | inr e ↦ (suc n, (omega arith, omega arith), e)
  ]

  -- a planned message is a decision at its place
  pub in_set_messages : (k : ℕ) (plans : List Planned) (z : M) → In z (set_messages sim k plans) →
      (i : ℕ) × (p : Planned) × (k ≤ i) × In p plans × (z ≡ sim.set_message i p)
  in_set_messages k [] z i = absurd i
  in_set_messages k (p ∷ ps) z (inl e) = (k, p, omega arith, inl refl, e)
  in_set_messages k (p ∷ ps) z (inr j) = let h = in_set_messages (suc k) ps z j in let l = h.2 in
      (h.0, h.1, omega arith, inr h.3, h.4)

-- ---- IsLawful

module _ {S M N : Type 0} {sim : Simulation S M N} {Good : ℕ → S → Type 0} (law : HandlesLawfully sim Good) where
  -- the world keeps its stations good
  pub world_lawful : IsLawful sim.time (world_step sim.to sim.handle) (AllGood Good)
  world_lawful = record {
    keeps = λ w m g. put_cases (λ s st. Good s st) w.states (sim.to m)
        (sim.handle (sim.to m) (w.states (sim.to m)) m).state
        (law.keeps (sim.to m) (w.states (sim.to m)) m (g (sim.to m))) (λ s n. g s);
    later = λ w m g. law.later (sim.to m) (w.states (sim.to m)) m (g (sim.to m));
  }

  -- and so does one station alone
  pub local_lawful : (s : ℕ) → IsLawful sim.time (local_step sim.to sim.handle s) (λ p. Good s p.state)
  local_lawful s = record {
    keeps = λ p m g. law.keeps s p.state m g;
    later = λ p m g. all_from (λ x. sim.time m < sim.time x) (to_it sim.to s (sim.handle s p.state m).sends)
        (λ z i. all_in (λ x. sim.time m < sim.time x) (sim.handle s p.state m).sends z (law.later s p.state m g)
        (in_own sim.to s (sim.handle s p.state m).sends z i).0);
  }

  -- a world begins in order
  pub begins_fine : (plans : List Planned) → Fine sim.order sim.time (AllGood Good) 0 (first_world sim plans)
  begins_fine plans = record {
    good = law.opens;
    sorted = sorted_insert_all law.order.order (first_messages sim sim.stations ++ set_messages sim 0 plans) [] tt;
    from_t = all_from_zero sim.time (first_world sim plans).pending;
  }

  -- ---- run

  -- a run to a front is reached by turns before the front, and has none left
  pub run_reached : (plans : List Planned) (front : ℕ) →
      Reach sim.order sim.time (world_step sim.to sim.handle) front (first_world sim plans) (run sim plans front)
      × Fine sim.order sim.time (AllGood Good) front (run sim plans front)
  run_reached plans front = run_reach law.order world_lawful front front (first_world sim plans) (omega arith)
      (begins_fine plans)

  -- a fine world may begin at an earlier time
  pub run_fine : (plans : List Planned) (front : ℕ) → Fine sim.order sim.time (AllGood Good) 0 (run sim plans front)
  run_fine plans front = let h = (run_reached plans front).1 in
      record { good = h.good; sorted = h.sorted; from_t = all_from_zero sim.time (run sim plans front).pending }

  -- the run to a front continues to a later one
  pub run_goes_on : (plans : List Planned) (front bound : ℕ) → front ≤ bound →
      Reach sim.order sim.time (world_step sim.to sim.handle) bound (run sim plans front) (run sim plans bound)
  run_goes_on plans front bound l =
      subst (Reach sim.order sim.time (world_step sim.to sim.handle) bound (run sim plans front))
      (run_on law.order world_lawful front bound (first_world sim plans) l (begins_fine plans))
      (run_reach law.order world_lawful bound bound (run sim plans front) (omega arith) (run_fine plans front)).0
