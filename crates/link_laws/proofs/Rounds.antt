-- In a round each station alone handles the messages that the clone's run handles between the station's time and its
-- next one.
use Rattle.std.proofs.Common.{◌≡◌, ℕ, ◌<◌, ◌≤◌, min, List, [], ◌∷◌, ◌++◌, ◌⊎◌, not, nat_lt}
use Rattle.std.proofs.Common.{inl, inr, refl, sym, ap, ◌∙◌, subst, arith, append_assoc, append-nil, ◌==◌}
use Rattle.std.specs.declared.cmp.Ordering.{Ordering}
use Rattle.std.specs.declared.cmp.Ordering.TheVariants.{Less}
use Rattle.std.specs.Cmp.{IsTotalOrder}
use Rattle.std.specs.List.{AllByRecursion}
use Rattle.std.proofs.lemmas.Bool.{cases_eq, cases_lt, lt-ltb}
use Rattle.std.proofs.lemmas.List.Elements.{filter-append}
use Rattle.sim_base.specs.Clones.{Clone}
use Rattle.sim_base.specs.declared.entry.Entry.{Entry}
use Rattle.run_laws.specs.Queue.{insert_all, In, Sorted}
use Rattle.run_laws.specs.Machine.{Config, Reach, stay, go}
use Rattle.run_laws.specs.Simulation.{Simulation, Outcome}
use Rattle.run_laws.specs.World.{replay, to_it}
use Rattle.run_laws.specs.Window.{LocalStation, local_step, to_others, alone_at}
use Rattle.run_laws.specs.Runs.{end_of, log_at, state_at}
use Rattle.run_laws.specs.Handlers.{HandlesLawfully}
use Rattle.run_laws.proofs.Queue.{all_in, all_from, in_insert_all, insert_all_old, insert_all_new}
use Rattle.run_laws.proofs.Queue.{sorted_insert_all, not_below_itself, not_head}
use Rattle.run_laws.proofs.Lists.{in_append, append_old, append_new, in_own, own_from, in_others, others_from}
use Rattle.run_laws.proofs.Lists.{filter_keeps}
use Rattle.run_laws.proofs.Running.{all_from_zero, run_is}
use Rattle.run_laws.proofs.Fronts.{log_at_front}
use Rattle.run_laws.proofs.Replaying.{replay-push, state_is_replay, replay_is_good}
use Rattle.run_laws.proofs.Worlds.{local_lawful}
use Rattle.link_laws.specs.Cuts.{sent_with, sent_before, IsKnown, Waits, AreWaiting, window_from, IsIdleBelow, IsRound}
use Rattle.link_laws.specs.Cuts.{RoundGives}
use Rattle.link_laws.proofs.Accounts.{earlier_first, replay-append, sent_with-append, sent_with-push, HasLines}
use Rattle.link_laws.proofs.Accounts.{lines_rest, by_msg, accounted, of_log, log_below, log_rises, log_known}
use Rattle.link_laws.proofs.Accounts.{known_handled, LogGrows, log_grows, IsSentWith, sent_with_entry, sent_later}
use Rattle.link_laws.proofs.Accounts.{sent_grows, sent_before_later, sent_before_or, sent_in_time, good_at}

-- ---- Sorted

module _ {X : Type 0} (cmp : X → X → Ordering) where
  -- the later part of a list in order is in order
  pub sorted_right : (xs ys : List X) → Sorted cmp (xs ++ ys) → Sorted cmp ys
  sorted_right [] ys s = s
  sorted_right (x ∷ xs) ys s = sorted_right xs ys s.1

  -- an element comes after all earlier ones and before all later ones
  pub sorted_middle : (xs : List X) (y : X) (ys : List X) → Sorted cmp (xs ++ y ∷ ys) →
      AllByRecursion (λ x. cmp x y ≡ Less) xs × AllByRecursion (λ z. cmp y z ≡ Less) ys
  sorted_middle [] y ys s = (tt, s.0)
  sorted_middle (x ∷ xs) y ys s =
      let h = sorted_middle xs y ys s.1 in
      ((all_in (λ z. cmp x z ≡ Less) (xs ++ y ∷ ys) y s.0 (append_new xs (y ∷ ys) y (inl refl)), h.0), h.1)

  -- an element that comes before all others is the head
  pub head_is : IsTotalOrder cmp → (m : X) (p : List X) → Sorted cmp p → In m p →
      ((z : X) → In z p → (z ≡ m) ⊎ (cmp m z ≡ Less)) → (r : List X) × (p ≡ m ∷ r)
  head_is total m [] s i f = absurd i
  head_is total m (y ∷ ys) s i f = elim i [
    | inl d ↦ (ys, ap (λ x. x ∷ ys) (sym d))
    | inr k ↦ elim (f y (inl refl)) [
      | inl e ↦ (ys, ap (λ x. x ∷ ys) e)
      | inr l ↦ absurd (not_below_itself total m (total.trans m y m l (all_in (λ z. cmp y z ≡ Less) ys m s.0 k)))
    ]
  ]

-- stations alone are equal if their parts are
same_station : {S M N : Type 0} {a b : S} {k l : List (Entry M N)} {x y : List M} (p : List M) → a ≡ b → k ≡ l → x ≡ y →
    ◌≡◌ {A = Config (LocalStation S M N) M}
    (record { at = record { state = a; log = k; aside = x }; pending = p })
    (record { at = record { state = b; log = l; aside = y }; pending = p })
same_station p e f g = cc

module _ {S M N : Type 0} {sim : Simulation S M N} {Good : ℕ → S → Type 0} (law : HandlesLawfully sim Good)
    (c : Clone) (cut floor next : ℕ → ℕ) (round : IsRound sim Good cut floor next)
    (idle : IsIdleBelow sim c cut floor) where
  -- the entries that the log of a station gains
  gains : (s : ℕ) → LogGrows law c s (cut s) (next s)
  gains s = log_grows law c s (cut s) (next s) (round.later s)

  -- an entry of a log before the floor is in the log at the floor
  before_floor : (x t : ℕ) (e : Entry M N) → In e (log_at sim c x t) → sim.time e.msg < floor x →
      In e (log_at sim c x (floor x))
  before_floor x t e i l = elim (cases_lt (floor x) t) [
    | inl a ↦ subst (In e) (log_at_front law c x (floor x) t (omega arith))
        (filter_keeps (λ e. nat_lt (sim.time e.msg) (floor x)) (log_at sim c x t) e i
        (lt-ltb (sim.time e.msg) (floor x) l))
    | inr a ↦
        let g = log_grows law c x t (floor x) a in
        subst (In e) (sym g.is) (append_old (log_at sim c x t) g.more e i)
  ]

  -- an entry of a log at the station's time or later is at its floor or later
  from_floor : (x t : ℕ) (e : Entry M N) → In e (log_at sim c x t) → min (cut x) (end_of sim c) ≤ sim.time e.msg →
      floor x ≤ sim.time e.msg
  from_floor x t e i late = elim (cases_lt (sim.time e.msg) (floor x)) [
    | inl l ↦
        let b = log_below law c x (cut x) e (subst (In e) (idle x) (before_floor x t e i l)) in
        absurd (omega (arith, b, late))
    | inr l ↦ l
  ]

  -- another station sends a message to s before the next time of s only before its own time
  sent_by_other : (s x : ℕ) (z : M) → (x ≡ s → ⊥) → sim.to z ≡ s → sim.time z < min (next s) (end_of sim c) →
      In z (sent_before sim c x (next s)) → In z (sent_before sim c x (cut x))
  sent_by_other s x z n here t i = elim (cases_lt (cut x) (next s)) [
    | inl l ↦
        let g = log_grows law c x (cut x) (next s) (omega arith) in
        elim (sent_before_or law c x (cut x) (next s) z g i) [
          | inl a ↦ a
          | inr a ↦
              let late = from_floor x (next s) a.entry
              (subst (In a.entry) (sym g.is) (append_new (log_at sim c x (cut x)) g.more a.entry a.is_entry))
              (g.late a.entry a.is_entry) in
              let far : next (sim.to z) ≤ sim.time z =
              round.apart x a.state a.entry.msg z a.good a.is_sent (λ e. n (sym e ∙ here)) late in
              let far_s : next s ≤ sim.time z = subst (λ y. next y ≤ sim.time z) here far in
              absurd (omega arith)
        ]
    | inr l ↦ sent_before_later law c x (next s) (cut x) z l i
  ]

  module _ (s : ℕ) (q : List M) (waiting : AreWaiting sim c cut s q) where
    -- the state of the station
    abbrev st : S
    st = state_at sim c s (cut s)

    -- the entries that its log gains
    abbrev more : List (Entry M N)
    more = (gains s).more

    -- how far it goes
    abbrev bound : ℕ
    bound = min (next s) (end_of sim c)

    -- a message that waited, or that the station sent itself with these entries, and that none of them handles
    abbrev IsLeft : List (Entry M N) → M → Type 0
    IsLeft done z = (In z q ⊎ (In z (sent_with sim s st done) × (sim.to z ≡ s)))
        × ((e : Entry M N) → In e done → e.msg ≡ z → ⊥)

    -- the station after these entries
    abbrev station_after : List (Entry M N) → List M → Config (LocalStation S M N) M
    station_after done p = record {
      at = record {
        state = replay sim.to sim.handle s st done;
        log = log_at sim c s (cut s) ++ done;
        aside = to_others sim.to s (sent_with sim s st done);
      };
      pending = p;
    }

    -- the station before its window
    abbrev start : Config (LocalStation S M N) M
    start = alone_at (log_at sim c s (cut s)) st q

    -- turns before the bound lead from there to this station
    abbrev Reached : Config (LocalStation S M N) M → Type 0
    Reached d = Reach sim.order sim.time (local_step sim.to sim.handle s) bound start d

    -- the entries are in order
    more_rises : Sorted (by_msg sim) more
    more_rises = sorted_right (by_msg sim) (log_at sim c s (cut s)) more
        (subst (Sorted (by_msg sim)) (gains s).is (log_rises law c s (next s)))

    -- a message that is known at the next time and comes between the times is the message of an entry
    in_more : (z : M) → sim.to z ≡ s → IsKnown sim c (λ x. next s) z → min (cut s) (end_of sim c) ≤ sim.time z →
        sim.time z < bound → (e : Entry M N) × In e more × (e.msg ≡ z)
    in_more z here known late early =
        let h = known_handled law c (next s) z known early in
        let i : In h.0 (log_at sim c s (next s)) =
        subst (λ y. In h.0 (log_at sim c y (next s))) here h.1 in
        elim (in_append (log_at sim c s (cut s)) more h.0 (subst (In h.0) (gains s).is i)) [
          | inl a ↦
              let b = log_below law c s (cut s) h.0 a in
              let t = ap sim.time h.2 in
              absurd (omega (arith, b, t))
          | inr a ↦ (h.0, a, h.2)
        ]

    -- the sends of the first entries are known at the next time
    sent_known : (done todo : List (Entry M N)) (z : M) → more ≡ done ++ todo → In z (sent_with sim s st done) →
        IsKnown sim c (λ x. next s) z
    sent_known done todo z is i = inr (
      s,
      subst (In z) (sym (sent_grows law c s (cut s) (next s) (gains s)))
          (append_new (sent_before sim c s (cut s)) (sent_with sim s st more) z
          (subst (λ l. In z (sent_with sim s st l)) (sym is)
          (subst (In z) (sym (sent_with-append sim s st done todo))
          (append_old (sent_with sim s st done)
          (sent_with sim s (replay sim.to sim.handle s st done) todo) z i)))),
    )

    -- a message that is left and comes before the bound is the message of an entry
    left_in_more : (done todo : List (Entry M N)) (z : M) → more ≡ done ++ todo → IsLeft done z → sim.time z < bound →
        (e : Entry M N) × In e more × (e.msg ≡ z)
    left_in_more done todo z is left early = elim left.0 [
      | inl a ↦
          let w = (waiting.exact z).0 a in
          let late = w.late in
          in_more z w.here (elim w.known [
            | inl b ↦ inl b
            | inr b ↦ inr (b.0, sent_in_time law c b.0 (next s) (cut b.0) z (omega arith) b.1)
          ]) (omega (arith, late)) early
      | inr a ↦
          let e = sent_with_entry law c s st done z (good_at law c s (cut s)) a.0 in
          let soon = sent_later law c s done z e in
          let late = (gains s).late e.entry (subst (In e.entry) (sym is) (append_old done todo e.entry e.is_entry)) in
          in_more z a.1 (sent_known done todo z is a.0) (omega (arith, soon, late)) early
    ]

    -- the message of an entry waited, or the station sent it to itself
    more_left : (e : Entry M N) → In e more → In e.msg q ⊎ In e.msg (sent_with sim s st more)
    more_left e i =
        let j : In e (log_at sim c s (next s)) =
        subst (In e) (sym (gains s).is) (append_new (log_at sim c s (cut s)) more e i) in
        let here : sim.to e.msg ≡ s = (of_log law c s (next s) e j).1 in
        let late = (gains s).late e i in
        let early = (gains s).time_max e i in
        let waits : IsKnown sim c cut e.msg → In e.msg q = λ k. (waiting.exact e.msg).1 (record {
          known = k;
          here = here;
          late = omega (arith, late, early);
          time_max = omega (arith, early);
        }) in
        elim (log_known law c s (next s) e j) [
          | inl a ↦ inl (waits (inl a))
          | inr a ↦ elim (cases_eq a.0 s) [
            | inl d ↦ elim (in_append (sent_before sim c s (cut s)) (sent_with sim s st more) e.msg
                (subst (In e.msg) (sent_grows law c s (cut s) (next s) (gains s))
                (subst (λ y. In e.msg (sent_before sim c y (next s))) d a.1))) [
                  | inl b ↦ inl (waits (inr (s, b)))
                  | inr b ↦ inr b
                ]
            | inr n ↦ inl (waits (inr (a.0, sent_by_other s a.0 e.msg n here early a.1)))
          ]
        ]

    -- after the first entries the state is good
    good_now : (done : List (Entry M N)) → Good s (replay sim.to sim.handle s st done)
    good_now done = subst (Good s)
        (replay-append sim s (sim.setup s).state (log_at sim c s (cut s)) done
        ∙ ap (λ u. replay sim.to sim.handle s u done) (sym (state_is_replay law c s (cut s))))
        (replay_is_good law s (log_at sim c s (cut s) ++ done))

    -- the next entry has the line of its handling
    line_now : (done todo : List (Entry M N)) (e : Entry M N) → more ≡ done ++ e ∷ todo →
        e.line ≡ (sim.handle s (replay sim.to sim.handle s st done) e.msg).line
    line_now done todo e is =
        let all : HasLines sim s (sim.setup s).state (log_at sim c s (cut s) ++ more) =
        subst (HasLines sim s (sim.setup s).state) (gains s).is ((accounted law c (next s)).lines s) in
        let rest : HasLines sim s st more = subst (λ u. HasLines sim s u more) (sym (state_is_replay law c s (cut s)))
        (lines_rest sim s (sim.setup s).state (log_at sim c s (cut s)) more all) in
        (lines_rest sim s st done (e ∷ todo) (subst (HasLines sim s st) is rest)).0

    -- the station at the bound, with the messages that are left
    record IsAtBound : Type 0 where
      pub left : List M
      pub sorted : Sorted sim.order left
      pub from : (z : M) → In z left → IsLeft more z
      pub all : (z : M) → IsLeft more z → In z left
      pub late : AllByRecursion (λ m. bound ≤ sim.time m) left
      pub ran : Reached (station_after more left)

    -- the station handles the entries one by one
    walk : (todo done : List (Entry M N)) (p : List M) → more ≡ done ++ todo → Sorted sim.order p →
        ((z : M) → In z p → IsLeft done z) → ((z : M) → IsLeft done z → In z p) → Reached (station_after done p) →
        IsAtBound
    walk [] done p is sorted from all ran =
        let same : done ≡ more = sym (is ∙ append-nil done) in
        record {
          left = p;
          sorted = sorted;
          from = λ z i. subst (λ l. IsLeft l z) same (from z i);
          all = λ z i. all z (subst (λ l. IsLeft l z) (sym same) i);
          late = all_from (λ m. bound ≤ sim.time m) p (λ z i. elim (cases_lt (sim.time z) bound) [
            | inl t ↦
                let e = left_in_more done [] z is (from z i) t in
                absurd ((from z i).1 e.0 (subst (In e.0) (sym same) e.1) e.2)
            | inr t ↦ t
          ]);
          ran = subst (λ l. Reached (station_after l p)) same ran;
        }
    walk (e ∷ todo) done p is sorted from all ran =
        let o = law.order.order in
        let now : S = replay sim.to sim.handle s st done in
        let there : Outcome S M N = sim.handle s now e.msg in
        let in_it : In e more = subst (In e) (sym is) (append_new done (e ∷ todo) e (inl refl)) in
        let middle = sorted_middle (by_msg sim) done e todo (subst (Sorted (by_msg sim)) is more_rises) in
        let early = (gains s).time_max e in_it in
        -- no earlier entry has this message
        let unhandled : (d : Entry M N) → In d done → d.msg ≡ e.msg → ⊥ = λ d i same.
        not_below_itself o.total e.msg (subst (λ u. sim.order u e.msg ≡ Less) same
        (all_in (λ x. by_msg sim x e ≡ Less) done d middle.0 i)) in
        -- this entry and the later ones come at its time or later
        let not_earlier : (d : Entry M N) → In d (e ∷ todo) → sim.time e.msg ≤ sim.time d.msg = λ d i. elim i [
          | inl k ↦ let t = ap (λ (u : Entry M N). sim.time u.msg) k in omega (arith, t)
          | inr k ↦ law.order.timed e.msg d.msg (all_in (λ x. by_msg sim e x ≡ Less) todo d middle.1 k)
        ] in
        let here : sim.to e.msg ≡ s = (of_log law c s (next s) e
        (subst (In e) (sym (gains s).is) (append_new (log_at sim c s (cut s)) more e in_it))).1 in
        let mine : In e.msg p = all e.msg (
          elim (more_left e in_it) [
            | inl a ↦ inl a
            | inr a ↦ elim (in_append (sent_with sim s st done) (sent_with sim s now (e ∷ todo)) e.msg
                (subst (In e.msg) (sent_with-append sim s st done (e ∷ todo))
                (subst (λ l. In e.msg (sent_with sim s st l)) is a))) [
                  | inl b ↦ inr (b, here)
                  | inr b ↦
                      let d = sent_with_entry law c s now (e ∷ todo) e.msg (good_now done) b in
                      let soon = sent_later law c s (e ∷ todo) e.msg d in
                      let late = not_earlier d.entry d.is_entry in
                      absurd (omega (arith, soon, late))
                ]
          ],
          unhandled,
        ) in
        let head = head_is sim.order o.total e.msg p sorted mine (λ z i. elim (cases_lt (sim.time z) bound) [
          | inl t ↦
              let d = left_in_more done (e ∷ todo) z is (from z i) t in
              elim (in_append done (e ∷ todo) d.0 (subst (In d.0) is d.1)) [
                | inl a ↦ absurd ((from z i).1 d.0 a d.2)
                | inr a ↦ elim a [
                  | inl b ↦ inl (sym d.2 ∙ ap (λ (u : Entry M N). u.msg) b)
                  | inr b ↦ inr (subst (λ u. sim.order e.msg u ≡ Less) d.2
                      (all_in (λ x. by_msg sim e x ≡ Less) todo d.0 middle.1 b))
                ]
              ]
          | inr t ↦ inr (earlier_first law.order e.msg z (omega (arith, early)))
        ]) in
        let rest : List M = head.0 in
        let is_head : p ≡ e.msg ∷ rest = head.1 in
        let sorted_head : Sorted sim.order (e.msg ∷ rest) = subst (Sorted sim.order) is_head sorted in
        let own : List M = to_it sim.to s there.sends in
        let after : List M = insert_all sim.order own rest in
        let pushed : sent_with sim s st (done ++ e ∷ []) ≡ sent_with sim s st done ++ there.sends =
        sent_with-push sim s st done e in
        walk todo (done ++ e ∷ []) after (is ∙ sym (append_assoc done (e ∷ []) todo))
        (sorted_insert_all o own rest sorted_head.1)
        (λ z i. elim (in_insert_all o own rest z i) [
          | inl a ↦
              let b = in_own sim.to s there.sends z a in (
                inr (subst (In z) (sym pushed) (append_new (sent_with sim s st done) there.sends z b.0), b.1),
                λ d j same.
                    let soon : sim.time e.msg < sim.time z =
                    all_in (λ y. sim.time e.msg < sim.time y) there.sends z (law.later s now e.msg (good_now done))
                    b.0 in
                    let t = ap sim.time same in
                    elim (in_append done (e ∷ []) d j) [
                      | inl k ↦
                          let l = law.order.timed d.msg e.msg (all_in (λ x. by_msg sim x e ≡ Less) done d middle.0 k) in
                          omega (arith, soon, t, l)
                      | inr k ↦ elim k [
                        | inl l ↦ let u = ap (λ (u : Entry M N). sim.time u.msg) l in omega (arith, soon, t, u)
                        | inr l ↦ l
                      ]
                    ],
              )
          | inr a ↦
              let b = from z (subst (In z) (sym is_head) (inr a)) in (
                elim b.0 [
                  | inl k ↦ inl k
                  | inr k ↦ inr (
                    subst (In z) (sym pushed) (append_old (sent_with sim s st done) there.sends z k.0),
                    k.1,
                  )
                ],
                λ d j same. elim (in_append done (e ∷ []) d j) [
                  | inl k ↦ b.1 d k same
                  | inr k ↦ elim k [
                    | inl l ↦ not_head o e.msg rest z sorted_head a
                        (sym same ∙ ap (λ (u : Entry M N). u.msg) l)
                    | inr l ↦ l
                  ]
                ],
              )
        ])
        (λ z b.
        let unseen : (d : Entry M N) → In d done → d.msg ≡ z → ⊥ =
        λ d j same. b.1 d (append_old done (e ∷ []) d j) same in
        let of_p : In z p → In z after = λ i. elim (subst (In z) is_head i) [
          | inl k ↦ absurd (b.1 e (append_new done (e ∷ []) e (inl refl)) (sym k))
          | inr k ↦ insert_all_old o own rest z k
        ] in
        elim b.0 [
          | inl k ↦ of_p (all z (inl k, unseen))
          | inr k ↦ elim (in_append (sent_with sim s st done) there.sends z (subst (In z) pushed k.0)) [
            | inl l ↦ of_p (all z (inr (l, k.1), unseen))
            | inr l ↦ insert_all_new o own rest z (own_from sim.to s there.sends z l k.1)
          ]
        ])
        (go ran (record {
          m = e.msg;
          q = rest;
          pending = is_head;
          time_max = early;
          is = same_station after
              (replay-push sim s st done e)
              (sym (append_assoc (log_at sim c s (cut s)) done (e ∷ []))
              ∙ ap (λ l. (log_at sim c s (cut s) ++ done) ++ record { msg = e.msg; line = l } ∷ [])
              (line_now done todo e is))
              (ap (to_others sim.to s) pushed
              ∙ filter-append (λ m. not (sim.to m == s)) (sent_with sim s st done) there.sends);
        }))

    -- at first all that waited is left
    walked : IsAtBound
    walked =
        let first : Reached (station_after [] q) =
        subst (λ l. Reached (record { at = record { state = st; log = l; aside = [] }; pending = q }))
        (sym (append-nil (log_at sim c s (cut s)))) stay in
        walk more [] q refl waiting.sorted (λ z i. (inl i, λ e j same. j))
        (λ z b. elim b.0 [ inl i ↦ i | inr i ↦ absurd i.0 ]) first

    -- this is the station's window
    window_is : station_after more walked.left ≡ window_from sim c cut next s q
    window_is = run_is law.order (local_lawful law s) bound start (station_after more walked.left)
        (record {
          good = good_at law c s (cut s);
          sorted = waiting.sorted;
          from_t = all_from_zero sim.time q;
        })
        walked.ran walked.late

  -- ---- RoundGives

  module _ (q : ℕ → List M) (waiting : (s : ℕ) → AreWaiting sim c cut s (q s)) where
    -- a message that is left is pending at the end of the window
    left_is : (s : ℕ) (z : M) → IsLeft s (q s) (waiting s) (more s (q s) (waiting s)) z →
        In z (window_from sim c cut next s (q s)).pending
    left_is s z i = subst (λ u. In z u.pending) (window_is s (q s) (waiting s)) ((walked s (q s) (waiting s)).all z i)

    -- the messages that a window lays aside
    aside_is : (s : ℕ) → (window_from sim c cut next s (q s)).at.aside
        ≡ to_others sim.to s (sent_with sim s (state_at sim c s (cut s)) (gains s).more)
    aside_is s = sym (ap (λ u. u.at.aside) (window_is s (q s) (waiting s)))

    -- each is the send of an entry of the station's log
    pub aside_entry : (s : ℕ) (z : M) → In z (window_from sim c cut next s (q s)).at.aside →
        IsSentWith law c s (log_at sim c s (next s)) z
    aside_entry s z i =
        let sends : List M = sent_with sim s (state_at sim c s (cut s)) (gains s).more in
        let b = in_others sim.to s sends z (subst (In z) (aside_is s) i) in
        let d = sent_with_entry law c s (state_at sim c s (cut s)) (gains s).more z (good_at law c s (cut s)) b.0 in
        record {
          entry = d.entry;
          is_entry = subst (In d.entry) (sym (gains s).is)
              (append_new (log_at sim c s (cut s)) (gains s).more d.entry d.is_entry);
          state = d.state;
          good = d.good;
          is_sent = d.is_sent;
        }

    -- a message that waits at the next cut is left, or was laid aside for the station
    waits_next : (s : ℕ) (m : M) → Waits sim c next s m → In m (window_from sim c cut next s (q s)).pending
        ⊎ ((sim.to m ≡ s) × ((r : ℕ) × In m (window_from sim c cut next r (q r)).at.aside))
    waits_next s m w =
        let late = w.late in
        let later = round.later s in
        let unhandled : (e : Entry M N) → In e (gains s).more → e.msg ≡ m → ⊥ = λ e i same.
        let early = (gains s).time_max e i in
        let t = ap sim.time same in
        omega (arith, early, t, late) in
        let was : IsKnown sim c cut m → In m (window_from sim c cut next s (q s)).pending = λ k.
        left_is s m (
          inl (((waiting s).exact m).1 (record {
            known = k;
            here = w.here;
            late = omega (arith, late, later);
            time_max = w.time_max;
          })),
          unhandled,
        ) in
        elim w.known [
          | inl a ↦ inl (was (inl a))
          | inr a ↦ elim (in_append (sent_before sim c a.0 (cut a.0))
              (sent_with sim a.0 (state_at sim c a.0 (cut a.0)) (gains a.0).more) m
              (subst (In m) (sent_grows law c a.0 (cut a.0) (next a.0) (gains a.0)) a.1)) [
                | inl b ↦ inl (was (inr (a.0, b)))
                | inr b ↦ elim (cases_eq a.0 s) [
                  | inl d ↦ inl (left_is s m (
                    inr (subst (λ x. In m (sent_with sim x (state_at sim c x (cut x)) (gains x).more)) d b, w.here),
                    unhandled,
                  ))
                  | inr n ↦ inr (
                    w.here,
                    (
                      a.0,
                      subst (In m) (sym (aside_is a.0))
                          (others_from sim.to a.0 (sent_with sim a.0 (state_at sim c a.0 (cut a.0)) (gains a.0).more)
                          m b (λ e. n (sym e ∙ w.here))),
                    ),
                  )
                ]
              ]
        ]

    -- a send between the times is known at the next cut
    known_next : (r : ℕ) (m : M) → In m (sent_with sim r (state_at sim c r (cut r)) (gains r).more) →
        IsKnown sim c next m
    known_next r m i = inr (
      r,
      subst (In m) (sym (sent_grows law c r (cut r) (next r) (gains r)))
          (append_new (sent_before sim c r (cut r)) (sent_with sim r (state_at sim c r (cut r)) (gains r).more) m i),
    )

    -- and a message that is left or was laid aside for the station waits there
    next_waits : (s : ℕ) (m : M) → sim.time m < end_of sim c → In m (window_from sim c cut next s (q s)).pending
        ⊎ ((sim.to m ≡ s) × ((r : ℕ) × In m (window_from sim c cut next r (q r)).at.aside)) → Waits sim c next s m
    next_waits s m early i = elim i [
      | inl a ↦
          let v = walked s (q s) (waiting s) in
          let j : In m v.left = subst (λ u. In m u.pending) (sym (window_is s (q s) (waiting s))) a in
          let late : min (next s) (end_of sim c) ≤ sim.time m =
          all_in (λ m. min (next s) (end_of sim c) ≤ sim.time m) v.left m v.late j in
          let b = v.from m j in
          elim b.0 [
            | inl k ↦
                let w = ((waiting s).exact m).0 k in
                record {
                  known = elim w.known [
                    | inl l ↦ inl l
                    | inr l ↦ inr (l.0, sent_before_later law c l.0 (cut l.0) (next l.0) m (round.later l.0) l.1)
                  ];
                  here = w.here;
                  late = omega (arith, late, early);
                  time_max = early;
                }
            | inr k ↦ record {
              known = known_next s m k.0;
              here = k.1;
              late = omega (arith, late, early);
              time_max = early;
            }
          ]
      | inr a ↦
          let r : ℕ = a.1.0 in
          let here : sim.to m ≡ s = a.0 in
          let sends : List M = sent_with sim r (state_at sim c r (cut r)) (gains r).more in
          let b = in_others sim.to r sends m (subst (In m) (aside_is r) a.1.1) in
          let d = sent_with_entry law c r (state_at sim c r (cut r)) (gains r).more m (good_at law c r (cut r)) b.0 in
          let late = from_floor r (next r) d.entry
          (subst (In d.entry) (sym (gains r).is)
          (append_new (log_at sim c r (cut r)) (gains r).more d.entry d.is_entry))
          ((gains r).late d.entry d.is_entry) in
          let far : next (sim.to m) ≤ sim.time m =
          round.apart r d.state d.entry.msg m d.good d.is_sent b.1 late in
          record {
            known = known_next r m b.0;
            here = here;
            late = subst (λ x. next x ≤ sim.time m) here far;
            time_max = early;
          }
    ]

    -- in a round the stations, each alone, reach what the clone's run reaches
    pub round_gives : RoundGives sim c cut next q
    round_gives = record {
      log = λ s. (gains s).is ∙ ap (λ u. u.at.log) (window_is s (q s) (waiting s));
      state = λ s. state_is_replay law c s (next s)
          ∙ ap (replay sim.to sim.handle s (sim.setup s).state) (gains s).is
          ∙ replay-append sim s (sim.setup s).state (log_at sim c s (cut s)) (gains s).more
          ∙ ap (λ u. replay sim.to sim.handle s u (gains s).more) (sym (state_is_replay law c s (cut s)))
          ∙ ap (λ u. u.at.state) (window_is s (q s) (waiting s));
      waiting = λ s m. (λ w. (w.time_max, waits_next s m w), λ g. next_waits s m g.0 g.1);
    }
