-- Stations that are stepped one after the other, in place.
use Rattle.std.proofs.Common.{◌≡◌, ◌≢◌, ℕ, zero, suc, ◌+◌, ◌<◌, List, [], ◌∷◌, ◌++◌, inl, inr, Option}
use Rattle.std.proofs.Common.{Some, None, refl, sym, ap, ◌∙◌, subst, arith, append-nil, length, length-append, map}
use Rattle.std.proofs.Common.{slice_get}
use Rattle.std.proofs.lemmas.Bool.{cases_eq}
use Rattle.std.proofs.lemmas.List.{flat_map_more, length-map, map-append}
use Rattle.std.proofs.lemmas.List.Sums.{sum_by_push}
use Rattle.std.proofs.lemmas.Option.{same_Some, slice_get_within}
use Rattle.clone_sets.specs.Sets.{empty, IsFirst}
use Rattle.clone_sets.specs.declared.set.CloneSet.{CloneSet}
use Rattle.net_model.specs.Net.{Net}
use Rattle.phys_proc.specs.Own.{MarkedMessages, IsLowerBoundOfAll}
use Rattle.phys_proc.specs.Procs.{ProcView, AreShared}
use Rattle.station_steps.specs.declared.station_step.StationStep.{StationStep}
use Rattle.phys_proc.proofs.AllCopies.{IsStepResult-idle, all_stepped, all_over, all_gained}
use Rattle.station_steps.specs.Windows.{IsFlow, IsNumbered, NoneOver}
use Rattle.station_steps.specs.Stepping.{IsFirstOver, FirstOver, SteppedAt, SteppedTo, AllStepped}
use Rattle.station_steps.proofs.Flows.{is_flow}
use Rattle.run_laws.proofs.Lists.{slice_get-push}

-- ---- IsFlow

-- a station with nothing due is its own result
IsFlow-idle : (net : Net) (ends : ℕ → ℕ) (bound i : ℕ) (p : ProcView) (flow : StationStep) → IsNumbered net i p
    → IsLowerBoundOfAll bound p.copies →
    AreShared p.living p.copies → flow.done ≡ p → flow.sent.items ≡ [] → flow.over ≡ empty → flow.handled ≡ 0 →
    IsFlow net ends bound i p flow
IsFlow-idle net ends bound i p flow h late shared done sent over handled =
    let far = IsStepResult-idle net h.proc.valid p.station ends bound p.copies 0 h.proc.copies late shared.disjoint in
    is_flow net ends bound i p flow h.number (record {
      windows = λ e. rw (done, sent) (all_stepped net h.proc.valid p.station ends bound p.copies p.copies [] empty 0 0
          h.proc.copies far refl);
      over = rw over (all_over net h.proc.valid p.station ends bound p.copies p.copies [] empty 0 0 h.proc.copies far);
      gain = rw handled (all_gained net h.proc.valid p.station ends bound p.copies p.copies [] empty 0 0 h.proc.copies
          far 0 refl);
      proc = rw done h.proc;
      number = ap (λ (q : ProcView). q.station) done;
      living = λ e. ap (λ (q : ProcView). q.living) done;
      once = λ e. ap (λ (q : ProcView). q.handled) done ∙ (let z = handled in omega (arith, z));
    })

-- ---- slice_get of append

-- an element of the first of two lists is at the same place in both together
pub slice_get-append : {X : Type 0} (xs ys : List X) (i : ℕ) → i < length xs → slice_get (xs ++ ys) i ≡ slice_get xs i
slice_get-append [] ys i l = absurd (omega (arith, l))
slice_get-append (x ∷ xs) ys zero l = refl
slice_get-append (x ∷ xs) ys (suc i) l = slice_get-append xs ys i (omega (arith, l))

-- one more element is after the others
pub slice_get-last : {X : Type 0} (xs : List X) (x : X) (i : ℕ) → length xs ≡ i → slice_get (xs ++ x ∷ []) i ≡ Some x
slice_get-last [] x zero e = refl
slice_get-last [] x (suc i) e = absurd (omega (arith, e))
slice_get-last (y ∷ ys) x zero e = absurd (omega (arith, e))
slice_get-last (y ∷ ys) x (suc i) e = slice_get-last ys x i (omega (arith, e))

-- ---- IsFirstOver, NoneOver

-- the first over the limit stays the first with one more result
pub IsFirstOver-push : (flows : List StationStep) (f : StationStep) (i who : ℕ) → IsFirstOver flows i who
    → IsFirstOver (flows ++ f ∷ []) i who
IsFirstOver-push flows f i who h = record {
  flow = h.flow;
  is_there = slice_get-append flows (f ∷ []) i (slice_get_within flows i h.flow h.is_there) ∙ h.is_there;
  first = h.first;
  none_before = λ j g l got. elim (slice_get-push flows f g j got) [
    | inl e ↦ h.none_before j g l e
    | inr e ↦ let k = slice_get_within flows i h.flow h.is_there in let p = e.0 in absurd (omega (arith, k, l, p))
  ];
}

-- if none was over the limit, a new result over it is the first
pub IsFirstOver-new : (flows : List StationStep) (f : StationStep) (i who : ℕ) → length flows ≡ i → NoneOver flows
    → IsFirst f.over who → IsFirstOver (flows ++ f ∷ []) i who
IsFirstOver-new flows f i who many none first = record {
  flow = f;
  is_there = slice_get-last flows f i many;
  first = first;
  none_before = λ j g l got. elim (slice_get-push flows f g j got) [
    | inl e ↦ none j g e
    | inr e ↦ let p = e.0 in absurd (omega (arith, many, l, p))
  ];
}

-- if none was over the limit, and a new result is not, none is
pub NoneOver-push : (flows : List StationStep) (f : StationStep) → NoneOver flows → f.over ≡ empty → NoneOver
    (flows ++ f ∷ [])
NoneOver-push flows f none over = λ i g got. elim (slice_get-push flows f g i got) [
  | inl e ↦ none i g e
  | inr e ↦ ap (λ (x : StationStep). x.over) e.1 ∙ over
]

-- ---- SteppedAt

-- the result of the step of the station at place i
pub SteppedAt-flow : (net : Net) (ends : ℕ → ℕ) (bound i : ℕ) (olds news : List ProcView)
    (before after : MarkedMessages) (p : ProcView) (flow : StationStep) → slice_get olds i ≡ Some p
    → IsFlow net ends bound i p flow
    → slice_get news i ≡ Some flow.done → ((j : ℕ) → j ≢ i → slice_get news j ≡ slice_get olds j)
    → length news ≡ length olds → after ≡ before ++ flow.sent.items
    → SteppedAt net ends bound i olds news before after flow.over flow.handled
SteppedAt-flow net ends bound i olds news before after p flow got is there others long sent = record {
  flow = flow;
  is_flow = λ q got_q. subst (λ (x : ProcView). IsFlow net ends bound i x flow) (same_Some p q (sym got ∙ got_q)) is;
  is_at = there;
  others = others;
  long = long;
  sent_is = sent;
  over_is = refl;
  handled_is = refl;
}

-- ---- SteppedTo, AllStepped

module _ (net : Net) (ends bounds : ℕ → ℕ) (olds : List ProcView) where
  -- at first no station is stepped
  pub SteppedTo-none : (steps : ℕ) → SteppedTo net ends bounds 0 olds olds [] None steps steps
  SteppedTo-none steps = record {
    flows = [];
    count = refl;
    each = λ i p flow a b. absurd (none_got flow b);
    procs = λ i l. absurd (omega (arith, l));
    others = λ i l. refl;
    long = refl;
    sent_is = refl;
    first = λ i flow b. absurd (none_got flow b);
    steps_are = omega arith;
  }
    where
      none_got : (flow : StationStep) → None ≡ Some flow → ⊥
      none_got flow e = absurd (cc)

  -- if the first n were stepped, and now the next one is, the first n + 1 are
  pub SteppedTo-next : (n : ℕ) (news after : List ProcView) (sent now : MarkedMessages) (over0 over1 : Option (ℕ × ℕ))
      (over : CloneSet) (handled steps0 steps steps1 : ℕ) → n < length olds →
      SteppedTo net ends bounds n olds news sent over0 steps0 steps
      → SteppedAt net ends (bounds n) n news after sent now over handled → steps1 ≡ steps + handled →
      ((flows : List StationStep) (f : StationStep) → length flows ≡ n → f.over ≡ over → FirstOver flows over0
      → FirstOver (flows ++ f ∷ []) over1) →
      SteppedTo net ends bounds (n + 1) olds after now over1 steps0 steps1
  SteppedTo-next n news after sent now over0 over1 over handled steps0 steps steps1 less far one took first =
      let f = one.flow in
      let c = far.count in
      record {
        flows = far.flows ++ f ∷ [];
        count = let l = length-append far.flows (f ∷ []) in omega (arith, l, c);
        each = λ i p flow got there. elim (slice_get-push far.flows f flow i there) [
          | inl e ↦ far.each i p flow got e
          | inr e ↦
              let place : i ≡ n = e.0 ∙ c in
              rw (place, e.1) (one.is_flow p (far.others n (omega arith) ∙ ap (slice_get olds) (sym place) ∙ got))
        ];
        procs = λ i l. done_at i l
            ∙ ap (λ k. slice_get k i) (sym (map-append (λ (x : StationStep). x.done) far.flows (f ∷ [])));
        others = λ i l. one.others i (λ e. omega (arith, e, l)) ∙ far.others i (omega (arith, l));
        long = one.long ∙ far.long;
        sent_is = one.sent_is ∙ ap (λ l. l ++ f.sent.items) far.sent_is
            ∙ flat_map_more (λ (x : StationStep). x.sent.items) [] far.flows f;
        first = first far.flows f c (sym one.over_is) far.first;
        steps_are = let a = far.steps_are in let b = one.handled_is in
            let d = sum_by_push (λ (x : StationStep). x.handled) far.flows f in omega (arith, a, b, d, took);
      }
    where
      done_at : (i : ℕ) → i < n + 1 → slice_get after i ≡ slice_get
          (map (λ (x : StationStep). x.done) far.flows ++ one.flow.done ∷ []) i
      done_at i l = elim (cases_eq i n) [
        | inl e ↦ ap (slice_get after) e ∙ one.is_at
            ∙ sym (slice_get-last (map (λ (x : StationStep). x.done) far.flows) one.flow.done i
            (length-map far.flows (λ (x : StationStep). x.done) ∙ far.count ∙ sym e))
        | inr ne ↦
            let c = far.count in
            let m = length-map far.flows (λ (x : StationStep). x.done) in
            one.others i ne ∙ far.procs i (below i l ne)
            ∙ sym (slice_get-append (map (λ (x : StationStep). x.done) far.flows) (one.flow.done ∷ []) i
            (let k = below i l ne in omega (arith, k, m, c)))
      ]
        where
          below : (i : ℕ) → i < n + 1 → (i ≡ n → ⊥) → i < n
          below i less ne = grind (arith, less)

  -- a station with nothing due is stepped by leaving it unchanged
  pub SteppedTo-idle : (n : ℕ) (news : List ProcView) (sent : MarkedMessages) (over : Option (ℕ × ℕ)) (steps0 steps : ℕ)
      (p : ProcView) (flow : StationStep) → n < length olds → SteppedTo net ends bounds n olds news sent over steps0
      steps
      → slice_get news n ≡ Some p → IsNumbered net n p → IsLowerBoundOfAll (bounds n) p.copies
      → AreShared p.living p.copies
      → flow.done ≡ p → flow.sent.items ≡ [] → flow.over ≡ empty → flow.handled ≡ 0
      → SteppedTo net ends bounds (n + 1) olds news sent over steps0 steps
  SteppedTo-idle n news sent over steps0 steps p flow less far got numbered late shared done none free silent =
      SteppedTo-next n news news sent sent over over flow.over flow.handled steps0 steps steps less far
      (SteppedAt-flow net ends (bounds n) n news news sent sent p flow got
      (IsFlow-idle net ends (bounds n) n p flow numbered late shared done none free silent) (got ∙ ap Some (sym done))
      (λ j ne. refl) refl (sym (ap (λ l. sent ++ l) none ∙ append-nil sent))) (omega (arith, silent))
      (λ flows f many same. still over flows f (same ∙ free))
    where
      still : (o : Option (ℕ × ℕ)) (flows : List StationStep) (f : StationStep) → f.over ≡ empty → FirstOver flows o
          → FirstOver (flows ++ f ∷ []) o
      still None flows f e h = NoneOver-push flows f h e
      still (Some q) flows f e h = IsFirstOver-push flows f q.0 q.1 h

  -- if the number of stepped stations is that of all, all are
  pub SteppedTo-all : (n : ℕ) (news : List ProcView) (sent : MarkedMessages) (over : Option (ℕ × ℕ)) (steps0 steps : ℕ)
      → n ≡ length olds →
      SteppedTo net ends bounds n olds news sent over steps0 steps
      → AllStepped net ends bounds olds news sent over steps0 steps
  SteppedTo-all n news sent over steps0 steps all far =
      let c = far.count in
      let l = far.long in
      let m = length-map far.flows (λ (x : StationStep). x.done) in
      record {
        flows = far.flows;
        count = c ∙ all;
        each = far.each;
        procs = same_lists news (map (λ (x : StationStep). x.done) far.flows) (omega (arith, c, l, m, all))
            (λ i k. far.procs i (omega (arith, k, l, all)));
        sent_is = far.sent_is;
        first = far.first;
        steps_are = far.steps_are;
      }
    where
      same_lists : {X : Type 0} (xs ys : List X) → length xs ≡ length ys
          → ((i : ℕ) → i < length xs → slice_get xs i ≡ slice_get ys i) → xs ≡ ys
      same_lists [] [] l h = refl
      same_lists [] (y ∷ ys) l h = absurd (omega (arith, l))
      same_lists (x ∷ xs) [] l h = absurd (omega (arith, l))
      same_lists {X} (x ∷ xs) (y ∷ ys) l h = ap (λ z. z ∷ xs) (same_Some x y (h zero (omega arith)))
          ∙ ap (λ zs. y ∷ zs) (same_lists xs ys (omega (arith, l)) (λ i k. h (suc i) (omega (arith, k))))
