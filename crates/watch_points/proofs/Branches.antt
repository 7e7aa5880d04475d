-- The branches that triggers make at two fronts, compared trigger by trigger.
use Rattle.std.proofs.Common.{◌≡◌, ◌⊎◌, ℕ, ◌+◌, ◌<◌, ◌≤◌, List, [], ◌∷◌, ◌++◌, inl, inr, Bool, true, false, Option}
use Rattle.std.proofs.Common.{Some, None, nat_lt, refl, sym, ap, ◌∙◌, arith, subst, cond, append_assoc, append-nil}
use Rattle.std.specs.Option.{option_or}
use Rattle.std.specs.List.{cons_option}
use Rattle.std.specs.Str.{bytes_eq}
use Rattle.std.proofs.lemmas.Slice.Eq.{bytes_eq-Decides}
use Rattle.std.proofs.lemmas.Bool.{ltb-true}
use Rattle.std.proofs.lemmas.List.Folds.{find-append}
use Rattle.sim_base.specs.Clones.{Clone}
use Rattle.sim_base.specs.declared.decision.Planned.{Planned}
use Rattle.sim_base.proofs.ListLaws.{all_push}
use Rattle.run_laws.specs.Queue.{In}
use Rattle.run_laws.specs.Simulation.{Simulation}
use Rattle.run_laws.specs.Runs.{log_at}
use Rattle.run_laws.specs.FrontLaws.{time_before}
use Rattle.run_laws.specs.Handlers.{IsStation, AreForStations}
use Rattle.run_laws.proofs.Lists.{in_append, append_old, append_new}
use Rattle.watch_points.specs.Branches.{Branch, Trigger, branch_named, with_branch, branch_of, branch_if_due, due_time}
use Rattle.watch_points.specs.Branches.{branch_from, branch_by, branches_at, outcomes, present, HaveNewNames}
use Rattle.watch_points.specs.Branches.{TargetsAreStations}
use Rattle.watch_points.specs.BranchLaws.{DueAtFront}
use Rattle.watch_points.specs.PassLaws.{SameOrLate}
use Rattle.watch_points.proofs.Due.{due_in-at_start_or_later}

-- ---- branch_named

-- the branch that a name finds is one of the branches, and has the name
pub branch_named-in : (name : List ℕ) (bs : List Branch) (b : Branch) → branch_named name bs ≡ Some b →
    In b bs × (b.clone.name ≡ name)
branch_named-in name [] b h = absurd (cc)
branch_named-in name (c ∷ cs) b h = by (branch_named-in name cs b) (bytes_eq c.clone.name name) refl h
  where
    by : (branch_named name cs ≡ Some b → In b cs × (b.clone.name ≡ name)) → (t : Bool)
        → bytes_eq c.clone.name name ≡ t → cond t (Some c) (branch_named name cs) ≡ Some b →
        In b (c ∷ cs) × (b.clone.name ≡ name)
    by again true e g = let same : c ≡ b = cc in
        (inl (sym same), ap (λ (x : Branch). x.clone.name) (sym same) ∙ (bytes_eq-Decides c.clone.name name).0 e)
    by again false e g = let r = again g in (inr r.0, r.1)

-- a name that no branch has finds none
pub branch_named-none : (name : List ℕ) (bs : List Branch) → ((b : Branch) → In b bs → b.clone.name ≡ name → ⊥) →
    branch_named name bs ≡ None
branch_named-none name [] f = refl
branch_named-none name (c ∷ cs) f = by (branch_named-none name cs (λ b i. f b (inr i)))
    (bytes_eq c.clone.name name) refl
  where
    by : branch_named name cs ≡ None → (t : Bool) → bytes_eq c.clone.name name ≡ t
        → cond t (Some c) (branch_named name cs) ≡ None
    by again true e = absurd (f c (inl refl) ((bytes_eq-Decides c.clone.name name).0 e))
    by again false e = again

-- a name finds its branch in the branches, or else in the added one
branch_named-push : (name : List ℕ) (bs : List Branch) (b : Branch) →
    branch_named name (bs ++ b ∷ []) ≡ option_or (branch_named name bs)
    (cond (bytes_eq b.clone.name name) (Some b) None)
branch_named-push name bs b = find-append (λ (x : Branch). bytes_eq x.clone.name name) bs (b ∷ [])

-- a name that finds a branch still finds it with one more
pub branch_named-kept : (name : List ℕ) (bs : List Branch) (o : Option Branch) (x : Branch) →
    branch_named name bs ≡ Some x → branch_named name (with_branch bs o) ≡ Some x
branch_named-kept name bs None x h = h
branch_named-kept name bs (Some b) x h = branch_named-push name bs b
    ∙ ap (λ o. option_or o (cond (bytes_eq b.clone.name name) (Some b) None)) h

-- a name finds the branch that it found before, or the added one
pub data NamedAfter (name : List ℕ) (bs : List Branch) (o : Option Branch) (x : Branch) : Type 0 where
  old : branch_named name bs ≡ Some x → NamedAfter name bs o x
  new : branch_named name bs ≡ None → o ≡ Some x → x.clone.name ≡ name → NamedAfter name bs o x

pub branch_named-after : (name : List ℕ) (bs : List Branch) (o : Option Branch) (x : Branch) →
    branch_named name (with_branch bs o) ≡ Some x → NamedAfter name bs o x
branch_named-after name bs None x h = old h
branch_named-after name bs (Some b) x h = by (branch_named name bs) refl (sym (branch_named-push name bs b) ∙ h)
  where
    by : (p : Option Branch) → branch_named name bs ≡ p →
        option_or p (cond (bytes_eq b.clone.name name) (Some b) None) ≡ Some x → NamedAfter name bs (Some b) x
    by (Some y) e g = old (e ∙ g)
    by None e g = test (bytes_eq b.clone.name name) refl g
      where
        test : (t : Bool) → bytes_eq b.clone.name name ≡ t → cond t (Some b) None ≡ Some x
            → NamedAfter name bs (Some b) x
        test true k g = let same : b ≡ x = cc in new e g (ap (λ (z : Branch). z.clone.name) (sym same)
            ∙ (bytes_eq-Decides b.clone.name name).0 k)
        test false k g = absurd (cc)

-- the added branch is found if no other has its name
pub branch_named-added : (name : List ℕ) (bs : List Branch) (b : Branch) → branch_named name bs ≡ None →
    b.clone.name ≡ name → branch_named name (bs ++ b ∷ []) ≡ Some b
branch_named-added name bs b none e = branch_named-push name bs b
    ∙ ap (λ o. option_or o (cond (bytes_eq b.clone.name name) (Some b) None)) none
    ∙ ap (λ t. cond t (Some b) None) ((bytes_eq-Decides b.clone.name name).1 e)

-- ---- with_branch

-- a branch of the branches with one more is one of them, or the added one
pub in-with_branch : (bs : List Branch) (o : Option Branch) (x : Branch) → In x (with_branch bs o) →
    In x bs ⊎ (o ≡ Some x)
in-with_branch bs None x i = inl i
in-with_branch bs (Some b) x i = elim (in_append bs (b ∷ []) x i) [
  | inl j ↦ inl j
  | inr j ↦ elim j [ inl e ↦ inr (ap Some (sym e)) | inr k ↦ absurd k ]
]

-- one of the branches is still there with one more
pub with_branch-old : (bs : List Branch) (o : Option Branch) (x : Branch) → In x bs → In x (with_branch bs o)
with_branch-old bs None x i = i
with_branch-old bs (Some b) x i = append_old bs (b ∷ []) x i

-- and so is the added one
pub with_branch-new : (bs : List Branch) (o : Option Branch) (x : Branch) → o ≡ Some x → In x (with_branch bs o)
with_branch-new bs None x e = absurd (cc)
with_branch-new bs (Some b) x e = let same : x ≡ b = cc in append_new bs (b ∷ []) x (inl same)

module _ {S M N : Type 0} (sim : Simulation S M N) where
  -- triggers leave the branches that are there
  pub branches_at-old : (front : ℕ) (bs : List Branch) (ws : List (Trigger N)) (x : Branch) → In x bs →
      In x (branches_at sim front bs ws)
  branches_at-old front bs [] x i = i
  branches_at-old front bs (w ∷ ws) x i = branches_at-old front (with_branch bs (branch_by sim front bs w)) ws x
      (with_branch-old bs (branch_by sim front bs w) x i)

  -- ---- branch_by

  -- a branch that is made has a due time, and its change comes before the horizon
  pub branch_if_due-made : (w : Trigger N) (c : Clone) (o : Option ℕ) (y : Branch) → branch_if_due sim w c o ≡ Some y →
      (t : ℕ) × (o ≡ Some t) × (y ≡ branch_of sim w c t) × (t + sim.lookahead < sim.horizon)
  branch_if_due-made w c None y h = absurd (cc)
  branch_if_due-made w c (Some t) y h = by (nat_lt (t + sim.lookahead) sim.horizon) refl h
    where
      by : (b : Bool) → nat_lt (t + sim.lookahead) sim.horizon ≡ b → cond b (Some (branch_of sim w c t)) None ≡ Some y →
          (u : ℕ) × (Some t ≡ Some u) × (y ≡ branch_of sim w c u) × (u + sim.lookahead < sim.horizon)
      by true e g = let same : branch_of sim w c t ≡ y = cc in
          (t, refl, sym same, ltb-true (t + sim.lookahead) sim.horizon e)
      by false e g = absurd (cc)

  -- two fronts: which clones are known, and which starts are late, that is, made after the first front
  pub record FrontPair (front bound : ℕ) (Known : Clone → Type 0) (Late : ℕ → Type 0) : Type 0 where
    pub order : front ≤ bound
    pub later : (s t : ℕ) → Late s → s ≤ t → Late t
    pub due : (w : Trigger N) (b : Branch) (t : ℕ) → AreForStations sim b.clone.plans → Known b.clone →
        due_time sim front w b ≡ None → due_time sim bound w b ≡ Some t → Late (t + sim.lookahead)

  -- the branches so far at the two fronts
  pub record AgreeSoFar (front bound : ℕ) (Known : Clone → Type 0) (Late : ℕ → Type 0) (names : List (List ℕ))
      (olds news : List Branch) : Type 0 where
    pub keeps : (name : List ℕ) (x : Branch) → branch_named name olds ≡ Some x → branch_named name news ≡ Some x
    pub late : (name : List ℕ) (y : Branch) → branch_named name news ≡ Some y →
        (branch_named name olds ≡ Some y) ⊎ Late y.start
    pub within : (x : Branch) → In x olds → In x news
    pub is_late : (y : Branch) → In y news → In y olds ⊎ Late y.start
    pub for_stations : (x : Branch) → In x news → AreForStations sim x.clone.plans
    pub named : (x : Branch) → In x news → In x.clone.name names

  module _ (known : DueAtFront sim) {front bound : ℕ} {Known : Clone → Type 0} {Late : ℕ → Type 0}
      (fronts : FrontPair front bound Known Late) where
    -- a branch that both fronts have
    branch_if_due-same_or_late : (w : Trigger N) (b : Branch) → AreForStations sim b.clone.plans → Known b.clone →
        SameOrLate Late (branch_if_due sim w b.clone (due_time sim front w b))
        (branch_if_due sim w b.clone (due_time sim bound w b))
    branch_if_due-same_or_late w b there k = by (due_time sim front w b) (due_time sim bound w b) refl refl
        (known w.condition b.clone w.station b.start front bound there fronts.order)
      where
        by : (o p : Option ℕ) → due_time sim front w b ≡ o → due_time sim bound w b ≡ p →
            due_time sim front w b ≡ time_before front (due_time sim bound w b) →
            SameOrLate Late (branch_if_due sim w b.clone o) (branch_if_due sim w b.clone p)
        by o None e f h = let same : o ≡ None = sym e ∙ h ∙ ap (time_before front) f in
            inl (ap (branch_if_due sim w b.clone) same)
        by None (Some t) e f h = cases (branch_if_due sim w b.clone (Some t)) refl
          where
            cases : (q : Option Branch) → branch_if_due sim w b.clone (Some t) ≡ q
                → SameOrLate Late None (branch_if_due sim w b.clone (Some t))
            cases None g = inl (sym g)
            cases (Some y) g =
                let m = branch_if_due-made w b.clone (Some t) y g in
                let same : m.0 ≡ t = let s = m.1 in cc in
                inr (
                  refl,
                  (
                    y,
                    g,
                    subst Late (ap (λ u. u + sim.lookahead) (sym same)
                        ∙ ap (λ (z : Branch). z.start) (sym m.2)) (fronts.due w b t there k e f),
                  ),
                )
        by (Some u) (Some t) e f h =
            let all : Some u ≡ time_before front (Some t) = sym e ∙ h ∙ ap (time_before front) f in
            let same : u ≡ t = first (nat_lt t front) all in
            inl (ap (λ v. branch_if_due sim w b.clone (Some v)) same)
          where
            first : (c : Bool) → Some u ≡ cond c (Some t) None → u ≡ t
            first true g = cc
            first false g = absurd (cc)

    -- a branch that only the second front has
    branch_if_due-late : (w : Trigger N) (b : Branch) → Late b.start →
        SameOrLate Late None (branch_if_due sim w b.clone (due_time sim bound w b))
    branch_if_due-late w b l = cases (branch_if_due sim w b.clone (due_time sim bound w b)) refl
      where
        cases : (q : Option Branch) → branch_if_due sim w b.clone (due_time sim bound w b) ≡ q
            → SameOrLate Late None (branch_if_due sim w b.clone (due_time sim bound w b))
        cases None g = inl (sym g)
        cases (Some y) g =
            let m = branch_if_due-made w b.clone (due_time sim bound w b) y g in
            let from : b.start ≤ m.0 = due_in-at_start_or_later sim.time w.condition b.start m.0
            (log_at sim b.clone w.station bound) m.1 in
            inr (
              refl,
              (
                y,
                g,
                subst Late (ap (λ (z : Branch). z.start) (sym m.2))
                    (fronts.later b.start (m.0 + sim.lookahead) l (omega (arith, from))),
              ),
            )

    -- the trigger's outcomes at both fronts
    pub branch_by-same_or_late : (w : Trigger N) (names : List (List ℕ)) (olds news : List Branch) →
        AgreeSoFar front bound Known Late names olds news → ((x : Branch) → In x olds → Known x.clone) →
        SameOrLate Late (branch_by sim front olds w) (branch_by sim bound news w)
    branch_by-same_or_late w names olds news p knows = by (branch_named w.who olds) (branch_named w.who news) refl refl
      where
        by : (o q : Option Branch) → branch_named w.who olds ≡ o → branch_named w.who news ≡ q →
            SameOrLate Late (branch_from sim front w o) (branch_from sim bound w q)
        by None None e f = inl refl
        by None (Some y) e f = elim (p.late w.who y f) [
          | inl g ↦ (let no : ⊥ = cc in absurd no)
          | inr l ↦ branch_if_due-late w y l
        ]
        by (Some x) q e f =
            let same : Some x ≡ q = sym (p.keeps w.who x e) ∙ f in
            let i = (branch_named-in w.who olds x e).0 in
            subst (λ r. SameOrLate Late (branch_if_due sim w x.clone (due_time sim front w x))
            (branch_from sim bound w r)) same
            (branch_if_due-same_or_late w x (p.for_stations x (p.within x i)) (knows x i))

    -- a branch that is made has the trigger's new name, and decisions for stations
    pub branch_by-made : (w : Trigger N) (names : List (List ℕ)) (olds news : List Branch) →
        AgreeSoFar front bound Known Late names olds news → IsStation sim w.target → (y : Branch) →
        branch_by sim bound news w ≡ Some y → (y.clone.name ≡ w.new) × AreForStations sim y.clone.plans
    branch_by-made w names olds news p is y h = by (branch_named w.who news) refl h
      where
        by : (o : Option Branch) → branch_named w.who news ≡ o → branch_from sim bound w o ≡ Some y →
            (y.clone.name ≡ w.new) × AreForStations sim y.clone.plans
        by None e g = absurd (cc)
        by (Some b) e g =
            let m = branch_if_due-made w b.clone (due_time sim bound w b) y g in (
              ap (λ (z : Branch). z.clone.name) m.2,
              subst (λ (z : Branch). AreForStations sim z.clone.plans) (sym m.2)
                  (all_push (λ (d : Planned). IsStation sim d.station) b.clone.plans
                  (record { at = m.0 + sim.lookahead; station = w.target; change = w.change })
                  (p.for_stations b (branch_named-in w.who news b e).0) is),
            )

    -- so the branches after this trigger agree
    pub agree-next : (w : Trigger N) (names : List (List ℕ)) (olds news : List Branch) →
        AgreeSoFar front bound Known Late names olds news → ¬ (In w.new names) → IsStation sim w.target →
        SameOrLate Late (branch_by sim front olds w) (branch_by sim bound news w) →
        AgreeSoFar front bound Known Late (w.new ∷ names) (with_branch olds (branch_by sim front olds w))
        (with_branch news (branch_by sim bound news w))
    agree-next w names olds news p fresh is comes =
        by (branch_by sim front olds w) (branch_by sim bound news w) (branch_by-made w names olds news p is) comes
      where
        -- no branch so far has the new name
        unnamed : branch_named w.new news ≡ None
        unnamed = branch_named-none w.new news (λ b i e. fresh (subst (λ n. In n names) e (p.named b i)))

        -- the decisions of the branches at the second front are for stations
        stations_of : (q : Option Branch) → ((y : Branch) → q ≡ Some y → (y.clone.name ≡ w.new)
            × AreForStations sim y.clone.plans) → (x : Branch) → In x (with_branch news q)
            → AreForStations sim x.clone.plans
        stations_of q of x i = elim (in-with_branch news q x i) [
          | inl j ↦ p.for_stations x j
          | inr e ↦ (of x e).1
        ]

        -- and their names are among the names so far
        names_of : (q : Option Branch) → ((y : Branch) → q ≡ Some y → (y.clone.name ≡ w.new)
            × AreForStations sim y.clone.plans) → (x : Branch) → In x (with_branch news q)
            → In x.clone.name (w.new ∷ names)
        names_of q of x i = elim (in-with_branch news q x i) [
          | inl j ↦ inr (p.named x j)
          | inr e ↦ inl (of x e).0
        ]

        by : (o q : Option Branch) → ((y : Branch) → q ≡ Some y → (y.clone.name ≡ w.new)
            × AreForStations sim y.clone.plans) → SameOrLate Late o q →
            AgreeSoFar front bound Known Late (w.new ∷ names) (with_branch olds o) (with_branch news q)
        by o q of (inl same) = record {
          keeps = λ name x h. elim (branch_named-after name olds o x h) [
            | old e ↦ branch_named-kept name news q x (p.keeps name x e)
            | new none e is_name ↦
                let is : q ≡ Some x = sym same ∙ e in
                let own : w.new ≡ name = sym (of x is).0 ∙ is_name in
                subst (λ r. branch_named name (with_branch news r) ≡ Some x) (sym is)
                (branch_named-added name news x (ap (λ n. branch_named n news) (sym own) ∙ unnamed) is_name)
          ];
          late = λ name y h. elim (branch_named-after name news q y h) [
            | old e ↦ elim (p.late name y e) [
              | inl f ↦ inl (branch_named-kept name olds o y f)
              | inr l ↦ inr l
            ]
            | new none e is_name ↦
                let is : o ≡ Some y = same ∙ e in
                inl (subst (λ r. branch_named name (with_branch olds r) ≡ Some y) (sym is)
                (branch_named-added name olds y (not_before name none (branch_named name olds) refl) is_name))
          ];
          within = λ x i. elim (in-with_branch olds o x i) [
            | inl j ↦ with_branch-old news q x (p.within x j)
            | inr e ↦ with_branch-new news q x (sym same ∙ e)
          ];
          is_late = λ y i. elim (in-with_branch news q y i) [
            | inl j ↦ elim (p.is_late y j) [ inl k ↦ inl (with_branch-old olds o y k) | inr l ↦ inr l ]
            | inr e ↦ inl (with_branch-new olds o y (same ∙ e))
          ];
          for_stations = stations_of q of;
          named = names_of q of;
        }
          where
            -- a name that finds no branch at the second front finds none at the first
            not_before : (name : List ℕ) → branch_named name news ≡ None → (r : Option Branch)
                → branch_named name olds ≡ r → branch_named name olds ≡ None
            not_before name none None e = e
            not_before name none (Some z) e = (let no : ⊥ = let a = p.keeps name z e in cc in absurd no)
        by o q of (inr now) = record {
          keeps = λ name x h. branch_named-kept name news q x (p.keeps name x
              (subst (λ r. branch_named name (with_branch olds r) ≡ Some x) now.0 h));
          late = λ name y h. elim (branch_named-after name news q y h) [
            | old e ↦ elim (p.late name y e) [
              | inl f ↦ inl (branch_named-kept name olds o y f)
              | inr l ↦ inr l
            ]
            | new none e is_name ↦ let same : now.1.0 ≡ y = let a = now.1.1 in cc in
                inr (subst (λ (z : Branch). Late z.start) same now.1.2)
          ];
          within = λ x i. with_branch-old news q x (p.within x (subst (λ r. In x (with_branch olds r)) now.0 i));
          is_late = λ y i. elim (in-with_branch news q y i) [
            | inl j ↦ elim (p.is_late y j) [ inl k ↦ inl (with_branch-old olds o y k) | inr l ↦ inr l ]
            | inr e ↦ let same : now.1.0 ≡ y = let a = now.1.1 in cc in
                inr (subst (λ (z : Branch). Late z.start) same now.1.2)
          ];
          for_stations = stations_of q of;
          named = names_of q of;
        }

    -- ---- branches_at

    -- the branches after some triggers agree
    pub record AgreeAtEnd (olds news : List Branch) : Type 0 where
      pub names : List (List ℕ)
      pub at : AgreeSoFar front bound Known Late names olds news

    -- after all triggers they agree
    pub agree-all : (names : List (List ℕ)) (olds news : List Branch) (ws : List (Trigger N)) →
        AgreeSoFar front bound Known Late names olds news → HaveNewNames names ws → TargetsAreStations sim.stations ws →
        ((x : Branch) → In x (branches_at sim front olds ws) → Known x.clone) →
        AgreeAtEnd (branches_at sim front olds ws) (branches_at sim bound news ws)
    agree-all names olds news [] p fresh targets knows = record { names = names; at = p }
    agree-all names olds news (w ∷ ws) p fresh targets knows =
        agree-all (w.new ∷ names) (with_branch olds (branch_by sim front olds w))
        (with_branch news (branch_by sim bound news w)) ws
        (agree-next w names olds news p fresh.0 targets.0 (branch_by-same_or_late w names olds news p
        (λ x i. knows x (branches_at-old front (with_branch olds (branch_by sim front olds w)) ws x
        (with_branch-old olds (branch_by sim front olds w) x i)))))
        fresh.1 targets.1 knows

    -- both fronts begin with the same branches
    pub agree-initial : (names : List (List ℕ)) (bs : List Branch) →
        ((x : Branch) → In x bs → AreForStations sim x.clone.plans × In x.clone.name names) →
        AgreeSoFar front bound Known Late names bs bs
    agree-initial names bs h = record {
      keeps = λ name x e. e;
      late = λ name y e. inl e;
      within = λ x i. i;
      is_late = λ y i. inl i;
      for_stations = λ x i. (h x i).0;
      named = λ x i. (h x i).1;
    }

-- ---- outcomes

module _ {S M N : Type 0} (sim : Simulation S M N) where
  -- the branches after all triggers are the first ones, then the outcomes
  pub branches_at-is : (front : ℕ) (bs : List Branch) (ws : List (Trigger N)) →
      branches_at sim front bs ws ≡ bs ++ present (outcomes sim front bs ws)
  branches_at-is front bs [] = sym (append-nil bs)
  branches_at-is front bs (w ∷ ws) = branches_at-is front (with_branch bs (branch_by sim front bs w)) ws
      ∙ by (branch_by sim front bs w)
    where
      by : (o : Option Branch) →
          with_branch bs o ++ present (outcomes sim front (with_branch bs (branch_by sim front bs w)) ws)
          ≡ bs ++ cons_option o (present (outcomes sim front (with_branch bs (branch_by sim front bs w)) ws))
      by None = refl
      by (Some b) =
          append_assoc bs (b ∷ []) (present (outcomes sim front (with_branch bs (branch_by sim front bs w)) ws))
