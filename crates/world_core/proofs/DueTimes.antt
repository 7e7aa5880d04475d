-- Due times and figures, by the copies.
use Rattle.std.proofs.Common.{◌≡◌, ◌⊎◌, ℕ, zero, suc, ◌+◌, ◌-◌, ◌*◌, ◌++◌, take, ◌<◌}
use Rattle.std.proofs.Common.{◌≤◌, List, [], ◌∷◌, inl, inr, Option, Some, refl, sym}
use Rattle.std.proofs.Common.{ap, ◌∙◌, subst, arith, length, slice_get, get_or, unwrap_or, option_map, sum_by}
use Rattle.std.specs.List.{AllByRecursion}
use Rattle.std.proofs.Math.Nat.{add-mul, mul-le-mul_left}
use Rattle.std.proofs.lemmas.Bool.{cases_eq}
use Rattle.std.proofs.lemmas.Option.{slice_get_cases, same_Some, slice_get_within}
use Rattle.std.proofs.lemmas.List.Sums.{sum_by-cons}
use Rattle.std.proofs.Math.Numerals.{add-one}
use Rattle.sim_base.specs.Clones.{Clone, clone_at}
use Rattle.sim_base.specs.Same.{same_entry}
use Rattle.sim_base.specs.declared.message.Msg.{Msg}
use Rattle.sim_base.specs.declared.lists.TheConstants.{MAX_CLONES}
use Rattle.sim_base.proofs.ListLaws.{all_weaker}
use Rattle.sim_base.proofs.SameEntry.{same_entry-Decides}
use Rattle.clone_sets.specs.Sets.{has, size}
use Rattle.clone_sets.specs.declared.set.CloneSet.{CloneSet}
use Rattle.clone_sets.proofs.CountLaws.{size_is_count}
use Rattle.net_model.specs.Net.{Net}
use Rattle.net_model.specs.declared.limits.TheConstants.{MAX_LIMIT}
use Rattle.stations.specs.Runs.{simulation, copies, handled_once, handled_alone}
use Rattle.stations.proofs.GoodLaws.{lawful-stations, stations-to_stations}
use Rattle.run_laws.specs.Queue.{In}
use Rattle.run_laws.specs.Handlers.{IsStation}
use Rattle.run_laws.specs.Copies.{Stands, ends_of, Carries}
use Rattle.run_laws.specs.Fronts.{earlier, least_time, least_of, least}
use Rattle.run_laws.specs.FrontLaws.{IsTaken, least_to}
use Rattle.run_laws.specs.Runs.{due_at}
use Rattle.run_laws.proofs.Leasts.{least-unique, least_time-is}
use Rattle.run_laws.proofs.DueTimes.{least_of-stations, least-copies}
use Rattle.run_laws.proofs.Gaining.{copies_are_logs}
use Rattle.run_laws.proofs.Sums.{alone-copies, clones-copies}
use Rattle.phys_proc.specs.Ends.{ends_in}
use Rattle.phys_proc.specs.Own.{StationCopy, IsCopy, handled_alone_by, all_sizes, taken_at}
use Rattle.phys_proc.specs.Procs.{ProcView, IsTakenBy, IsLeastTime, IsLeastOf}
use Rattle.phys_proc.proofs.ComesFrom.{sets_join}
use Rattle.phys_proc.proofs.LeastTimes.{least_as}
use Rattle.station_steps.specs.Windows.{copies_at}
use Rattle.world_core.specs.Worlds.{StandsAt, WorldStands}
use Rattle.station_steps.proofs.Flows.{copies_at-got}
use Rattle.station_steps.proofs.Places.{by_number}

-- the time of a message
abbrev time_of : Msg → ℕ
time_of m = m.key.time

-- ---- TakenTo

-- a message that is taken at one of the first n places
pub record TakenTo (ends : ℕ → ℕ) (procs : List ProcView) (n : ℕ) (m : Msg) : Type 0 where
  pub place : ℕ
  pub before : place < n
  pub proc : ProcView
  pub got : slice_get procs place ≡ Some proc
  pub clone : ℕ
  pub taken : IsTakenBy ends proc.copies clone m

-- the least time of those
abbrev pub IsLeastTo : (ℕ → ℕ) → List ProcView → ℕ → Option ℕ → Type 0
IsLeastTo ends procs n t = IsLeastTime (TakenTo ends procs n) t

module _ (net : Net) (cs : List Clone) (ended : List (ℕ × ℕ)) (front : ℕ) (procs : List ProcView)
    (world : WorldStands net cs ended front procs) where
  abbrev ends : ℕ → ℕ
  ends = ends_in net.horizon ended

  -- ---- of one clone

  -- the least time of the messages that a clone takes from a station's copies is its least due time there
  least_here : (i c : ℕ) (p : ProcView) (t : Option ℕ) → slice_get procs i ≡ Some p → c < length cs
      → IsLeastOf ends p.copies c t →
      least_time time_of (due_at (simulation net) (clone_at cs c) (i + 1) front) ≡ t
  least_here i c p t got l h =
      let st = (world.each i p got).copies in
      let h2 = subst (λ e. IsLeastOf e p.copies c t) world.ends h in
      sym (least-unique time_of (IsTakenBy (ends_of (simulation net) cs) p.copies c)
      (λ m. In m (due_at (simulation net) (clone_at cs c) (i + 1) front)) t
      (least_time time_of (due_at (simulation net) (clone_at cs c) (i + 1) front))
      (λ m x. subst (In m) (st.due x.copy c x.is_copy x.is_in) x.is_taken)
      (λ m d. let a = st.carried c l in
      record { copy = a.0; is_copy = a.1; is_in = a.2; is_taken = subst (In m) (sym (st.due a.0 c a.1 a.2)) d })
      h2 (least_time-is time_of (due_at (simulation net) (clone_at cs c) (i + 1) front)))

  -- the clone's least due time up to a station, with its least in the next station's copies, is that up to the next
  pub least_of_next : (i c : ℕ) (p : ProcView) (before here : Option ℕ) → slice_get procs i ≡ Some p → c < length cs →
      before ≡ least_to (simulation net) (clone_at cs c) front i → IsLeastOf ends p.copies c here →
      earlier before here ≡ least_to (simulation net) (clone_at cs c) front (i + 1)
  least_of_next i c p before here got l e h =
      let e1 : least_time time_of (due_at (simulation net) (clone_at cs c) (suc i) front) ≡ here =
      subst (λ s. least_time time_of (due_at (simulation net) (clone_at cs c) s front) ≡ here) (add-one i)
      (least_here i c p here got l h) in
      subst (λ s. earlier before here ≡ least_to (simulation net) (clone_at cs c) front s) (sym (add-one i))
      (ap (λ b. earlier b here) e ∙ ap (earlier (least_to (simulation net) (clone_at cs c) front i)) (sym e1))

  -- up to the last station it is the clone's least due time
  pub least_of_all : (n c : ℕ) (t : Option ℕ) → n ≡ length procs → c < length cs
      → t ≡ least_to (simulation net) (clone_at cs c) front n → t ≡ least_of (simulation net) (clone_at cs c) front
  least_of_all n c t many l e =
      e ∙ ap (least_to (simulation net) (clone_at cs c) front) (many ∙ world.count)
      ∙ sym (least_of-stations (lawful-stations net world.valid) (stations-to_stations net world.valid)
      (clone_at cs c) front (world.for_stations c l))

  -- ---- of all clones

  -- the least time taken before a place and at it is the least up to the next place
  pub least_next : (i : ℕ) (p : ProcView) (after : Option ℕ) → slice_get procs i ≡ Some p →
      IsLeastTime (λ m. TakenTo ends procs i m ⊎ ((c : ℕ) × IsTakenBy ends p.copies c m)) after →
      IsLeastTime (TakenTo ends procs (i + 1)) after
  least_next i p after got h = least_as (λ m. TakenTo ends procs i m ⊎ ((c : ℕ) × IsTakenBy ends p.copies c m))
      (TakenTo ends procs (i + 1)) after to from h
    where
      to : (m : Msg) → TakenTo ends procs i m ⊎ ((c : ℕ) × IsTakenBy ends p.copies c m) → TakenTo ends procs (i + 1) m
      to m (inl x) = let l = x.before in
          record {
            place = x.place;
            before = omega (arith, l);
            proc = x.proc;
            got = x.got;
            clone = x.clone;
            taken = x.taken;
          }
      to m (inr x) = record { place = i; before = omega arith; proc = p; got = got; clone = x.0; taken = x.1 }

      from : (m : Msg) → TakenTo ends procs (i + 1) m → TakenTo ends procs i m ⊎ ((c : ℕ) × IsTakenBy ends p.copies c m)
      from m x = elim (cases_eq x.place i) [
        | inl e ↦ inr (
          x.clone,
          subst (λ (q : ProcView). IsTakenBy ends q.copies x.clone m)
              (sym (same_Some p x.proc (sym got ∙ ap (slice_get procs) (sym e) ∙ x.got))) x.taken,
        )
        | inr n ↦ let l = x.before in inl
            (record {
              place = x.place;
              before = less n l;
              proc = x.proc;
              got = x.got;
              clone = x.clone;
              taken = x.taken;
            })
      ]
        where
          less : (x.place ≡ i → ⊥) → x.place < i + 1 → x.place < i
          less n l = grind (arith, l)

  -- the copies of each station, by its number
  abbrev copies_of : ℕ → List StationCopy
  copies_of = by_number [] (copies_at procs)

  -- they represent the clones
  stand_there : (s : ℕ) → IsStation (simulation net) s → Stands (simulation net) has cs front s (copies_of s)
  stand_there zero h = absurd (let l = h.0 in omega (arith, l))
  stand_there (suc i) h = elim (slice_get_cases procs i).1 [
    | inl found ↦
        let w = world.each i found.0 found.2 in
        subst (λ s. Stands (simulation net) has cs front s (copies_at procs i)) (add-one i)
        (subst (Stands (simulation net) has cs front (i + 1))
        (sym (copies_at-got procs i found.0 found.2)) w.copies)
    | inr past ↦ absurd (let l = h.1 in let k = past.0 in let n = world.count in omega (arith, k, l, n))
  ]

  -- up to the last place it is the least due time of all clones
  pub least_all : (n : ℕ) (t : Option ℕ) → length procs ≤ n → IsLeastTime (TakenTo ends procs n) t
      → t ≡ least (simulation net) cs front
  least_all n t many h = sym (least-copies (lawful-stations net world.valid) (stations-to_stations net world.valid)
      has cs front copies_of world.for_stations stand_there t
      (least_as (TakenTo ends procs n) (IsTaken CloneSet (simulation net) has cs copies_of) t to from h))
    where
      to : (m : Msg) → TakenTo ends procs n m → IsTaken CloneSet (simulation net) has cs copies_of m
      to m x =
          let e : copies_at procs x.place ≡ x.proc.copies = copies_at-got procs x.place x.proc x.got in
          let l = slice_get_within procs x.place x.proc x.got in
          let k = world.count in
          record {
            station = suc x.place;
            is_station = (omega arith, omega (arith, l, k));
            copy = x.taken.copy;
            is_copy = subst (In x.taken.copy) (sym e) x.taken.is_copy;
            clone = x.clone;
            is_in = x.taken.is_in;
            is_taken = subst (λ e. In m (taken_at e x.clone x.taken.copy.pending)) world.ends x.taken.is_taken;
          }

      at_place : (s : ℕ) (m : Msg) (copy : StationCopy) (c : ℕ) → IsStation (simulation net) s → In copy (copies_of s)
          → Carries has copy c → In m (taken_at (ends_of (simulation net) cs) c copy.pending) → TakenTo ends procs n m
      at_place zero m copy c h i g k = absurd i
      at_place (suc i) m copy c h j g k = elim (slice_get_cases procs i).1 [
        | inl found ↦ record {
          place = i;
          before = let l = found.0 in found_at i found.0 found.2;
          proc = found.0;
          got = found.2;
          clone = c;
          taken = record {
            copy = copy;
            is_copy = subst (In copy) (copies_at-got procs i found.0 found.2) j;
            is_in = g;
            is_taken = subst (λ e. In m (taken_at e c copy.pending)) (sym world.ends) k;
          };
        }
        | inr past ↦ absurd (subst (In copy)
            (ap (λ o. unwrap_or (option_map (λ (p : ProcView). p.copies) o) []) past.1) j)
      ]
        where
          found_at : (i : ℕ) (p : ProcView) → slice_get procs i ≡ Some p → i < n
          found_at i p got = let l = slice_get_within procs i p got in omega (arith, l, many)

      from : (m : Msg) → IsTaken CloneSet (simulation net) has cs copies_of m → TakenTo ends procs n m
      from m x = at_place x.station m x.copy x.clone x.is_station x.is_copy x.is_in x.is_taken

-- ---- figures

module _ (net : Net) (cs : List Clone) (front i : ℕ) (p : ProcView) (here : StandsAt net cs front i p) where
  -- the number of the station's different logs is that of its copies
  many_copies : copies net cs (i + 1) front ≡ length p.copies
  many_copies = copies_are_logs (lawful-stations net here.station.proc.valid) sets_join cs
      (i + 1) front p.copies here.copies same_entry same_entry-Decides

  -- the messages that the clones of copies would handle alone are a sum over the copies
  alone_sum : (xs : List StationCopy) → handled_alone_by xs ≡ sum_by (λ (a : StationCopy). size a.set * length a.log) xs
  alone_sum [] = refl
  alone_sum (x ∷ xs) = let h = alone_sum xs in let e =
      sum_by-cons (λ (a : StationCopy). size a.set * length a.log) x xs in omega (arith, h, e)

  -- the messages that the clones would handle alone there are what its copies count
  many_alone : handled_alone net cs (i + 1) front ≡ handled_alone_by p.copies
  many_alone = alone-copies has size (simulation net) cs front (i + 1) p.copies
      (λ a i. size_is_count a.set) here.copies ∙ sym (alone_sum p.copies)

-- ---- IsCopy

-- the logs of a station's copies are short
pub all_short : (net : Net) (s : ℕ) (xs : List StationCopy) → net.limit ≤ MAX_LIMIT → AllByRecursion (IsCopy net s) xs
    → AllByRecursion (λ (a : StationCopy). length a.log ≤ MAX_LIMIT) xs
all_short net s xs l h = all_weaker (IsCopy net s) (λ (a : StationCopy). length a.log ≤ MAX_LIMIT) xs
    (λ a is. let e = is.length_max in omega (arith, e, l)) h

-- ---- the figures of a station of a world

module _ (net : Net) (cs : List Clone) (ended : List (ℕ × ℕ)) (front : ℕ) (procs : List ProcView)
    (world : WorldStands net cs ended front procs) where
  -- the copies have the figures of station s at the front, and at most the maximum number of clones
  pub record HasFigures (s : ℕ) (p : ProcView) : Type 0 where
    pub copies_are : length p.copies ≡ copies net cs s front
    pub once : p.handled ≡ handled_once net cs s front
    pub each_alone : handled_alone_by p.copies ≡ handled_alone net cs s front
    pub sizes : all_sizes p.copies ≤ MAX_CLONES

  -- this holds for the copies of each station
  pub has_figures : (s : ℕ) (p : ProcView) → 1 ≤ s → slice_get procs (s - 1) ≡ Some p → HasFigures s p
  has_figures s p low got =
      let w = world.each (s - 1) p got in
      let same : s - 1 + 1 ≡ s = omega (arith, low) in
      subst (λ s. HasFigures s p) same (record {
        copies_are = sym (many_copies net cs front (s - 1) p w);
        once = w.once;
        each_alone = sym (many_alone net cs front (s - 1) p w);
        sizes = let e = clones-copies has size (simulation net) cs front (s - 1 + 1) p.copies
            (λ a i. size_is_count a.set) w.copies in let f = world.at_most in let g = sizes_sum p.copies in
            omega (arith, e, f, g);
      })
    where
      sizes_sum : (xs : List StationCopy) → all_sizes xs ≡ sum_by (λ (a : StationCopy). size a.set) xs
      sizes_sum [] = refl
      sizes_sum (x ∷ xs) = let h = sizes_sum xs in let e = sum_by-cons (λ (a : StationCopy). size a.set) x xs in
          omega (arith, h, e)

-- ---- handled_alone_by

-- one more copy
pub alone_next : (xs : List StationCopy) (x : StationCopy)
    → handled_alone_by (xs ++ x ∷ []) ≡ handled_alone_by xs + size x.set * length x.log
alone_next [] x = omega arith
alone_next (y ∷ ys) x = let h = alone_next ys x in omega (arith, h)

-- the sum of some of the copies is small
pub alone_within : (xs : List StationCopy) (i : ℕ) (x : StationCopy) → i < length xs → x ≡ get_or xs i x
    → AllByRecursion (λ (a : StationCopy). length a.log ≤ MAX_LIMIT) xs →
    handled_alone_by (take i xs) + size x.set * length x.log ≤ all_sizes xs * MAX_LIMIT
alone_within [] i x l e h = absurd (omega (arith, l))
alone_within (y ∷ ys) zero x l e h =
    let m = mul-le-mul_left (size y.set) h.0 in
    let d = add-mul (size y.set) (all_sizes ys) MAX_LIMIT in
    let same : size x.set * length x.log ≡ size y.set * length y.log =
    ap (λ (a : StationCopy). size a.set * length a.log) e in
    omega (arith, m, d, same)
alone_within (y ∷ ys) (suc i) x l e h =
    let k = alone_within ys i x (omega (arith, l)) e h.1 in
    let m = mul-le-mul_left (size y.set) h.0 in
    let d = add-mul (size y.set) (all_sizes ys) MAX_LIMIT in
    omega (arith, k, m, d)
