-- The copies of a station after mail: their pending messages, what is unchanged, and the least times.
use Rattle.std.proofs.Common.{◌≡◌, ℕ, ◌+◌, ◌<◌, ◌≤◌, ◌==◌, Bool, true, false, cond, ◌⊎◌, List, [], ◌∷◌, ◌++◌}
use Rattle.std.proofs.Common.{inl, inr, Option, Some, None, refl, sym, ap, ap₂, ◌∙◌, subst, arith, map, drop, get_or}
use Rattle.std.proofs.Common.{eq-eqb, eqb-true}
use Rattle.std.proofs.Common.{take, length, IfSome}
use Rattle.std.specs.List.{AllByRecursion, flat_map}
use Rattle.std.proofs.lemmas.Bool.{ne_eqb}
use Rattle.std.proofs.lemmas.List.{append-nil}
use Rattle.std.proofs.lemmas.List.Elements.{filter-append}
use Rattle.std.proofs.lemmas.Grind.{flat_map-append}
use Rattle.sim_base.specs.declared.message.Msg.{Msg}
use Rattle.sim_base.proofs.Elements.{take_next}
use Rattle.sim_base.proofs.ListLaws.{all_weaker}
use Rattle.clone_sets.specs.declared.set.CloneSet.{CloneSet}
use Rattle.net_model.specs.Net.{Net}
use Rattle.run_laws.proofs.Queue.{all_from, all_in}
use Rattle.phys_proc.specs.Own.{StationCopy, MarkedMessages, IsCopy, IsLowerBound, IsLowerBoundOfAll}
use Rattle.phys_proc.specs.Own.{but_pending, with_message}
use Rattle.phys_proc.specs.Procs.{AreShared, IsLeastTime, IsProc, ProcView}
use Rattle.phys_proc.specs.Racks.{view_of_copy}
use Rattle.phys_proc.proofs.Delivery.{all_fit}
use Rattle.phys_proc.proofs.Halves.{IsCopy-like}
use Rattle.phys_proc.proofs.LowerBounds.{IsLowerBound-before, IsLowerBoundOfAll-given}
use Rattle.phys_proc.proofs.Shares.{shares_same}
use Rattle.station_steps.specs.Mail.{IsEarliest, IsFirstFor, IsNoted, KeepsMail, with_own_mail}
use Rattle.station_steps.specs.Windows.{IsDeliveredTo, mail_for, with_mail}
use Rattle.station_steps.specs.declared.sent_list.TheConstants.{NO_MAIL}
use Rattle.station_steps.proofs.Delivering.{with_mail-append}

-- ---- lists of lists

-- the elements of one more list come after those of the lists before
pub flat_map-next : {X Y : Type 0} (f : X → List Y) (xs : List X) (i : ℕ) (x : X) → i < length xs → x ≡ get_or xs i x
    → flat_map f (take (i + 1) xs) ≡ flat_map f (take i xs) ++ f x
flat_map-next f xs i x l is = ap (flat_map f) (take_next xs i x l is) ∙ flat_map-append f (take i xs) (x ∷ [])
    ∙ ap (λ ys. flat_map f (take i xs) ++ ys) (append-nil (f x))

-- ---- mail_for

-- the messages of two lists for a station are those of the first, and then those of the second
pub mail_for-append : (s : ℕ) (xs ys : MarkedMessages) → mail_for s (xs ++ ys) ≡ mail_for s xs ++ mail_for s ys
mail_for-append s xs ys = filter-append (λ x. x.0.to == s) xs ys

-- a message for a station is for it
pub mail_for-own : (s : ℕ) (x : Msg × CloneSet) → x.0.to ≡ s → mail_for s (x ∷ []) ≡ x ∷ []
mail_for-own s x e = ap (λ b. cond b (x ∷ []) []) (eq-eqb x.0.to s e)

-- and a message for another is not
pub mail_for-other : (s : ℕ) (x : Msg × CloneSet) → (x.0.to ≡ s → ⊥) → mail_for s (x ∷ []) ≡ []
mail_for-other s x n = ap (λ b. cond b (x ∷ []) []) (ne_eqb x.0.to s n)

-- the messages for a station, with one more message
pub mail_for-next : (s : ℕ) (ms : MarkedMessages) (i : ℕ) (x : Msg × CloneSet) → i < length ms → x ≡ get_or ms i x
    → mail_for s (take (i + 1) ms) ≡ mail_for s (take i ms) ++ mail_for s (x ∷ [])
mail_for-next s ms i x l is = ap (mail_for s) (take_next ms i x l is) ∙ mail_for-append s (take i ms) (x ∷ [])

-- ---- IsDeliveredTo

-- messages, and then more of them
pub IsDeliveredTo-then : (xs ys : MarkedMessages) (first second third : ProcView) → IsDeliveredTo xs first second
    → IsDeliveredTo ys second third → IsDeliveredTo (xs ++ ys) first third
IsDeliveredTo-then xs ys first second third a b = record {
  copies = b.copies ∙ ap (with_mail ys) a.copies ∙ sym (with_mail-append xs ys first.copies);
  station = b.station ∙ a.station;
  living = b.living ∙ a.living;
  once = b.once ∙ a.once;
  proc = λ net h. b.proc net (a.proc net h);
}

-- a station to which its messages were delivered is the station with its own mail
pub given_is : (ms : MarkedMessages) (p q : ProcView) → IsDeliveredTo (mail_for p.station ms) p q
    → q ≡ with_own_mail ms p
given_is ms p q h = λ j. record {
  station = h.station j;
  living = h.living j;
  handled = h.once j;
  copies = h.copies j;
}

-- a station that has taken its mail equals its view before
pub taken_is : (ms took : MarkedMessages) (raw p q v : ProcView) → IsDeliveredTo (mail_for p.station took) p q
    → took ≡ ms → p ≡ raw → with_own_mail ms raw ≡ v → q ≡ v
taken_is ms took raw p q v h e f is = given_is took p q h ∙ ap₂ with_own_mail e f ∙ is

-- ---- but_pending and view_of_copy

-- after a message is delivered to each, copies differ only in their pending messages
pub but_pending-mail : (ms : MarkedMessages) (xs : List StationCopy)
    → map but_pending (with_mail ms xs) ≡ map but_pending xs
but_pending-mail [] xs = refl
but_pending-mail (x ∷ ms) xs = but_pending-mail ms (map (with_message x.0 x.1) xs) ∙ same xs
  where
    same : (ys : List StationCopy) → map but_pending (map (with_message x.0 x.1) ys) ≡ map but_pending ys
    same [] = refl
    same (y ∷ ys) = ap (λ l. but_pending y ∷ l) (same ys)

-- a reader sees the same
pub view_of_copy-mail : (ms : MarkedMessages) (xs : List StationCopy)
    → map view_of_copy (with_mail ms xs) ≡ map view_of_copy xs
view_of_copy-mail [] xs = refl
view_of_copy-mail (x ∷ ms) xs = view_of_copy-mail ms (map (with_message x.0 x.1) xs) ∙ same xs
  where
    same : (ys : List StationCopy) → map view_of_copy (map (with_message x.0 x.1) ys) ≡ map view_of_copy ys
    same [] = refl
    same (y ∷ ys) = ap (λ l. view_of_copy y ∷ l) (same ys)

-- the copies still partition the living clones
pub AreShared-mail : (ms : MarkedMessages) (p : ProcView) → AreShared p.living p.copies
    → AreShared (with_own_mail ms p).living (with_own_mail ms p).copies
AreShared-mail ms p h = (shares_same p.station 0 p.living p.copies (with_own_mail ms p).copies
    (but_pending-mail (mail_for p.station ms) p.copies) (record { shares = h; once = omega arith })).shares

-- ---- IsProc

-- copies of a station are still so with its messages
fits_with : (net : Net) (s : ℕ) (ms : MarkedMessages) (xs : List StationCopy) → AllByRecursion (IsCopy net s) xs
    → AllByRecursion (IsCopy net s) (with_mail (mail_for s ms) xs)
fits_with net s [] xs f = f
fits_with net s (x ∷ ms) xs f = by (x.0.to == s) refl (fits_with net s ms)
  where
    by : (b : Bool) → (x.0.to == s) ≡ b → ((ys : List StationCopy) → AllByRecursion (IsCopy net s) ys
        → AllByRecursion (IsCopy net s) (with_mail (mail_for s ms) ys))
        → AllByRecursion (IsCopy net s) (with_mail (cond b (x ∷ mail_for s ms) (mail_for s ms)) xs)
    by true e rest = rest (map (with_message x.0 x.1) xs) (all_fit net (λ c. 0) x.0 x.1 s xs (eqb-true x.0.to s e) f)
    by false e rest = rest xs f

-- a station of a network is one with its own mail
pub IsProc-mail : (ms : MarkedMessages) (p : ProcView) (net : Net) → IsProc net p → IsProc net (with_own_mail ms p)
IsProc-mail ms p net h = record {
  valid = h.valid;
  is_station = h.is_station;
  copies = fits_with net p.station ms p.copies h.copies;
}

-- a station with its own mail is one to which its messages were delivered
pub IsDeliveredTo-own : (ms : MarkedMessages) (p : ProcView)
    → IsDeliveredTo (mail_for p.station ms) p (with_own_mail ms p)
IsDeliveredTo-own ms p = record {
  copies = refl;
  station = refl;
  living = refl;
  once = refl;
  proc = IsProc-mail ms p;
}

-- a copy of a station of some network is one of this network, if a copy that differs only in its pending messages is
fits_back : (n net : Net) (s : ℕ) (a b : StationCopy) → but_pending b ≡ but_pending a → IsCopy n s a → IsCopy net s b
    → IsCopy net s a
fits_back n net s a b e g f = IsCopy-like net s b a f (sym (ap (λ (u : StationCopy). u.state) e))
    (sym (ap (λ (u : StationCopy). u.log) e)) g.inhabited g.sorted g.targets g.marks

-- the same for lists of copies
all_fit_back : (n net : Net) (s : ℕ) (xs ys : List StationCopy) → map but_pending ys ≡ map but_pending xs
    → AllByRecursion (IsCopy n s) xs → AllByRecursion (IsCopy net s) ys → AllByRecursion (IsCopy net s) xs
all_fit_back n net s [] ys e g f = tt
all_fit_back n net s (x ∷ xs) [] e g f = absurd (cc)
all_fit_back n net s (x ∷ xs) (y ∷ ys) e g f = (
  fits_back n net s x y (ap (λ l. get_or l 0 (but_pending x)) e) g.0 f.0,
  all_fit_back n net s xs ys (ap (λ l. drop 1 l) e) g.1 f.1,
)

-- a station of some network is one of this network, if it is with its own mail
pub IsProc-before : (ms : MarkedMessages) (p : ProcView) (n net : Net) → IsProc n p → IsProc net (with_own_mail ms p)
    → IsProc net p
IsProc-before ms p n net g h = record {
  valid = h.valid;
  is_station = h.is_station;
  copies = all_fit_back n net p.station p.copies (with_mail (mail_for p.station ms) p.copies)
      (but_pending-mail (mail_for p.station ms) p.copies) g.copies h.copies;
}

-- ---- IsLowerBoundOfAll

-- with messages that are not before the time, no message is pending before it
lower_with : (t : ℕ) (ms : MarkedMessages) (xs : List StationCopy) → AllByRecursion (λ x. t ≤ x.0.key.time) ms
    → IsLowerBoundOfAll t xs → IsLowerBoundOfAll t (with_mail ms xs)
lower_with t [] xs late f = f
lower_with t (x ∷ ms) xs late f = let l = late.0 in lower_with t ms (map (with_message x.0 x.1) xs) late.1
    (IsLowerBoundOfAll-given t t x.0 x.1 xs (omega (arith, l)) f)

-- ---- KeepsMail

-- without mail a station is unchanged
pub KeepsMail-none : (bound : ℕ) (p : ProcView) → IsLowerBoundOfAll bound p.copies → KeepsMail bound [] p
KeepsMail-none bound p lower = record { lower = lower; proc = λ net h. h }

-- the same with mail that is not before the bound
pub KeepsMail-post : (n : Net) (bound first low : ℕ) (ms : MarkedMessages) (p : ProcView) → IsProc n p
    → low ≤ bound → low ≤ first → IsFirstFor p.station ms first → IsLowerBoundOfAll bound p.copies
    → KeepsMail low ms p
KeepsMail-post n bound first low ms p is below soon h lower = record {
  lower = lower_with low (mail_for p.station ms) p.copies
      (all_from (λ x. low ≤ x.0.key.time) (mail_for p.station ms) (λ x i.
      let l = all_in (λ x. first ≤ x.0.key.time) (mail_for p.station ms) x h.first i in omega (arith, l, soon)))
      (all_weaker (IsLowerBound bound) (IsLowerBound low) p.copies
      (λ a h. IsLowerBound-before low bound a below h) lower);
  proc = λ net h. IsProc-before ms p n net is h;
}

-- ---- IsNoted and IsFirstFor

module _ (firsts : List ℕ) (s : ℕ) where
  -- no message for the station is before its recorded first time
  noted_first : (ms : MarkedMessages) → AllByRecursion (IsNoted firsts) ms
      → AllByRecursion (λ x. get_or firsts s 0 ≤ x.0.key.time) (mail_for s ms)
  noted_first [] h = tt
  noted_first (x ∷ ms) h = by (x.0.to == s) refl (noted_first ms h.1)
    where
      by : (b : Bool) → (x.0.to == s) ≡ b → AllByRecursion (λ x. get_or firsts s 0 ≤ x.0.key.time) (mail_for s ms)
          → AllByRecursion (λ x. get_or firsts s 0 ≤ x.0.key.time) (cond b (x ∷ mail_for s ms) (mail_for s ms))
      by true e rest = (subst (λ n. get_or firsts n 0 ≤ x.0.key.time) (eqb-true x.0.to s e) h.0.first, rest)
      by false e rest = rest

  -- if no first time is recorded, there is no message for it
  noted_none : (ms : MarkedMessages) → AllByRecursion (IsNoted firsts) ms → NO_MAIL ≤ get_or firsts s 0
      → mail_for s ms ≡ []
  noted_none [] h is = refl
  noted_none (x ∷ ms) h is = by (x.0.to == s) refl (noted_none ms h.1 is)
    where
      by : (b : Bool) → (x.0.to == s) ≡ b → mail_for s ms ≡ [] → cond b (x ∷ mail_for s ms) (mail_for s ms) ≡ []
      by true e rest = absurd (let l = subst (λ n. get_or firsts n 0 < NO_MAIL) (eqb-true x.0.to s e) h.0.has_mail in
          omega (arith, l, is))
      by false e rest = rest

  -- the recorded time for a station is a first time for it
  pub IsFirstFor-noted : (ms : MarkedMessages) → AllByRecursion (IsNoted firsts) ms
      → IsFirstFor s ms (get_or firsts s 0)
  IsFirstFor-noted ms h = record { first = noted_first ms h; none = noted_none ms h }

-- the lesser of the first times of two lists is a first time for both together
pub IsFirstFor-append : (s : ℕ) (xs ys : MarkedMessages) (t u low : ℕ) → low ≤ t → low ≤ u
    → IsFirstFor s xs t → IsFirstFor s ys u → IsFirstFor s (xs ++ ys) low
IsFirstFor-append s xs ys t u low a b f g = record {
  first = subst (AllByRecursion (λ x. low ≤ x.0.key.time)) (sym (mail_for-append s xs ys))
      (joined (mail_for s xs) f.first);
  none = λ e. mail_for-append s xs ys ∙ ap (λ l. l ++ mail_for s ys) (f.none (omega (arith, a, e)))
      ∙ g.none (omega (arith, b, e));
}
  where
    later : (zs : MarkedMessages) → AllByRecursion (λ x. u ≤ x.0.key.time) zs
        → AllByRecursion (λ x. low ≤ x.0.key.time) zs
    later [] h = tt
    later (z ∷ zs) h = (let l = h.0 in omega (arith, l, b), later zs h.1)

    joined : (zs : MarkedMessages) → AllByRecursion (λ x. t ≤ x.0.key.time) zs
        → AllByRecursion (λ x. low ≤ x.0.key.time) (zs ++ mail_for s ys)
    joined [] h = later (mail_for s ys) g.first
    joined (z ∷ zs) h = (let l = h.0 in omega (arith, l, a), joined zs h.1)

-- ---- IsEarliest

-- a property of no message leaves the time unchanged
pub IsEarliest-none : (before : Option ℕ) (Q : Msg → Type 0) → ((m : Msg) → Q m → ⊥) → IsEarliest before Q before
IsEarliest-none None Q none = (refl, none)
IsEarliest-none (Some t) Q none = (inl refl, omega arith, λ m q. absurd (none m q))

-- the same for a property of no message before the time
pub IsEarliest-late : (t : ℕ) (Q : Msg → Type 0) → ((m : Msg) → Q m → t ≤ m.key.time)
    → IsEarliest (Some t) Q (Some t)
IsEarliest-late t Q late = (inl refl, omega arith, late)

-- a property of one message only, which is before the time
pub IsEarliest-one : (before : Option ℕ) (m : Msg) (Q : Msg → Type 0) → IfSome before (λ b. m.key.time ≤ b) → Q m
    → ((z : Msg) → Q z → z ≡ m) → IsEarliest before Q (Some m.key.time)
IsEarliest-one before m Q sooner is only = (
  inr (m, is, refl),
  sooner,
  λ z q. subst (λ (u : Msg). m.key.time ≤ u.key.time) (sym (only z q)) (omega arith),
)

-- the earlier of the time and messages of one kind, and then of another, is that of both kinds
pub IsEarliest-then : (a b c : Option ℕ) (P Q R : Msg → Type 0) → ((m : Msg) → P m → R m) → ((m : Msg) → Q m → R m)
    → ((m : Msg) → R m → P m ⊎ Q m) → IsEarliest a P b → IsEarliest b Q c → IsEarliest a R c
IsEarliest-then a b None P Q R f g e h k =
    let p = subst (IsEarliest a P) k.0 h in
    (p.0, λ m r. elim (e m r) [ inl x ↦ p.1 m x | inr y ↦ k.1 m y ])
IsEarliest-then a b (Some t) P Q R f g e h k = (
  elim k.0 [
    | inl is ↦ elim (subst (IsEarliest a P) is h).0 [ inl x ↦ inl x | inr x ↦ inr (x.0, f x.0 x.1, x.2) ]
    | inr y ↦ inr (y.0, g y.0 y.1, y.2)
  ],
  before a b h k.1,
  λ m r. elim (e m r) [ inl x ↦ least b h k.1 m x | inr y ↦ k.2 m y ],
)
  where
    before : (a b : Option ℕ) → IsEarliest a P b → IfSome b (λ u. t ≤ u) → IfSome a (λ u. t ≤ u)
    before None b h l = tt
    before (Some x) None h l = absurd (let n = h.0 in cc)
    before (Some x) (Some u) h l = let n = h.1 in omega (arith, n, l)

    least : (b : Option ℕ) → IsEarliest a P b → IfSome b (λ u. t ≤ u) → (m : Msg) → P m → t ≤ m.key.time
    least None h l m p = absurd (h.1 m p)
    least (Some u) h l m p = let n = h.2 m p in omega (arith, n, l)

-- the earlier of a least time and messages of another kind is the least time of both kinds
pub least_earliest : (t u : Option ℕ) (P Q R : Msg → Type 0) → ((m : Msg) → P m → R m) → ((m : Msg) → Q m → R m)
    → ((m : Msg) → R m → P m ⊎ Q m) → IsLeastTime P t → IsEarliest t Q u → IsLeastTime R u
least_earliest t None P Q R f g e h k =
    let p = subst (IsLeastTime P) k.0 h in
    λ m r. elim (e m r) [ inl x ↦ p m x | inr y ↦ k.1 m y ]
least_earliest t (Some u) P Q R f g e h k = (
  elim k.0 [
    | inl is ↦ let p = (subst (IsLeastTime P) is h).0 in (p.0, f p.0 p.1, p.2)
    | inr y ↦ (y.0, g y.0 y.1, y.2)
  ],
  λ m r. elim (e m r) [ inl x ↦ least t h k.1 m x | inr y ↦ k.2 m y ],
)
  where
    least : (t : Option ℕ) → IsLeastTime P t → IfSome t (λ b. u ≤ b) → (m : Msg) → P m → u ≤ m.key.time
    least None h l m p = absurd (h m p)
    least (Some b) h l m p = let n = h.1 m p in omega (arith, n, l)
