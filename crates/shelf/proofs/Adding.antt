-- The steps that give a pen and add a rack keep the rule of the history.
use Rattle.std.proofs.Common.{◌≡◌, ℕ, zero, suc, ◌<◌, ◌==◌, Bool, true, false, List, [], ◌∷◌, ◌++◌, length}
use Rattle.std.proofs.Common.{refl, ap, sym, ◌∙◌, subst, arith, inl, None, Some, Option, slice_set}
use Rattle.std.proofs.lemmas.List.{append-nil}
use Rattle.std.proofs.lemmas.Bool.Decides.{nat_tests}
use Rattle.std.specs.List.{AllByRecursion}
use mathlib.Core.List.{IsPrefix}
use prog.Atomic.{either}
use Rattle.logbook.specs.Pages.{Cell, cell, Nib, gives, adds, no_nib, may_write, step, Moves}
use Rattle.phys_proc.specs.Racks.{RackView}
use Rattle.shelf.specs.Rules.{with_first, next_key, racks_from, key_after, IsHistory, GivesPen, Adds}
use Rattle.shelf.specs.declared.entry.Entry.{Entry}

-- ---- racks_from, key_after

-- a first rack and a list are joined in either order
with_first-append : (b : Bool) (r : Option RackView) (xs ys : List RackView)
    → with_first b r (xs ++ ys) ≡ with_first b r xs ++ ys
with_first-append true (Some r) xs ys = refl
with_first-append true None xs ys = refl
with_first-append false r xs ys = refl

-- the racks of a joined log: those of its first part, and then those from the key after it
pub racks_from-append : (key : ℕ) (xs ys : List Entry)
    → racks_from key (xs ++ ys) ≡ racks_from key xs ++ racks_from (key_after key xs) ys
racks_from-append key [] ys = refl
racks_from-append key (e ∷ xs) ys =
    let next = next_key (e.used == key) e.next key in
    ap (with_first (e.used == key) e.rack) (racks_from-append next xs ys)
    ∙ with_first-append (e.used == key) e.rack (racks_from next xs) (racks_from (key_after next xs) ys)

-- so the racks of a prefix of a log are a prefix of the racks of the log
pub racks_from-prefix : (key : ℕ) (xs ys : List Entry) → IsPrefix xs ys
    → IsPrefix (racks_from key xs) (racks_from key ys)
racks_from-prefix key xs ys pre =
    (racks_from (key_after key xs) pre.0, sym (racks_from-append key xs pre.0) ∙ ap (racks_from key) pre.1)

-- the key after a joined log is the key after its second part
pub key_after-append : (key : ℕ) (xs ys : List Entry) → key_after key (xs ++ ys) ≡ key_after (key_after key xs) ys
key_after-append key [] ys = refl
key_after-append key (e ∷ xs) ys = key_after-append (next_key (e.used == key) e.next key) xs ys

-- no entry was made by the pen with this key
abbrev Unused : ℕ → List Entry → Type 0
Unused key log = AllByRecursion (λ e. (e.used == key) ≡ false) log

-- such entries add no racks
Unused-racks : (key : ℕ) (log : List Entry) → Unused key log → racks_from key log ≡ []
Unused-racks key [] unused = refl
Unused-racks key (e ∷ log) unused = rw unused.0 (Unused-racks key log unused.1)

Unused-key : (key : ℕ) (log : List Entry) → Unused key log → key_after key log ≡ key
Unused-key key [] unused = refl
Unused-key key (e ∷ log) unused = rw unused.0 (Unused-key key log unused.1)

-- an entry by this pen alone
one-racks : (e : Entry) → racks_from e.used (e ∷ []) ≡ with_first true e.rack []
one-racks e = rw (let same : (e.used == e.used) ≡ true = grind (arith, nat_tests) in same) refl

one-key : (e : Entry) → key_after e.used (e ∷ []) ≡ e.next
one-key e = rw (let same : (e.used == e.used) ≡ true = grind (arith, nat_tests) in same) refl

-- ---- cells

-- a cell of a key is at home
abbrev IsHome : List Cell → ℕ → Type 0
IsHome cells key = (cell cells key).1 ≡ true

-- a cell that comes home has its value
home-set : (cells : List Cell) (i n : ℕ) → i < length cells → cell (slice_set cells i (n, true)) i ≡ (n, true)
home-set [] i n l = absurd (omega (arith, l))
home-set (c ∷ cells) zero n l = refl
home-set (c ∷ cells) (suc i) n l = home-set cells i n (omega (arith, l))

-- the other cells stay as they are
cell-set : (cells : List Cell) (i j : ℕ) (c : Cell) → ((i ≡ j) → ⊥) → cell (slice_set cells i c) j ≡ cell cells j
cell-set [] i j c differ = refl
cell-set (x ∷ cells) zero zero c differ = absurd (differ refl)
cell-set (x ∷ cells) zero (suc j) c differ = refl
cell-set (x ∷ cells) (suc i) zero c differ = refl
cell-set (x ∷ cells) (suc i) (suc j) c differ = cell-set cells i j c (λ e. differ (ap suc e))

-- a cell at home stays at home
home-stays : (cells : List Cell) (i j n : ℕ) → IsHome cells j → IsHome (slice_set cells i (n, true)) j
home-stays [] i j n h = h
home-stays (c ∷ cells) zero zero n h = refl
home-stays (c ∷ cells) zero (suc j) n h = h
home-stays (c ∷ cells) (suc i) zero n h = h
home-stays (c ∷ cells) (suc i) (suc j) n h = home-stays cells i j n h

-- a new cell leaves those at home as they are
cell-more : (cells : List Cell) (j : ℕ) (c : Cell) → IsHome cells j → cell (cells ++ c ∷ []) j ≡ cell cells j
cell-more [] j c h = absurd (cc)
cell-more (x ∷ cells) zero c h = refl
cell-more (x ∷ cells) (suc j) c h = cell-more cells j c h

-- a cell that is at home is among the cells
home-within : (cells : List Cell) (j : ℕ) → IsHome cells j → j < length cells
home-within [] j h = absurd (cc)
home-within (c ∷ cells) zero h = omega arith
home-within (c ∷ cells) (suc j) h = let l = home-within cells j h in omega (arith, l)

-- setting a cell to its own value changes nothing
set-same : (cells : List Cell) (i : ℕ) → slice_set cells i (cell cells i) ≡ cells
set-same [] i = refl
set-same (c ∷ cells) zero = refl
set-same (c ∷ cells) (suc i) = ap (λ l. c ∷ l) (set-same cells i)

-- ---- the rule

-- clients of the log see nothing of it
abbrev pub shows_nothing : List Entry → List Entry
shows_nothing log = []

-- and trade nothing
abbrev pub trades_nothing : List Entry → List Entry → ℕ → Type 0
trades_nothing xs ys n = Unit {0}

-- a word after an exchange of 0 by 0
abbrev pub stays_zero : ℕ → ℕ
stays_zero n = either (n == 0) 0 n

all-map : (P Q : Entry → Type 0) (log : List Entry) → ((e : Entry) → P e → Q e) → AllByRecursion P log
    → AllByRecursion Q log
all-map P Q [] f all = tt
all-map P Q (e ∷ log) f all = (f e all.0, all-map P Q log f all.1)

all-end : (P : Entry → Type 0) (xs ys : List Entry) → AllByRecursion P (xs ++ ys) → AllByRecursion P ys
all-end P [] ys all = all
all-end P (e ∷ xs) ys all = all-end P xs ys all.1

all-join : (P : Entry → Type 0) (xs : List Entry) (e : Entry) → AllByRecursion P xs → P e
    → AllByRecursion P (xs ++ e ∷ [])
all-join P [] e all this = (this, tt)
all-join P (x ∷ xs) e all this = (all.0, all-join P xs e all.1 this)

-- ---- Moves

-- the head's cell after an exchange of 0 by 0
head-stays : (cells : List Cell) → cell cells 0 ≡ (0, true)
    → slice_set cells 0 (stays_zero (cell cells 0).0, true) ≡ cells
head-stays cells e =
    subst (λ c. slice_set cells 0 (stays_zero c.0, true) ≡ cells) (sym e)
    (subst (λ c. slice_set cells 0 c ≡ cells) e (set-same cells 0))

-- whatever the log is, the step makes a pen
pub gives_moves : (seen : List Entry) (e : Entry)
    → Moves IsHistory shows_nothing trades_nothing 0 (seen, (no_nib, None)) stays_zero
    (GivesPen (step 0 0 0 e) (seen, (no_nib, None)))
gives_moves seen e cells all kept pre away =
    let head : IsHome cells 0 = ap (λ (c : Cell). c.1) kept.head in
    let more : List Cell = cells ++ (0, false) ∷ [] in
    let kept' : IsHistory more (all ++ []) = subst (IsHistory more) (sym (append-nil all)) (record {
      head = cell-more cells 0 (0, false) head ∙ kept.head;
      used = all-map (λ e. IsHome cells e.used) (λ e. IsHome more e.used) all
          (λ e h. ap (λ (c : Cell). c.1) (cell-more cells e.used (0, false) h) ∙ h) kept.used;
    }) in (
      home-within cells 0 head,
      head,
      (
        adds,
        [],
        None,
        tt,
        subst (λ cs. IsHistory (cs ++ (0, false) ∷ []) (all ++ [])) (sym (head-stays cells kept.head)) kept',
        inl (refl, refl),
        refl,
      ),
    )

-- a pen that may write has made no entry that was not seen
not_used : (cells : List Cell) (all seen : List Entry) (key : ℕ) → AllByRecursion (λ e. IsHome cells e.used) all
    → (pre : IsPrefix seen all) → (cell cells key).1 ≡ false → Unused key pre.0
not_used cells all seen key used pre out =
    let whole = subst (AllByRecursion (λ e. IsHome cells e.used)) (sym pre.1) used in
    let rest = all-end (λ e. IsHome cells e.used) seen pre.0 whole in
    all-map (λ e. IsHome cells e.used) (λ e. (e.used == key) ≡ false) pre.0
    (λ e h. differs e h (e.used == key) refl) rest
  where
    differs : (e : Entry) → IsHome cells e.used → (b : Bool) → (e.used == key) ≡ b → (e.used == key) ≡ false
    differs e h true is =
        let same : e.used ≡ key = grind (arith, nat_tests) in
        let h' : (cell cells key).1 ≡ true = subst (λ k. (cell cells k).1 ≡ true) same h in
        absurd (cc (h', out))
    differs e h false is = is

-- so an entry by this pen adds one rack to those that were seen
adds_racks : (seen rest : List Entry) (e : Entry) (key : ℕ) → Unused e.used rest → key_after key seen ≡ e.used
    → racks_from key ((seen ++ rest) ++ e ∷ []) ≡ racks_from key seen ++ with_first true e.rack []
adds_racks seen rest e key unused here =
    let k : key_after key (seen ++ rest) ≡ e.used =
    key_after-append key seen rest ∙ (ap (λ k. key_after k rest) here ∙ Unused-key e.used rest unused) in
    let r : racks_from key (seen ++ rest) ≡ racks_from key seen =
    racks_from-append key seen rest ∙ (ap (λ k. racks_from key seen ++ racks_from k rest) here
    ∙ (ap (λ l. racks_from key seen ++ l) (Unused-racks e.used rest unused) ∙ append-nil (racks_from key seen))) in
    racks_from-append key (seen ++ rest) (e ∷ [])
    ∙ (ap (λ l. l ++ racks_from (key_after key (seen ++ rest)) (e ∷ [])) r
    ∙ ap (λ l. racks_from key seen ++ l) (ap (λ k. racks_from k (e ∷ [])) k ∙ one-racks e))

adds_key : (seen rest : List Entry) (e : Entry) (key : ℕ) → Unused e.used rest → key_after key seen ≡ e.used
    → key_after key ((seen ++ rest) ++ e ∷ []) ≡ e.next
adds_key seen rest e key unused here =
    let k : key_after key (seen ++ rest) ≡ e.used =
    key_after-append key seen rest ∙ (ap (λ k. key_after k rest) here ∙ Unused-key e.used rest unused) in
    key_after-append key (seen ++ rest) (e ∷ []) ∙ (ap (λ k. key_after k (e ∷ [])) k ∙ one-key e)

-- whatever the log is, the pen adds the rack to all that was seen
pub adds_moves : (seen : List Entry) (e : Entry) (pen : Nib) → pen.right ≡ may_write → pen.key ≡ e.used
    → Moves IsHistory shows_nothing trades_nothing 0 (seen, (pen, None)) stays_zero
    (Adds (step 0 0 0 e) (seen, (pen, None)))
adds_moves seen e pen may is cells all kept pre away =
    let head : IsHome cells 0 = ap (λ (c : Cell). c.1) kept.head in
    let out = away may in
    let unused : Unused e.used pre.0 =
    subst (λ k. Unused k pre.0) is (not_used cells all seen pen.key kept.used pre out.1) in
    let after : List Cell = slice_set cells pen.key (pen.value, true) in
    let apart : pen.key ≡ 0 → ⊥ = λ z.
    let h : (cell cells 0).1 ≡ false = subst (λ k. (cell cells k).1 ≡ false) z out.1 in
    absurd (cc (h, head)) in
    let kept' : IsHistory after (all ++ e ∷ []) = record {
      head = cell-set cells pen.key 0 (pen.value, true) apart ∙ kept.head;
      used = all-join (λ e. IsHome after e.used) all e
          (all-map (λ e. IsHome cells e.used) (λ e. IsHome after e.used) all
          (λ e h. home-stays cells pen.key e.used pen.value h) kept.used)
          (subst (λ k. IsHome after k) is (ap (λ (c : Cell). c.1) (home-set cells pen.key pen.value out.0)));
    } in (
      home-within cells 0 head,
      head,
      (
        gives,
        e ∷ [],
        None,
        may,
        subst (λ cs. IsHistory (slice_set cs pen.key (pen.value, true)) (all ++ e ∷ []))
            (sym (head-stays cells kept.head)) kept',
        inl (refl, refl),
        (λ key here. (
          subst (λ l. racks_from key (l ++ e ∷ []) ≡ racks_from key seen ++ with_first true e.rack []) pre.1
              (adds_racks seen pre.0 e key unused here),
          subst (λ l. key_after key (l ++ e ∷ []) ≡ e.next) pre.1 (adds_key seen pre.0 e key unused here),
        )),
      ),
    )
