-- Rows, clone by clone, and the position of an earlier clone's row of a server.
use Rattle.std.proofs.Common.{◌≡◌, ℕ, zero, suc, ◌+◌, ◌-◌, ◌*◌, ◌<◌, ◌≤◌, List, [], ◌∷◌, ◌++◌, Bool, true, false}
use Rattle.std.proofs.Common.{if◌then◌else◌, length, take, refl, sym, ap, ◌∙◌, subst, arith, append_assoc}
use Rattle.std.proofs.Common.{length-append, Some, ◌⊎◌, inl, inr}
use Rattle.std.specs.List.{All, slice_get}
use Rattle.std.proofs.Math.Nat.{add-mul, suc-mul}
use Rattle.std.proofs.Math.Seq.{take-length}
use Rattle.std.proofs.lemmas.Bool.{cases_lt}
use Rattle.std.proofs.lemmas.Nat.{mul-le}
use Rattle.std.proofs.lemmas.List.{length-take-le, flat_map_more}
use Rattle.std.proofs.lemmas.List.Elements.{All-append, All-cons}
use Rattle.std.proofs.lemmas.List.Concat.{flat_map-cons}
use Rattle.sim_base.specs.Clones.{Clone, clone_at}
use Rattle.net_model.specs.Net.{Net, HasStation, site_of}
use Rattle.stations.proofs.Places.{take-next}
use Rattle.queue_stats.specs.Figures.{one_if}
use Rattle.queue_stats.specs.Laws.{is_server}
use Rattle.queue_stats.specs.declared.stats.Stats.{Stats}
use Rattle.queue_stats.specs.declared.text.StatRow.{StatRow}
use Rattle.queue_stats.specs.Rows.{row, station_rows, first_rows, clone_rows, rows, server_count, rows_before}

-- ---- clones

-- the clone at a place
clone_at-is : (cs : List Clone) (k : ℕ) → k < length cs → slice_get cs k ≡ Some (clone_at cs k)
clone_at-is [] k low = absurd (omega (arith, low))
clone_at-is (x ∷ xs) zero low = refl
clone_at-is (x ∷ xs) (suc k) low = clone_at-is xs k (omega (arith, low))

-- it is the same among the first clones
clone_at-take : (cs : List Clone) (c f : ℕ) → f < c → clone_at (take c cs) f ≡ clone_at cs f
clone_at-take cs zero f low = absurd (omega (arith, low))
clone_at-take [] (suc c) f low = refl
clone_at-take (x ∷ xs) (suc c) zero low = refl
clone_at-take (x ∷ xs) (suc c) (suc f) low = clone_at-take xs c f (omega (arith, low))

-- ---- rows that are appended

pub rows_before-more : (net : Net) (cs : List Clone) (c s : ℕ)
    → rows_before net cs c s ++ station_rows net (clone_at cs c) (s + 1) ≡ rows_before net cs c (s + 1)
rows_before-more net cs c s =
    let next : s + 1 ≡ suc s = omega arith in
    append_assoc (rows net (take c cs)) (first_rows net (clone_at cs c) s) (station_rows net (clone_at cs c) (s + 1))
    ∙ ap (λ n. rows net (take c cs) ++ (first_rows net (clone_at cs c) s ++ station_rows net (clone_at cs c) n)) next
    ∙ ap (λ n. rows net (take c cs) ++ first_rows net (clone_at cs c) n) (sym next)

-- the rows of one more clone
pub rows_before-all : (net : Net) (cs : List Clone) (c : ℕ) → c < length cs
    → rows_before net cs c (length net.sites) ≡ rows net (take (c + 1) cs)
rows_before-all net cs c low =
    flat_map_more (clone_rows net) [] (take c cs) (clone_at cs c)
    ∙ ap (rows net) (sym (take-next cs c (clone_at cs c) (clone_at-is cs c low)))

-- the rows of all clones, once all are appended
pub rows-all : (net : Net) (cs : List Clone) (c : ℕ) (l : List StatRow) → length cs ≤ c → c ≤ length cs
    → l ≡ rows net (take c cs) → l ≡ rows net cs
rows-all net cs c l high low so_far =
    let all : c ≡ length cs = omega (arith, high, low) in
    so_far ∙ ap (λ n. rows net (take n cs)) all ∙ ap (rows net) (take-length cs)

-- ---- the number of rows

-- a station has a row if it is a server
station_rows-length : (net : Net) (c : Clone) (s : ℕ)
    → length (station_rows net c s) ≡ one_if (is_server (site_of net s).kind)
station_rows-length net c s = by (is_server (site_of net s).kind)
  where
    by : (b : Bool) → length (if b then row net c s ∷ [] else []) ≡ one_if b
    by true = refl
    by false = refl

-- each server among the first stations has a row
first_rows-length : (net : Net) (c : Clone) (n : ℕ) → length (first_rows net c n) ≡ server_count net n
first_rows-length net c zero = refl
first_rows-length net c (suc n) =
    length-append (first_rows net c n) (station_rows net c (suc n))
    ∙ ap (λ k. k + length (station_rows net c (suc n))) (first_rows-length net c n)
    ∙ ap (λ k. server_count net n + k) (station_rows-length net c (suc n))

-- each server has a row in each clone
rows-length : (net : Net) (cs : List Clone) → length (rows net cs) ≡ length cs * server_count net (length net.sites)
rows-length net [] = omega arith
rows-length net (c ∷ cs) =
    let parts = ap length (flat_map-cons (clone_rows net) c cs) in
    let sum = length-append (clone_rows net c) (rows net cs) in
    let one = first_rows-length net c (length net.sites) in
    let rest = rows-length net cs in
    let product = suc-mul (length cs) (server_count net (length net.sites)) in
    parts ∙ sum ∙ omega (arith, one, rest, product)

-- the number of rows before that of a station
rows_before-length : (net : Net) (cs : List Clone) (c s : ℕ) → c ≤ length cs
    → length (rows_before net cs c s) ≡ c * server_count net (length net.sites) + server_count net s
rows_before-length net cs c s le =
    length-append (rows net (take c cs)) (first_rows net (clone_at cs c) s)
    ∙ ap (λ k. k + length (first_rows net (clone_at cs c) s)) (rows-length net (take c cs))
    ∙ ap (λ k. k * server_count net (length net.sites) + length (first_rows net (clone_at cs c) s))
    (length-take-le c cs le)
    ∙ ap (λ k. c * server_count net (length net.sites) + k) (first_rows-length net (clone_at cs c) s)

-- ---- places of rows

-- some rows have this row at place n
record HasRow (l : List StatRow) (n : ℕ) (x : StatRow) : Type 0 where
  before : List StatRow
  after : List StatRow
  is : l ≡ before ++ x ∷ after
  place : length before ≡ n

-- more rows in front
has_row-front : (ws l : List StatRow) (n : ℕ) (x : StatRow) → HasRow l n x → HasRow (ws ++ l) (length ws + n) x
has_row-front ws l n x h = record {
  before = ws ++ h.before;
  after = h.after;
  is = ap (λ l. ws ++ l) h.is ∙ sym (append_assoc ws h.before (x ∷ h.after));
  place = length-append ws h.before ∙ ap (λ k. length ws + k) h.place;
}

-- more rows at the end
has_row-end : (l ys : List StatRow) (n : ℕ) (x : StatRow) → HasRow l n x → HasRow (l ++ ys) n x
has_row-end l ys n x h = record {
  before = h.before;
  after = h.after ++ ys;
  is = ap (λ l. l ++ ys) h.is ∙ append_assoc h.before (x ∷ h.after) ys;
  place = h.place;
}

-- the row after some rows
get-middle : (before : List StatRow) (x : StatRow) (after : List StatRow)
    → slice_get (before ++ x ∷ after) (length before) ≡ Some x
get-middle [] x after = refl
get-middle (y ∷ ys) x after = get-middle ys x after

-- the row at a place
has_row-get : (l : List StatRow) (n : ℕ) (x : StatRow) → HasRow l n x → slice_get l n ≡ Some x
has_row-get l n x h =
    ap (λ l. slice_get l n) h.is ∙ ap (λ k. slice_get (h.before ++ x ∷ h.after) k) (sym h.place)
    ∙ get-middle h.before x h.after

-- a server's row is after those of the servers before it
first_rows-has : (net : Net) (c : Clone) (n s : ℕ) → s < n → is_server (site_of net (suc s)).kind ≡ true
    → HasRow (first_rows net c n) (server_count net s) (row net c (suc s))
first_rows-has net c zero s low server = absurd (omega (arith, low))
first_rows-has net c (suc n) s low server = by (cases_lt s n) (λ lt. first_rows-has net c n s lt server)
  where
    last : is_server (site_of net (suc n)).kind ≡ true
        → HasRow (first_rows net c n ++ station_rows net c (suc n)) (server_count net n) (row net c (suc n))
    last is = record {
      before = first_rows net c n;
      after = [];
      is = ap (λ b. first_rows net c n ++ (if b then row net c (suc n) ∷ [] else [])) is;
      place = first_rows-length net c n;
    }

    by : (s < n) ⊎ (n ≤ s) → (s < n → HasRow (first_rows net c n) (server_count net s) (row net c (suc s)))
        → HasRow (first_rows net c (suc n)) (server_count net s) (row net c (suc s))
    by (inl lt) earlier = has_row-end (first_rows net c n) (station_rows net c (suc n)) (server_count net s)
        (row net c (suc s)) (earlier lt)
    by (inr ge) earlier =
        let same : n ≡ s = omega (arith, low, ge) in
        subst (λ k. is_server (site_of net (suc k)).kind ≡ true
        → HasRow (first_rows net c (suc n)) (server_count net k) (row net c (suc k))) same last server

-- the row of a server in a clone is after those of all servers in the clones before it
rows-has : (net : Net) (cs : List Clone) (f s : ℕ) → f < length cs → s < length net.sites
    → is_server (site_of net (suc s)).kind ≡ true
    → HasRow (rows net cs) (f * server_count net (length net.sites) + server_count net s)
    (row net (clone_at cs f) (suc s))
rows-has net [] f s low in_range server = absurd (omega (arith, low))
rows-has net (x ∷ xs) zero s low in_range server =
    let none : server_count net s ≡ 0 * server_count net (length net.sites) + server_count net s = omega arith in
    subst (λ n. HasRow (rows net (x ∷ xs)) n (row net x (suc s))) none
    (subst (λ l. HasRow l (server_count net s) (row net x (suc s))) (sym (flat_map-cons (clone_rows net) x xs))
    (has_row-end (clone_rows net x) (rows net xs) (server_count net s) (row net x (suc s))
    (first_rows-has net x (length net.sites) s in_range server)))
rows-has net (x ∷ xs) (suc f) s low in_range server =
    let n : ℕ = server_count net (length net.sites) in
    let one = first_rows-length net x (length net.sites) in
    let product = suc-mul f n in
    let place : length (clone_rows net x) + (f * n + server_count net s) ≡ suc f * n + server_count net s =
    omega (arith, one, product) in
    subst (λ k. HasRow (rows net (x ∷ xs)) k (row net (clone_at xs f) (suc s))) place
    (subst (λ l. HasRow l (length (clone_rows net x) + (f * n + server_count net s)) (row net (clone_at xs f) (suc s)))
    (sym (flat_map-cons (clone_rows net) x xs))
    (has_row-front (clone_rows net x) (rows net xs) (f * n + server_count net s) (row net (clone_at xs f) (suc s))
    (rows-has net xs f s (omega (arith, low)) in_range server)))

-- ---- the row of an earlier clone

module _ (net : Net) (cs : List Clone) (c f s : ℕ) (early : f < c) (low : c < length cs)
    (in_range : s < length net.sites) (server : is_server (site_of net (s + 1)).kind ≡ true) where
  -- the number of servers
  abbrev servers : ℕ
  servers = server_count net (length net.sites)

  -- the station by its place
  station-is : s + 1 ≡ suc s
  station-is = omega arith

  -- it is a server
  server-suc : is_server (site_of net (suc s)).kind ≡ true
  server-suc = subst (λ n. is_server (site_of net n).kind ≡ true) station-is server

  -- the earlier clone's row exists
  earlier-has : HasRow (rows_before net cs c s) (f * servers + server_count net s) (row net (clone_at cs f) (s + 1))
  earlier-has =
      let some = length-take-le c cs (omega (arith, low)) in
      subst (λ n. HasRow (rows_before net cs c s) (f * servers + server_count net s) (row net (clone_at cs f) n))
      (sym station-is)
      (has_row-end (rows net (take c cs)) (first_rows net (clone_at cs c) s) (f * servers + server_count net s)
      (row net (clone_at cs f) (suc s))
      (subst (λ x. HasRow (rows net (take c cs)) (f * servers + server_count net s) (row net x (suc s)))
      (clone_at-take cs c f early) (rows-has net (take c cs) f s (omega (arith, some, early)) in_range server-suc)))

  -- there is a server
  servers-min : 1 ≤ servers
  servers-min =
      let has = first_rows-has net (clone_at cs c) (length net.sites) s in_range server-suc in
      let parts = ap length has.is in
      let sum = length-append has.before (row net (clone_at cs c) (suc s) ∷ has.after) in
      let all = first_rows-length net (clone_at cs c) (length net.sites) in
      omega (arith, parts, sum, all)

  -- the rows of the clones before c
  whole-is : c * servers ≡ f * servers + (c - f) * servers
  whole-is =
      let sum : f + (c - f) ≡ c = omega (arith, early) in
      subst (λ n. n * servers ≡ f * servers + (c - f) * servers) sum (add-mul f (c - f) servers)

  -- the number of rows between the two
  pub places-min : (n : ℕ) → n ≡ servers → 1 ≤ (c - f) * n
  places-min n is =
      let product = mul-le 1 1 (c - f) servers (omega (arith, early)) servers-min in
      subst (λ n. 1 ≤ (c - f) * n) (sym is) (omega (arith, product))

  -- there are that many rows
  pub places-max : (n : ℕ) → n ≡ servers → (l : List StatRow) → l ≡ rows_before net cs c s → (c - f) * n ≤ length l
  places-max n is l so_far =
      let whole = whole-is in
      let all = rows_before-length net cs c s (omega (arith, low)) in
      subst (λ n. (c - f) * n ≤ length l) (sym is)
      (subst (λ l. (c - f) * servers ≤ length l) (sym so_far) (omega (arith, whole, all)))

  -- the earlier clone's row is this number of places before the end
  pub earlier-row : (n : ℕ) → n ≡ servers → (l : List StatRow) → l ≡ rows_before net cs c s
      → slice_get l (length l - (c - f) * n) ≡ Some (row net (clone_at cs f) (s + 1))
  earlier-row n is l so_far =
      let whole = whole-is in
      let all = rows_before-length net cs c s (omega (arith, low)) in
      let place : length (rows_before net cs c s) - (c - f) * servers ≡ f * servers + server_count net s =
      omega (arith, whole, all) in
      ap (λ n. slice_get l (length l - (c - f) * n)) is
      ∙ ap (λ l. slice_get l (length l - (c - f) * servers)) so_far
      ∙ ap (λ n. slice_get (rows_before net cs c s) n) place
      ∙ has_row-get (rows_before net cs c s) (f * servers + server_count net s) (row net (clone_at cs f) (s + 1))
      earlier-has

-- the rows with one more server's row
pub rows_before-server : (net : Net) (cs : List Clone) (c s : ℕ) (l after : List StatRow) (who : List ℕ) (stats : Stats)
    → is_server (site_of net (s + 1)).kind ≡ true → l ≡ rows_before net cs c s → who ≡ (clone_at cs c).name
    → stats ≡ (row net (clone_at cs c) (s + 1)).stats
    → after ≡ l ++ record { who = who; station = s + 1; stats = stats } ∷ [] → after ≡ rows_before net cs c (s + 1)
rows_before-server net cs c s l after who stats server so_far who_is stats_is more =
    more ∙ ap (λ l. l ++ new_row who stats ∷ []) so_far
    ∙ ap (λ w. rows_before net cs c s ++ new_row w stats ∷ []) who_is
    ∙ ap (λ t. rows_before net cs c s ++ new_row (clone_at cs c).name t ∷ []) stats_is
    ∙ ap (λ b. rows_before net cs c s ++ (if b then row net (clone_at cs c) (s + 1) ∷ [] else [])) (sym server)
    ∙ rows_before-more net cs c s
  where
    new_row : List ℕ → Stats → StatRow
    new_row w t = record { who = w; station = s + 1; stats = t }

-- ---- the stations of rows

-- any property holds of all elements of the empty list
all-nil : (P : StatRow → Type 0) → All P []
all-nil P k d low = absurd (omega (arith, low))

-- the first rows are of stations of the network
first_rows-stations : (net : Net) (c : Clone) (n : ℕ) → n ≤ length net.sites
    → All (λ r. HasStation net r.station) (first_rows net c n)
first_rows-stations net c zero low = all-nil (λ r. HasStation net r.station)
first_rows-stations net c (suc n) low =
    All-append (λ r. HasStation net r.station) (first_rows net c n) (station_rows net c (suc n))
    (first_rows-stations net c n (omega (arith, low))) (by (is_server (site_of net (suc n)).kind))
  where
    by : (b : Bool) → All (λ r. HasStation net r.station) (if b then row net c (suc n) ∷ [] else [])
    by true = All-cons (λ r. HasStation net r.station) (row net c (suc n)) []
        (record { low = omega arith; high = low }) (all-nil (λ r. HasStation net r.station))
    by false = all-nil (λ r. HasStation net r.station)

-- all rows are
pub rows-stations : (net : Net) (cs : List Clone) → All (λ r. HasStation net r.station) (rows net cs)
rows-stations net [] = all-nil (λ r. HasStation net r.station)
rows-stations net (c ∷ cs) = subst (All (λ r. HasStation net r.station)) (sym (flat_map-cons (clone_rows net) c cs))
    (All-append (λ r. HasStation net r.station) (clone_rows net c) (rows net cs)
    (first_rows-stations net c (length net.sites) (omega arith)) (rows-stations net cs))
