-- The next clocks after k rounds are the clocks after one more round.
use Rattle.std.proofs.Common.{◌≡◌, ℕ, zero, suc, ◌+◌, ◌<◌, ◌≤◌, ◌==◌, List, [], ◌∷◌, cond, refl, ap, ◌∙◌}
use Rattle.std.proofs.Common.{arith, length, slice_index}
use Rattle.std.specs.List.{All, AllByRecursion}
use Rattle.std.proofs.Math.Numerals.{add-one}
use Rattle.run_laws.specs.Handlers.{IsStationOf}
use Rattle.net_model.specs.Net.{Net}
use Rattle.link_laws.specs.Clocks as clocks
use Rattle.link_laws.proofs.Clocks.{clock-within}
use Rattle.link_clocks.specs.NetClocks.{delays_of, clock, cut_of, AreClocks, AreNextClocks, HasClocks}

-- how far a station may go depends only on the senders' times
inbound-same : (delays : clocks.Delays) (n horizon : ℕ) (time same : ℕ → ℕ) (s m : ℕ) → m ≤ n →
    ((x : ℕ) → IsStationOf n x → time x ≡ same x) →
    clocks.inbound delays n horizon time s m ≡ clocks.inbound delays n horizon same s m
inbound-same delays n horizon time same s zero l f = refl
inbound-same delays n horizon time same s (suc m) l f =
    let h = inbound-same delays n horizon time same s m (omega (arith, l)) f in
    let t : time (suc m) ≡ same (suc m) = f (suc m) (omega arith, l) in
    ap (λ b. cond (suc m == s) b (clocks.least_with (time (suc m)) (delays (suc m) s) b)) h
    ∙ ap (λ u. cond (suc m == s) (clocks.inbound delays n horizon same s m)
    (clocks.least_with u (delays (suc m) s) (clocks.inbound delays n horizon same s m))) t

-- the list of the clocks, by the number of the station
pub cut_is_clock : (net : Net) (k : ℕ) (times : List ℕ) → AreClocks net k times → (x : ℕ) →
    IsStationOf (length net.sites) x → cut_of times x ≡ clock net k x
cut_is_clock net k times are zero is = absurd (let h = is.0 in omega (arith, h))
cut_is_clock net k times are (suc i) is =
    let l = is.1 in
    are.each i (omega (arith, l)) ∙ ap (clock net k) (add-one i)

-- the next clocks are those after one more round
pub next_are_clocks : (net : Net) (k : ℕ) (times bounds : List ℕ) → AreClocks net k times →
    AreNextClocks net times bounds → AreClocks net (suc k) bounds
unfolding clocks.clock
next_are_clocks net k times bounds are next = record {
  count = next.count;
  each = λ i l. next.each i l ∙ inbound-same (delays_of net) (length net.sites) net.horizon (cut_of times) (clock net k)
      (i + 1) (length net.sites) (omega arith) (cut_is_clock net k times are);
}

-- a property at each place holds of all elements
pub all_of : (P : ℕ → Type 0) (xs : List ℕ) → ((i : ℕ) → i < length xs → P (slice_index xs i)) → AllByRecursion P xs
all_of P [] f = tt
all_of P (x ∷ xs) f = (f 0 (omega arith), all_of P xs (λ i l. f (suc i) (omega (arith, l))))

-- no clock is past the horizon
pub clocks_early : (net : Net) (k : ℕ) (times : List ℕ) → AreClocks net k times →
    AllByRecursion (λ t. t ≤ net.horizon) times
clocks_early net k times are = all_of (λ t. t ≤ net.horizon) times (λ i l.
    let e = are.each i (let n = are.count in omega (arith, l, n)) in
    let w = clock-within (delays_of net) (length net.sites) net.horizon k (i + 1) in
    omega (arith, e, w))

-- ---- HasClocks

-- times of zero are the clocks before the first round
pub HasClocks-first : (net : Net) (now next : List ℕ) → length now ≡ length net.sites → All (λ t. t ≡ 0) now →
    AreNextClocks net now next → HasClocks net 0 now next
unfolding clocks.clock
HasClocks-first net now next count none are =
    let first : AreClocks net 0 now = record { count = count; each = λ i l. none i 0 (omega (arith, l, count)) } in
    record { now_are = first; next_are = next_are_clocks net 0 now next first are }

-- after each round the next clocks are the clocks
pub HasClocks-after : (net : Net) (k : ℕ) (now next later : List ℕ) → HasClocks net k now next →
    AreNextClocks net next later → HasClocks net (suc k) next later
HasClocks-after net k now next later h are = record {
  now_are = h.next_are;
  next_are = next_are_clocks net (suc k) next later h.next_are are;
}
