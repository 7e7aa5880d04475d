-- The number of rounds that a network takes.
use Rattle.std.proofs.Common.{◌≡◌, ℕ, suc, ◌+◌, ◌*◌, ◌/◌, ◌<◌, ◌≤◌, inl, inr, arith, length}
use Rattle.std.proofs.lemmas.Bool.{cases_lt}
use Rattle.net_model.specs.Net.{Net}
use Rattle.net_model.specs.Rules.{IsNet}
use Rattle.run_laws.specs.Queue.{In}
use Rattle.link_laws.proofs.Clocks.{clock-done, rounds-are, rounds-at_most}
use Rattle.link_clocks.specs.NetClocks.{AreAllDone, AreAllRounds, delays_of}
use Rattle.link_clocks.proofs.OnLinks.{net_keeps_to_links}

-- each delay is at least the lookahead
delay-min : (net : Net) → IsNet net → (x s d : ℕ) → In d (delays_of net x s) → net.lookahead ≤ d
delay-min net valid = (net_keeps_to_links net valid).lookahead_min

-- while a clock is not at the horizon, fewer rounds were made than there are time units up to the horizon
pub rounds-below : (net : Net) (k : ℕ) → IsNet net → ¬ (AreAllDone net k) → k < net.horizon
rounds-below net k valid going = elim (cases_lt k net.horizon) [
  | inl l ↦ l
  | inr l ↦ absurd (going (λ s is. clock-done (delays_of net) (length net.sites) net.horizon 1
      (λ x r d i. let m = delay-min net valid x r d i in let a = valid.lookahead_min in omega (arith, m, a)) k s
      (let e : k * 1 ≡ k = omega arith in omega (arith, l, e))))
]

-- the rounds are at most the horizon over the lookahead, plus one
pub rounds-few : (net : Net) (k : ℕ) → IsNet net → AreAllRounds net k → k ≤ net.horizon / net.lookahead + 1
rounds-few net k valid are = rounds-at_most (delays_of net) (length net.sites) net.horizon net.lookahead
    (delay-min net valid) k (let a = valid.lookahead_min in omega (arith, a)) are

-- a run that stops at the first done round has made the rounds
pub rounds-made : (net : Net) (k : ℕ) → AreAllDone net k → ((j : ℕ) → k ≡ suc j → ¬ (AreAllDone net j)) →
    AreAllRounds net k
rounds-made net k = rounds-are (delays_of net) (length net.sites) net.horizon k
