-- A generator that advances by one word.
use Rattle.std.proofs.Common.{◌≡◌, ℕ, zero, suc, ◌+◌, refl, ap, add-one}
use Rattle.rand_pcg.specs.Lcg.{Lcg, next, next_state, state_after, started, increment_of}
use Rattle.rand_pcg.specs.Pcg.{multiplier_64}
use Rattle.sim_draw.specs.Drawing.{DrawsView, generator}

-- ---- state_after

-- the state next after n words is that after one more word
state_after-next : (w m p n s : ℕ) → next_state w m p (state_after w m p n s) ≡ state_after w m p (suc n) s
unfolding state_after
state_after-next w m p zero s = refl
state_after-next w m p (suc n) s = state_after-next w m p n (next_state w m p s)

-- ---- generator

-- the generator's next state is that after one word more
pub generator-next : (d : DrawsView)
    → next 64 multiplier_64 (generator d) ≡ generator (record d { count = d.count + 1 })
unfolding generator
generator-next d =
    let g = started 64 multiplier_64 d.seed (increment_of 64 d.stream) in
    rw add-one (ap (λ (s : ℕ). let r : Lcg = record { state = s; increment = g.increment } in r)
    (state_after-next 64 multiplier_64 g.increment d.count g.state))

-- a generator that has just started is that after no word
pub generator-new : (seed stream : ℕ) → started 64 multiplier_64 seed (increment_of 64 stream) ≡ generator
    (record { seed = seed; stream = stream; count = 0 })
unfolding generator state_after
generator-new seed stream = refl
