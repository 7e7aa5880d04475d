-- The changes when a waiting job starts.
use Rattle.std.proofs.Common.{◌≡◌, ℕ, suc, ◌+◌, ◌-◌, ◌<◌, ◌≤◌, ap, nat_lt, Bool, true}
use Rattle.std.proofs.Common.{false, if◌then◌else◌, refl, length, length-append, Option, Some, None, slice_get, arith}
use Rattle.sim_base.specs.declared.message.Job.{Job as JobOf}
use Rattle.net_model.specs.Net.{Net, Site}
use Rattle.stations.specs.declared.kind_state.ServerState.{ServerState}
use Rattle.stations.specs.Sending.{Outgoing, Reaction, reaction}
use Rattle.stations.specs.Servers.{next_place, start_at, start_next, start_times}

-- ---- IsOneMore

-- b is a with at most one message more, at most one word drawn, and the same range
pub record IsOneMore (a b : Reaction ServerState) : Type 0 where
  pub next : b.out.sender.next ≤ a.out.sender.next + 1
  pub draws : b.out.sender.draws.count ≤ a.out.sender.draws.count + 1
  pub sends : length b.out.sends ≤ length a.out.sends + 1
  pub lo : b.state.lo ≡ a.state.lo
  pub hi : b.state.hi ≡ a.state.hi

-- a reaction is at most one more than itself
IsOneMore-same : (a : Reaction ServerState) → IsOneMore a a
IsOneMore-same a = record { next = omega arith; draws = omega arith; sends = omega arith; lo = refl; hi = refl }

-- ---- start_at, start_next, start_times

-- at most one job is started
start_at-one : (now place : ℕ) (job : Option JobOf) (s : ServerState) (o : Outgoing)
    → IsOneMore (reaction s o) (start_at now place job s o)
start_at-one now place None s o = IsOneMore-same (reaction s o)
start_at-one now place (Some job) s o =
    record { next = omega arith; draws = omega arith; sends = simp length-append (omega arith); lo = refl; hi = refl }

-- so it is if a server is free or not
pub start_next-one : (net : Net) (site : Site) (now : ℕ) (s : ServerState) (o : Outgoing)
    → IsOneMore (reaction s o) (start_next net site now s o)
start_next-one net site now s o = by (nat_lt s.busy s.servers)
  where
    -- by whether a server is free
    by : (b : Bool) → IsOneMore (reaction s o)
        (if b then start_at now (next_place net site s.waiting) (slice_get s.waiting (next_place net site s.waiting))
        s o else reaction s o)
    by true = start_at-one now (next_place net site s.waiting) (slice_get s.waiting (next_place net site s.waiting)) s o
    by false = IsOneMore-same (reaction s o)

-- the remaining starts begin with the next one
pub start_times-more : (net : Net) (site : Site) (now times done : ℕ) (r : Reaction ServerState) → done < times
    → start_times (times - done) net site now r ≡ start_times (times - (done + 1)) net site now
    (start_next net site now r.state r.out)
start_times-more net site now times done r left =
    let more : times - done ≡ suc (times - (done + 1)) = omega arith in
    ap (λ n. start_times n net site now r) more
