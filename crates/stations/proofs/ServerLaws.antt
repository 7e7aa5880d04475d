-- The invariant of a server, and its sends.
use Rattle.std.proofs.Common.{◌≡◌, ℕ, zero, suc, ◌+◌, ◌-◌, ◌<◌, ◌≤◌, ◌⊎◌, inl, inr, [], ◌∷◌, ◌++◌, length, Bool, true}
use Rattle.std.proofs.Common.{false, nat_lt, if◌then◌else◌, ltb-true, refl, slice_get, Some, length-append, arith}
use Rattle.std.specs.List.{AllByRecursion}
use Rattle.std.proofs.lemmas.Bool.{leb-true, ltb-false}
use Rattle.std.proofs.lemmas.Option.{slice_get_cases}
use Rattle.std.proofs.lemmas.List.Edits.{length-remove}
use Rattle.sim_base.specs.declared.message.Job.{Job as JobOf}
use Rattle.sim_base.specs.declared.message.Change.{Change}
use Rattle.sim_base.specs.declared.message.Param.{Param}
use Rattle.sim_base.specs.declared.message.Param.TheVariants.{Every, Service, Hold, Servers, Room, Weight}
use Rattle.sim_base.specs.declared.message.Payload.{Payload}
use Rattle.sim_base.specs.declared.message.Payload.TheVariants.{Tick, Job, Done, Set}
use Rattle.net_model.specs.Net.{Net, Site, HasStation}
use Rattle.net_model.specs.Rules.{IsLink, IsServer}
use Rattle.net_model.specs.declared.limits.TheConstants.{MAX_ROOM, MAX_SERVERS}
use Rattle.stations.specs.declared.kind_state.ServerState.{ServerState}
use Rattle.stations.specs.Changes.{is_accepted}
use Rattle.stations.specs.Fits.{FitsServer}
use Rattle.stations.specs.Sending.{Outgoing, Reaction, reaction, weights_of, route}
use Rattle.stations.specs.Servers.{next_place, start, start_at, start_next, start_times}
use Rattle.stations.specs.Servers.{server_job, server_done, server_change, server_set, server_on}
use Rattle.net_model.proofs.Bounds.{is_range-bounds, is_within-bounds}
use Rattle.stations.proofs.Accepting.{is_accepted-parts}
use Rattle.stations.proofs.NextInLine.{next_place-below}
use Rattle.stations.proofs.Growing.{Grown, grown-none, grown-more, grown-trans, grown-later, grown-route, grown-same}
use Rattle.stations.specs.declared.sender.TheConstants.{MAX_SENDS}

-- ---- a server that fits

-- a server that could take n waiting jobs more into service
record IsBusyBut (n handled : ℕ) (s : ServerState) : Type 0 where
  pub rules : IsServer s.servers s.room s.lo s.hi
  pub busy : s.busy ≤ MAX_SERVERS
  pub line : (length s.waiting ≡ 0) ⊎ (s.servers ≤ s.busy + n)
  pub length_max : length s.waiting ≤ MAX_ROOM
  pub done : s.done ≤ handled
  pub lost : s.lost ≤ handled

-- a server that could take none more fits
busy_fits : (handled : ℕ) (s : ServerState) → IsBusyBut 0 handled s → FitsServer handled s
busy_fits handled s b = record {
  rules = b.rules;
  busy = b.busy;
  line = elim b.line [ inl nobody ↦ inl nobody | inr full ↦ inr (omega arith) ];
  length_max = b.length_max;
  done = b.done;
  lost = b.lost;
}

-- a server that fits does so after one message more
server-later : (handled : ℕ) (s : ServerState) → FitsServer handled s → FitsServer (handled + 1) s
server-later handled s f = record {
  rules = f.rules;
  busy = f.busy;
  line = f.line;
  length_max = f.length_max;
  done = omega (arith, f.done);
  lost = omega (arith, f.lost);
}

module _ (net : Net) (site : Site) (now : ℕ) (links : AllByRecursion (IsLink net) site.links)
    (ahead : 1 ≤ net.lookahead) where
  -- a reaction after which P holds of the server, and which sends at most n messages
  pub record Holds (P : ServerState → Type 0) (n : ℕ) (a : Outgoing) (r : Reaction ServerState) : Type 0 where
    pub holds : P r.state
    pub grown : Grown net now n a r.out

  -- ---- start_at and start_next

  module _ (a : Outgoing) (is_station : HasStation net a.sender.station) where
    -- if no job waits, none is started
    start_at-None : (n handled : ℕ) (s : ServerState) → length s.waiting ≡ 0 → IsBusyBut (suc n) handled s
        → Holds (IsBusyBut n handled) 1 a (reaction s a)
    start_at-None n handled s nobody b = record {
      holds = record {
        rules = b.rules;
        busy = b.busy;
        line = inl nobody;
        length_max = b.length_max;
        done = b.done;
        lost = b.lost;
      };
      grown = grown-same net now 1 a;
    }

    -- the job at a place of the line is started
    start_at-Some : (n handled place : ℕ) (job : JobOf) (s : ServerState) → s.busy < s.servers
        → place < length s.waiting → IsBusyBut (suc n) handled s
        → Holds (IsBusyBut n handled) 1 a (start_at now place (Some job) s a)
    start_at-Some n handled place job s free there b = record {
      holds = record {
        rules = b.rules;
        busy = omega (arith, b.rules.at_most);
        line = elim b.line [ inl nobody ↦ absurd (omega arith) | inr full ↦ inr (omega arith) ];
        length_max = omega (arith, b.length_max, length-remove s.waiting place there);
        done = b.done;
        lost = b.lost;
      };
      grown = grown-later net now a is_station s.lo s.hi (Done job) (λ job. job) b.rules.service.above;
    }

    -- so it is with the job at a place, which is in the line if a job waits
    start_at-good : (n handled place : ℕ) (s : ServerState) → s.busy < s.servers
        → (1 ≤ length s.waiting → place < length s.waiting) → IsBusyBut (suc n) handled s
        → Holds (IsBusyBut n handled) 1 a (start_at now place (slice_get s.waiting place) s a)
    start_at-good n handled place s free there b = elim (slice_get_cases s.waiting place).1 [
      | inl found ↦ rw found.2 (start_at-Some n handled place found.0 s free found.1 b)
      | inr past ↦ (
          let nobody : length s.waiting ≡ 0 =
          elim (length_cases (length s.waiting)) [
            | inl none ↦ none
            | inr some ↦ absurd (let below = there some in omega (arith, past.0))
          ] in
          rw past.1 (start_at-None n handled s nobody b))
    ]
      where
        length_cases : (k : ℕ) → (k ≡ 0) ⊎ (1 ≤ k)
        length_cases zero = inl refl
        length_cases (suc k) = inr (omega arith)

    -- one start: either a server was free and who waited was taken, or all are busy
    start_next-good : (n handled : ℕ) (s : ServerState) → IsBusyBut (suc n) handled s
        → Holds (IsBusyBut n handled) 1 a (start_next net site now s a)
    start_next-good n handled s b = by (nat_lt s.busy s.servers) refl
      where
        -- by whether a server is free
        by : (t : Bool) → nat_lt s.busy s.servers ≡ t
            → Holds (IsBusyBut n handled) 1 a
            (if t then start_at now (next_place net site s.waiting)
            (slice_get s.waiting (next_place net site s.waiting)) s a else reaction s a)
        by true free = start_at-good n handled (next_place net site s.waiting) s (ltb-true s.busy s.servers free)
            (next_place-below net site s.waiting) b
        by false full =
            let all_busy = ltb-false s.busy s.servers full in
            record {
              holds = record {
                rules = b.rules;
                busy = b.busy;
                line = inr (omega arith);
                length_max = b.length_max;
                done = b.done;
                lost = b.lost;
              };
              grown = grown-same net now 1 a;
            }

  -- ---- start_times

  -- a sender that has grown is a station if the one before is
  station_along : (n : ℕ) (a b : Outgoing) → Grown net now n a b → HasStation net a.sender.station
      → HasStation net b.sender.station
  station_along n a b g is = rw g.station is

  module _ (a : Outgoing) (is_station : HasStation net a.sender.station) where
    -- a server that could take n waiting jobs more can take none after n starts, of a message each at most
    start_times-good : (n m handled : ℕ) (r : Reaction ServerState) → IsBusyBut n handled r.state
        → Grown net now m a r.out → Holds (IsBusyBut 0 handled) (m + n) a (start_times n net site now r)
    start_times-good zero m handled r b g =
        record { holds = b; grown = grown-more net now m (m + 0) a r.out g (omega arith) }
    start_times-good (suc n) m handled r b g =
        let one = start_next-good r.out (station_along m a r.out g is_station) n handled r.state b in
        let rest = start_times-good n (m + 1) handled (start_next net site now r.state r.out) one.holds
        (grown-trans net now m 1 a r.out (start_next net site now r.state r.out).out g one.grown) in
        record {
          holds = rest.holds;
          grown = grown-more net now ((m + 1) + n) (m + suc n) a
              (start_times n net site now (start_next net site now r.state r.out)).out rest.grown (omega arith);
        }

    -- ---- server_job

    -- if a job arrives, the server fits one more message and sends at most `MAX_SENDS` messages
    server_job-good : (handled : ℕ) (job : JobOf) (s : ServerState) → FitsServer handled s
        → Holds (FitsServer (handled + 1)) MAX_SENDS a (server_job now job s a)
    server_job-good handled job s f = by (nat_lt s.busy s.servers) (nat_lt (length s.waiting) s.room) refl refl
      where
        -- by whether a server is free, and whether the waiting line has room
        by : (free space : Bool) → nat_lt s.busy s.servers ≡ free → nat_lt (length s.waiting) s.room ≡ space
            → Holds (FitsServer (handled + 1)) MAX_SENDS a
            (if free then start now job s a else if space then reaction
            (record s { waiting = s.waiting ++ job ∷ [] }) a else reaction (record s { lost = s.lost + 1 }) a)
        by true space free e =
            let below = ltb-true s.busy s.servers free in
            record {
              holds = record {
                rules = f.rules;
                busy = omega (arith, f.rules.at_most);
                line = elim f.line [ inl nobody ↦ inl nobody | inr full ↦ absurd (omega arith) ];
                length_max = f.length_max;
                done = omega (arith, f.done);
                lost = omega (arith, f.lost);
              };
              grown = grown-more net now 1 MAX_SENDS a (start now job s a).out
                  (grown-later net now a is_station s.lo s.hi (Done job) (λ job. job) f.rules.service.above)
                  (omega arith);
            }
        by false true full space =
            let all_busy = ltb-false s.busy s.servers full in
            let fits = ltb-true (length s.waiting) s.room space in
            record {
              holds = record {
                rules = f.rules;
                busy = f.busy;
                line = inr all_busy;
                length_max = omega (arith, f.rules.small, length-append s.waiting (job ∷ []));
                done = omega (arith, f.done);
                lost = omega (arith, f.lost);
              };
              grown = grown-same net now MAX_SENDS a;
            }
        by false false full no_space = record {
          holds = record {
            rules = f.rules;
            busy = f.busy;
            line = f.line;
            length_max = f.length_max;
            done = omega (arith, f.done);
            lost = omega (arith, f.lost);
          };
          grown = grown-same net now MAX_SENDS a;
        }

    -- ---- server_done

    -- if a service ends, the server fits one more message and sends at most `MAX_SENDS` messages
    server_done-good : (handled : ℕ) (job : JobOf) (s : ServerState) → FitsServer handled s
        → Holds (FitsServer (handled + 1)) MAX_SENDS a (server_done net site now job s a)
    server_done-good handled job s f = by (nat_lt 0 s.busy) refl
      where
        -- by whether a job is in service
        by : (some : Bool) → nat_lt 0 s.busy ≡ some
            → Holds (FitsServer (handled + 1)) MAX_SENDS a
            (if some then start_next net site now (record s { busy = s.busy - 1; done = s.done + 1 })
            (route site.links now job a) else reaction s a)
        by true some =
            let busy = ltb-true 0 s.busy some in
            let routed = grown-route net now site.links (weights_of site.links) job a links ahead in
            let after = route site.links now job a in
            let one_less : IsBusyBut 1 (handled + 1) (record s { busy = s.busy - 1; done = s.done + 1 }) = record {
              rules = f.rules;
              busy = omega (arith, f.busy);
              line = elim f.line [ inl nobody ↦ inl nobody | inr full ↦ inr (omega arith) ];
              length_max = f.length_max;
              done = omega (arith, f.done);
              lost = omega (arith, f.lost);
            } in
            let one = start_next-good after (station_along 1 a after routed is_station) 0 (handled + 1)
            (record s { busy = s.busy - 1; done = s.done + 1 }) one_less in
            let r = start_next net site now (record s { busy = s.busy - 1; done = s.done + 1 }) after in
            record {
              holds = busy_fits (handled + 1) r.state one.holds;
              grown = grown-more net now 2 MAX_SENDS a r.out (grown-trans net now 1 1 a after r.out routed one.grown)
                  (omega arith);
            }
        by false none = record { holds = server-later handled s f; grown = grown-same net now MAX_SENDS a }

    -- ---- server_set

    -- if a parameter changes as the server accepts, it fits one more message and sends at most `MAX_SENDS` messages
    server_change-good : (handled : ℕ) (p : Param) (c : Change) (s : ServerState) → c.param ≡ p
        → is_accepted site c ≡ true → FitsServer handled s
        → Holds (FitsServer (handled + 1)) MAX_SENDS a (server_change net site now p c.a c.b s a)
    server_change-good handled Service c s is accepted f =
        let range = is_range-bounds 1 c.a c.b (let h = (is_accepted-parts site c accepted).1 in rw is at h) in
        record {
          holds = record {
            rules = record {
              at_least = f.rules.at_least;
              at_most = f.rules.at_most;
              small = f.rules.small;
              service =
                  range;
            };
            busy = f.busy;
            line = f.line;
            length_max = f.length_max;
            done = omega (arith, f.done);
            lost = omega (arith, f.lost);
          };
          grown = grown-same net now MAX_SENDS a;
        }
    server_change-good handled Room c s is accepted f =
        let room = leb-true c.a MAX_ROOM (let h = (is_accepted-parts site c accepted).1 in rw is at h) in
        record {
          holds = record {
            rules = record {
              at_least = f.rules.at_least;
              at_most = f.rules.at_most;
              small = room;
              service =
                  f.rules.service;
            };
            busy = f.busy;
            line = f.line;
            length_max = f.length_max;
            done = omega (arith, f.done);
            lost = omega (arith, f.lost);
          };
          grown = grown-same net now MAX_SENDS a;
        }
    server_change-good handled Servers c s is accepted f =
        let bounds = is_within-bounds 1 MAX_SERVERS c.a
        (let h = (is_accepted-parts site c accepted).1 in rw is at h) in
        let few = bounds.1 in
        let begun : IsBusyBut (c.a - s.busy) (handled + 1) (record s { servers = c.a }) = record {
          rules = record { at_least = bounds.0; at_most = few; small = f.rules.small; service = f.rules.service };
          busy = f.busy;
          line = inr (omega arith);
          length_max = f.length_max;
          done = omega (arith, f.done);
          lost = omega (arith, f.lost);
        } in
        let begin = reaction (record s { servers = c.a }) a in
        let rest = start_times-good (c.a - s.busy) 0 (handled + 1) begin begun (grown-none net now a) in
        let r = start_times (c.a - s.busy) net site now begin in
        record {
          holds = busy_fits (handled + 1) r.state rest.holds;
          grown = grown-more net now (0 + (c.a - s.busy)) MAX_SENDS a r.out rest.grown (omega arith);
        }
    server_change-good handled Every c s is accepted f =
        record { holds = server-later handled s f; grown = grown-same net now MAX_SENDS a }
    server_change-good handled Hold c s is accepted f =
        record { holds = server-later handled s f; grown = grown-same net now MAX_SENDS a }
    server_change-good handled Weight c s is accepted f =
        record { holds = server-later handled s f; grown = grown-same net now MAX_SENDS a }

    -- so it does for every change
    server_set-good : (handled : ℕ) (c : Change) (s : ServerState) → FitsServer handled s
        → Holds (FitsServer (handled + 1)) MAX_SENDS a (server_set net site now c s a)
    server_set-good handled c s f = by (is_accepted site c) refl
      where
        -- by whether it takes the change
        by : (t : Bool) → is_accepted site c ≡ t
            → Holds (FitsServer (handled + 1)) MAX_SENDS a
            (if t then server_change net site now c.param c.a c.b s a else reaction s a)
        by true accepted = server_change-good handled c.param c s refl accepted f
        by false refused = record { holds = server-later handled s f; grown = grown-same net now MAX_SENDS a }

    -- ---- server_on

    -- for every message, a server keeps its invariant, and sends as stations send
    pub server_on-good : (handled : ℕ) (p : Payload) (s : ServerState) → FitsServer handled s
        → Holds (FitsServer (handled + 1)) MAX_SENDS a (server_on net site now p s a)
    server_on-good handled (Job j) s f = server_job-good handled j s f
    server_on-good handled (Done j) s f = server_done-good handled j s f
    server_on-good handled (Set c) s f = server_set-good handled c s f
    server_on-good handled Tick s f =
        record { holds = server-later handled s f; grown = grown-same net now MAX_SENDS a }
