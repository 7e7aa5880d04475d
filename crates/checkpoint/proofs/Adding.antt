-- The effect of sending on a sender's messages: their jobs, and the number of ticks and completions among them.
use Rattle.std.proofs.Common.{◌≡◌, ℕ, ◌+◌, ◌-◌, ◌*◌, ◌%◌, ◌<◌, ◌≤◌, ◌⊎◌, inl, inr, List, [], ◌∷◌, ◌++◌}
use Rattle.std.proofs.Common.{refl, sym, ap, ◌∙◌, subst, append_assoc, append-nil, Option, Some, None}
use Rattle.std.proofs.Common.{slice_get, arith, true}
use Rattle.std.specs.List.{AllByRecursion}
use Rattle.sim_base.proofs.ListLaws.{all_append}
use Rattle.sim_base.specs.declared.message.Msg.{Msg}
use Rattle.sim_base.specs.declared.message.Job.{Job as JobOf}
use Rattle.sim_base.specs.declared.message.Payload.{Payload}
use Rattle.sim_base.specs.declared.message.Payload.TheVariants.{Job}
use Rattle.net_model.specs.declared.station.Link.{Link}
use Rattle.net_model.specs.declared.limits.TheConstants.{MAX_TIME}
use Rattle.net_model.specs.Net.{Net}
use Rattle.net_model.specs.Rules.{IsLink, IsRange}
use Rattle.sim_draw.specs.Drawing.{DrawsView, range_of, next_of}
use Rattle.stations.specs.Sending.{Outgoing, draw, send_later, send_over, after_pick, link_by, route_by}
use Rattle.stations.proofs.Places.{AllByRecursion-slice_get}
use Rattle.checkpoint.specs.Tally.{tally}
use Rattle.checkpoint.proofs.Tallying.{tally-append}
use Rattle.checkpoint.specs.RunKeeps.{CarriesJobOf, ticks_in, completions_in}
use Rattle.stations.specs.Fitting.{is_job_of}

-- a number drawn from a range is at most its upper end
pub range_of-le : (lo hi : ℕ) (d : DrawsView) → lo ≤ hi → range_of lo hi d ≤ hi
range_of-le lo hi d le =
    let n : ℕ = hi - lo + 1 in
    let x : ℕ = next_of d in
    let r : x % n < n = omega arith in
    omega (arith, r)

module _ (net : Net) (now : ℕ) where
  -- a message that station s sends in a run at `now`: a tick or a completion is for s itself
  pub record IsRunSend (s : ℕ) (m : Msg) : Type 0 where
    pub job : CarriesJobOf net m.payload
    pub time_max : m.key.time ≤ now + 2 * MAX_TIME
    pub to_itself : (ticks_in m.payload + completions_in m.payload ≡ 0) ⊎ (m.to ≡ s)

  -- b is a after more messages, of which t are ticks and d are service completions
  pub record Adds (t d : ℕ) (a b : Outgoing) : Type 0 where
    pub station : b.sender.station ≡ a.sender.station
    pub seed : b.sender.draws.seed ≡ a.sender.draws.seed
    pub stream : b.sender.draws.stream ≡ a.sender.draws.stream
    pub more : List Msg
    pub sends : b.sends ≡ a.sends ++ more
    pub are : AllByRecursion (IsRunSend a.sender.station) more
    pub ticks : tally (λ m. ticks_in m.payload) more ≡ t
    pub completions : tally (λ m. completions_in m.payload) more ≡ d

  -- nothing is sent
  pub adds-none : (a : Outgoing) → Adds 0 0 a a
  adds-none a = record {
    station = refl;
    seed = refl;
    stream = refl;
    more = [];
    sends = sym (append-nil a.sends);
    are = tt;
    ticks = refl;
    completions = refl;
  }

  -- two steps in a row
  pub adds-trans : (t d u e : ℕ) (a b c : Outgoing) → Adds t d a b → Adds u e b c → Adds (t + u) (d + e) a c
  adds-trans t d u e a b c g h =
      let gt = g.ticks in
      let ht = h.ticks in
      let gd = g.completions in
      let hd = h.completions in
      record {
        station = h.station ∙ g.station;
        seed = h.seed ∙ g.seed;
        stream = h.stream ∙ g.stream;
        more = g.more ++ h.more;
        sends = h.sends ∙ (ap (λ s. s ++ h.more) g.sends ∙ append_assoc a.sends g.more h.more);
        are = all_append (IsRunSend a.sender.station) g.more h.more g.are
            (subst (λ (s : ℕ). AllByRecursion (IsRunSend s) h.more) g.station h.are);
        ticks = let both = tally-append (λ (m : Msg). ticks_in m.payload) g.more h.more in omega (arith, both, gt, ht);
        completions =
            let both = tally-append (λ (m : Msg). completions_in m.payload) g.more h.more in
            omega (arith, both, gd, hd);
      }

  -- equal numbers of ticks and completions
  pub adds-as : (t d u e : ℕ) (a b : Outgoing) → Adds t d a b → t ≡ u → d ≡ e → Adds u e a b
  adds-as t d u e a b g p q = record {
    station = g.station;
    seed = g.seed;
    stream = g.stream;
    more = g.more;
    sends = g.sends;
    are = g.are;
    ticks = g.ticks ∙ p;
    completions = g.completions ∙ q;
  }

  -- a message goes to the station itself, after a time drawn from a range
  pub adds-later : (a : Outgoing) (lo hi : ℕ) (p : Payload) → IsRange 1 lo hi → CarriesJobOf net p →
      Adds (ticks_in p) (completions_in p) a (send_later now lo hi p a)
  adds-later a lo hi p range own =
      let below = range_of-le lo hi a.sender.draws range.ordered in
      let small = range.small in
      record {
        station = refl;
        seed = refl;
        stream = refl;
        more = record {
          key = record {
            time = now + range_of lo hi a.sender.draws;
            sender = a.sender.station;
            number = a.sender.next;
          };
          to = a.sender.station;
          payload = p;
        } ∷ [];
        sends = refl;
        are = (record { job = own; time_max = omega (arith, below, small); to_itself = inr refl }, tt);
        ticks = omega arith;
        completions = omega arith;
      }

  -- a link is picked
  pub adds-picked : (weights : List ℕ) (a : Outgoing) → Adds 0 0 a (after_pick weights a)
  adds-picked [] a = adds-none a
  adds-picked (w ∷ []) a = adds-none a
  adds-picked (w ∷ v ∷ ws) a = record {
    station = refl;
    seed = refl;
    stream = refl;
    more = [];
    sends = sym (append-nil a.sends);
    are = tt;
    ticks = refl;
    completions = refl;
  }

  -- a word is drawn
  pub adds-drawn : (a : Outgoing) → Adds 0 0 a (draw a)
  adds-drawn a = record {
    station = refl;
    seed = refl;
    stream = refl;
    more = [];
    sends = sym (append-nil a.sends);
    are = tt;
    ticks = refl;
    completions = refl;
  }

  module _ (links : List Link) (valid : AllByRecursion (IsLink net) links) where
    -- a job goes over a link
    pub adds-over : (link : Option Link) (i time : ℕ) (j : JobOf) (a : Outgoing) → link ≡ slice_get links i →
        time ≤ now + MAX_TIME → is_job_of net j ≡ true → Adds 0 0 a (send_over link time j a)
    adds-over None i time j a is soon own = adds-none a
    adds-over (Some link) i time j a is soon own =
        let small = (AllByRecursion-slice_get (IsLink net) links i link valid (sym is)).small in
        record {
          station = refl;
          seed = refl;
          stream = refl;
          more = record {
            key = record { time = time + link.delay; sender = a.sender.station; number = a.sender.next };
            to = link.to;
            payload = Job j;
          } ∷ [];
          sends = refl;
          are = (record { job = own; time_max = omega (arith, small); to_itself = inl refl }, tt);
          ticks = refl;
          completions = refl;
        }

    -- a job goes over a link that is picked by weights
    pub adds-route : (weights : List ℕ) (j : JobOf) (a : Outgoing) → is_job_of net j ≡ true →
        Adds 0 0 a (route_by links weights now j a)
    adds-route weights j a own =
        let picked = after_pick weights a in
        adds-trans 0 0 0 0 a picked (send_over (link_by links weights a) now j picked) (adds-picked weights a)
        (adds-over (link_by links weights a) _ now j picked refl (omega arith) own)

    -- a link is picked, and a job goes over it after a time drawn from a range
    pub adds-held : (weights : List ℕ) (lo hi : ℕ) (j : JobOf) (a : Outgoing) → lo ≤ hi → hi ≤ MAX_TIME →
        is_job_of net j ≡ true →
        Adds 0 0 a (send_over (link_by links weights a) (now + range_of lo hi (after_pick weights a).sender.draws) j
        (draw (after_pick weights a)))
    adds-held weights lo hi j a ordered small own =
        let picked = after_pick weights a in
        let below = range_of-le lo hi picked.sender.draws ordered in
        adds-trans 0 0 0 0 a picked _ (adds-picked weights a)
        (adds-trans 0 0 0 0 picked (draw picked) _ (adds-drawn picked)
        (adds-over (link_by links weights a) _ (now + range_of lo hi picked.sender.draws) j (draw picked) refl
        (omega (arith, below, small)) own))
