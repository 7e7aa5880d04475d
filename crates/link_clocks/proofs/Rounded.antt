-- A round of link clocks is a step from the clocks to the next ones.
use Rattle.std.proofs.Common.{◌≡◌, ℕ, suc, ◌+◌, ◌<◌, List, sym, subst, arith, length, slice_index, ◌∙◌, ap}
use Rattle.std.proofs.lemmas.List.{get_or_default}
use Rattle.sim_base.specs.Clones.{Clone}
use Rattle.net_model.specs.Net.{Net}
use Rattle.phys_proc.specs.Procs.{ProcView}
use Rattle.station_steps.specs.Windows.{AreBounds, AreStations, bound_of}
use Rattle.world_core.specs.declared.advancing.Stations.{Stations}
use Rattle.world_core.specs.declared.world.WorldFault.{WorldFault}
use Rattle.world_core.specs.Cuts.{CutStands, HasSteppedTo, IsStepTo}
use Rattle.link_laws.proofs.Clocks.{clock-within, clocks_make_rounds}
use Rattle.link_clocks.specs.NetClocks.{HasClocks, clock, delays_of}
use Rattle.link_clocks.specs.LinkWorlds.{IsRoundFault, LinkStands, LinkView, NoneBeyondAfter, total_after}
use Rattle.link_clocks.proofs.OnLinks.{net_keeps_to_links}

-- a world in rounds at these stations, of which others are a copy
pub unboxed : (y x : Stations) (rounds : ℕ) (now next : List ℕ) (w : LinkView) → y ≡ x →
    LinkStands x.model.value x.lists.clones x.ends rounds now next x.procs.items →
    ◌≡◌ {A = LinkView} (record { net = x.model.value; clones = x.lists.clones; rounds = rounds }) w →
    LinkStands y.model.value y.lists.clones y.ends rounds now next y.procs.items
    × (◌≡◌ {A = LinkView} (record { net = y.model.value; clones = y.lists.clones; rounds = rounds }) w)
unboxed y x rounds now next w e stands is = (
  subst (λ (z : Stations). LinkStands z.model.value z.lists.clones z.ends rounds now next z.procs.items) (sym e) stands,
  subst (λ (z : Stations). ◌≡◌ {A = LinkView} (record {
    net = z.model.value;
    clones = z.lists.clones;
    rounds = rounds;
  }) w) (sym e) is,
)

module _ (net : Net) (cs : List Clone) (ended : List (ℕ × ℕ)) (k : ℕ) (now next : List ℕ) (procs : List ProcView)
    (w : LinkView) (world : LinkStands net cs ended k now next procs)
    (is : ◌≡◌ {A = LinkView} (record { net = net; clones = cs; rounds = k }) w) (bounds times : List ℕ)
    (bounds_are : bounds ≡ times) (times_are : times ≡ next) where
  -- the bound of each station is its next clock
  bound-clock : (i : ℕ) → i < length procs → bound_of bounds i ≡ clock net (suc k) (i + 1)
  bound-clock i l = ap (λ bs. slice_index bs i) (bounds_are ∙ times_are)
      ∙ world.clocks_are.next_are.each i (let n = world.stands.count in omega (arith, l, n))

  bound-count : length bounds ≡ length procs
  bound-count = let e = ap length (bounds_are ∙ times_are) in let n = world.stands.count in let m =
      world.clocks_are.next_are.count in
      omega (arith, e, n, m)

  -- the stations may be stepped to these bounds
  pub may_step : AreStations net procs × AreBounds net procs bounds
  may_step = (
    record {
      at_most = let n = world.stands.count in let few = world.stands.valid.at_most in omega (arith, n, few);
      procs_in_order = λ i p got. (world.stands.each i p got).station;
    },
    record {
      count = bound-count;
      time_max = λ i d l. let count = bound-count in let c = bound-clock i (omega (arith, l, count)) in
          let b = clock-within (delays_of net) (length net.sites) net.horizon (suc k) (i + 1) in
          let r = get_or_default bounds i d 0 l in
          omega (arith, c, b, r);
    },
  )

  -- the step to the next clocks
  pub round_is_step : IsStepTo net cs ended (clock net k) (clock net (suc k)) bounds procs
  round_is_step = record {
    stands = world.stands;
    round = clocks_make_rounds (delays_of net) (net_keeps_to_links net world.stands.valid) k cs;
    bounds_are = bound-clock;
  }

  -- the world after the round
  pub stands_after : (n : Net) (ds : List Clone) (es : List (ℕ × ℕ)) (j old new : ℕ) (after later : List ℕ)
      (given : List ProcView) → n ≡ net → ds ≡ cs → es ≡ ended → j ≡ suc k → HasClocks n j after later →
      HasSteppedTo net cs ended (clock net k) (clock net (suc k)) old new given →
      LinkStands n ds es j after later given
  stands_after n ds es j old new after later given e f g one are h = record {
    stands = subst (λ m. CutStands m ds es (clock m j) given) (sym e)
        (subst (λ l. CutStands net l es (clock net j) given) (sym f)
        (subst (λ l. CutStands net cs l (clock net j) given) (sym g)
        (subst (λ i. CutStands net cs ended (clock net i) given) (sym one) h.stands)));
    clocks_are = are;
  }

  -- what the step says of the view
  pub seen_after : (old new : ℕ) (given : List ProcView) →
      HasSteppedTo net cs ended (clock net k) (clock net (suc k)) old new given →
      (new + total_after w.net w.clones w.rounds ≡ old + total_after w.net w.clones (suc w.rounds))
      × NoneBeyondAfter w.net w.clones (suc w.rounds)
  seen_after old new given h = subst (λ (v : LinkView).
      (new + total_after v.net v.clones v.rounds ≡ old + total_after v.net v.clones (suc v.rounds))
      × NoneBeyondAfter v.net v.clones (suc v.rounds)) is (h.steps, h.length_max)

  -- and of a fault
  pub fault_after : (old new : ℕ) (e : WorldFault) → IsRoundFault net cs k old new e →
      IsRoundFault w.net w.clones w.rounds old new e
  fault_after old new e h = subst (λ (v : LinkView). IsRoundFault v.net v.clones v.rounds old new e) is h
